-- The theorem at the application's law.
use Rattle.std.proofs.Common.{◌≡◌, ℕ, false, refl, Option, Some, None}
use Rattle.calvin_text.specs.Texts.{finished, finished_at}
use Rattle.calvin_report.specs.Replies.{epochs_upto}
use Rattle.calvin_report.proofs.Serially.{one_text}
use Rattle.calvin_report.proofs.AllStanding.{finished_text, finished_chosen, kept_text, kept_chosen}
use Rattle.calvin_report.proofs.serial.told_is_serial.Goals as goal

pub returns-clause-first : goal.returns-clause-first
returns-clause-first g c = λ config events outcomes v leads n stand B chosen show. one_text _ g.met.A.App.lawful.writes_within_the_sets config events outcomes v leads n B chosen (λ r. false) (λ some. record { stand = λ id x node kept. stand id x node; other = λ r less. (r, less, refl) }) show

pub returns-clause-finished : goal.returns-clause-finished
returns-clause-finished g c = λ config events outcomes v leads B chosen show. finished_text _ g.met.A.App.lawful.writes_within_the_sets config events outcomes v leads B chosen show

pub returns-clause-chosen : goal.returns-clause-chosen
returns-clause-chosen g c = λ config events outcomes v leads. finished_chosen _ g.met.A.App.lawful.writes_within_the_sets config events outcomes v leads

pub returns-clause-kept : goal.returns-clause-kept
returns-clause-kept g c = λ config events outcomes v leads lost B chosen show. kept_text _ g.met.A.App.lawful.writes_within_the_sets config events outcomes v leads lost B chosen show

pub returns-clause-kept_chosen : goal.returns-clause-kept_chosen
returns-clause-kept_chosen g c = λ config events outcomes v leads lost. kept_chosen _ g.met.A.App.lawful.writes_within_the_sets config events outcomes v leads lost

last_line : (o : Option ℕ) → finished_at o ≡ finished (epochs_upto o)
last_line None = refl
last_line (Some e) = refl

pub returns-clause-last : goal.returns-clause-last
returns-clause-last g c = last_line
