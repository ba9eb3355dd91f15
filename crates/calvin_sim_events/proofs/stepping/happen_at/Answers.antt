use Rattle.std.proofs.Common.{refl}
use Rattle.std.proofs.lemmas.Result.{on_ok_weaker}
use Rattle.calvin_sim_events.specs.Quiet.{everyone}
use Rattle.calvin_sim_events.specs.declared.schedule.Restarts.TheVariants.{Never}
use Rattle.calvin_sim_events.proofs.stepping.happen_at.Goals as goal

pub returns-clause-quiet : goal.returns-clause-quiet
returns-clause-quiet g c = on_ok_weaker c.attempt.result (λ by. by.quiet) (c.attempt.ensures.quiet Never everyone c.requires refl)

pub returns-clause-want : goal.returns-clause-want
returns-clause-want g c = c.attempt.ensures.want Never everyone c.requires refl
