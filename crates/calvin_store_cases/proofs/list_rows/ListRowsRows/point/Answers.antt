use Rattle.std.proofs.Common.{ap, ◌≡◌, ◌∙◌}
use Rattle.std.proofs.lemmas.Result.{IfOk-weaker}
use Rattle.std.specs.FinMap as map
use Rattle.calvin_app.specs.Entries.{shown}
use Rattle.calvin_app.proofs.Views.{shown_none}
use Rattle.calvin_store_cases.proofs.list_rows.ListRowsRows.point.Goals as goal

pub returns-clause-ok : goal.returns-clause-ok
returns-clause-ok g c = IfOk-weaker c.new-2.result (λ s. s ≡ shown c.new.result.items) (λ s. s ≡ map.empty) (λ s e. e ∙ ap shown c.new.ensures.items ∙ shown_none) c.new-2.ensures.ok
