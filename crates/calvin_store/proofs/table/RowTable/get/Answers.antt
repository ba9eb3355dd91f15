use Rattle.std.proofs.Common.{sym, ap, ◌∙◌}
use Rattle.std.specs.FinMap as map
use Rattle.calvin_app.proofs.RowTables.{get-row}
use Rattle.calvin_store.proofs.table.RowTable.get.Goals as goal

pub returns : goal.returns
returns g c = c.copied.ensures ∙ c.get.ensures.value ∙ sym (get-row c.self.inside.rows.entries c.args.key.now) ∙ ap (λ k. map.get k.rows c.args.key.now) c.self.view_is
