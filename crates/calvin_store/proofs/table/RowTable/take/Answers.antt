use Rattle.std.proofs.Common.{sym, ap, ◌∙◌}
use Rattle.std.specs.FinMap as map
use Rattle.calvin_app.proofs.RowTables.{get-row}
use Rattle.calvin_store.proofs.RowsTaken.{row_taken}
use Rattle.calvin_store.proofs.table.RowTable.take.Goals as goal

pub returns-clause-new : goal.returns-clause-new
returns-clause-new g c =
    let is = row_taken c.self.inside.rows.entries c.remove.new.self.entries c.args.key.now c.remove.ensures.updates.0 ∙ ap (λ k. map.remove k.rows c.args.key.now) c.self.view_is in
    λ i. record { rows = is i; room = (c.self.view_is i).room }

pub returns-clause-had : goal.returns-clause-had
returns-clause-had g c = c.remove.ensures.value ∙ sym (get-row c.self.inside.rows.entries c.args.key.now) ∙ ap (λ k. map.get k.rows c.args.key.now) c.self.view_is
