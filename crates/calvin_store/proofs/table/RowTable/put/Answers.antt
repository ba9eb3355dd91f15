use Rattle.std.proofs.Common.{◌-◌, sym, ap, ◌∙◌, Some}
use Rattle.std.proofs.lemmas.Result.{IfOk-at_ok}
use Rattle.std.specs.FinMap as map
use Rattle.std.specs.HashMap.{Updates}
use Rattle.calvin_types.specs.SameKeys.{equal_keys}
use Rattle.calvin_app.proofs.Results.{on_ok}
use Rattle.calvin_app.proofs.RowTables.{row_put, get-row}
use Rattle.calvin_store.proofs.table.RowTable.put.Goals as goal

pub returns-clause-new : goal.returns-clause-new
returns-clause-new g c =
    let rows = c.self.inside.rows in
    let put = on_ok (Updates equal_keys rows c.insert-put.new.self c.args.key (Some c.args.row)) c.insert-put.result c.unwrap-had.result c.unwrap-had.ensures c.insert-put.ensures.updates in
    let is = row_put rows.entries c.insert-put.new.self.entries c.args.key c.args.row put.0 ∙ ap (λ k. map.insert k.rows c.args.key c.args.row) c.self.view_is in
    λ i. record { rows = is i; room = (c.self.view_is i).room - 1 }

pub returns-clause-had : goal.returns-clause-had
returns-clause-had g c = IfOk-at_ok _ c.unwrap-had.ensures c.insert-put.ensures.old ∙ sym (get-row c.self.inside.rows.entries c.args.key) ∙ ap (λ k. map.get k.rows c.args.key) c.self.view_is
