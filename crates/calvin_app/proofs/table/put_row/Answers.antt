use Rattle.std.proofs.Common.{◌≡◌, Option, Some, sym, ap, ◌∙◌}
use Rattle.std.specs.Option.{is_some}
use Rattle.std.specs.HashMap.{Updates}
use Rattle.std.specs.Map.{lookup}
use Rattle.calvin_types.specs.SameKeys.{equal_keys}
use Rattle.calvin_app.proofs.Results.{on_ok, if_ok}
use Rattle.calvin_app.proofs.RowTables.{row_put, get-row}
use Rattle.calvin_app.proofs.table.put_row.Goals as goal

pub returns-clause-put : goal.returns-clause-put
returns-clause-put g c =
    let put = on_ok (Updates equal_keys c.args.rows.now c.insert-put.new.self c.args.key (Some c.args.row)) c.insert-put.result c.unwrap.result c.unwrap.ensures c.insert-put.ensures.updates in
    row_put c.args.rows.now.entries c.insert-put.new.self.entries c.args.key c.args.row put.0

pub returns-clause-had : goal.returns-clause-had
returns-clause-had g c =
    let old = if_ok (λ (o : Option g.row.Row.Denot). o ≡ lookup (equal_keys c.args.key) c.args.rows.now.entries) c.insert-put.result c.unwrap.result c.unwrap.ensures c.insert-put.ensures.old in
    c.is_some.ensures ∙ ap (λ (o : Option g.row.Row.Denot). is_some o) (old ∙ sym (get-row c.args.rows.now.entries c.args.key))
