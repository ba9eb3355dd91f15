use Rattle.std.proofs.Common.{◌+◌, drop, sym, ◌∙◌, ap, arith, Some}
use Rattle.std.specs.FinMap as map
use Rattle.std.specs.HashMap.{Updates}
use Rattle.calvin_types.specs.SameKeys.{equal_keys}
use Rattle.calvin_types.proofs.Fews.{drop_at}
use Rattle.calvin_app.specs.Rows.{overwritten}
use Rattle.calvin_app.proofs.Results.{on_ok}
use Rattle.calvin_app.proofs.RowTables.{same_rows, row_put}
use Rattle.calvin_app.proofs.table.Table.overwrite.Goals as goal

pub loop-i-init : goal.loop-i-init
loop-i-init g c = record {
  so_far = ap (λ m. overwritten m c.args.writes.now) (same_rows c.self.inside.rows.entries c.reserve.new.self.entries c.reserve.ensures.entries.2 ∙ c.self.view_is);
  room = omega (arith, c.in_ok-reserve.ensures.ok, c.len.ensures.len);
}

pub loop-i-preserved : goal.loop-i-preserved
loop-i-preserved g c =
    let rows = c.loop-i.self-inside.rows in
    let put = on_ok (Updates equal_keys rows c.insert-put.new.self c.at-row.result.0 (Some c.at-row.result.1)) c.insert-put.result c.unwrap-before.result c.unwrap-before.ensures c.insert-put.ensures.updates in
    record {
      so_far = ap (λ m. overwritten m (drop (c.loop-i.i + 1) c.args.writes.now)) (row_put rows.entries c.insert-put.new.self.entries c.at-row.result.0 c.at-row.result.1 put.0)
          ∙ ap (overwritten (map.from_entries rows.entries)) (sym (drop_at c.args.writes.now c.loop-i.i c.at-row.result c.at-row.ensures))
          ∙ c.loop-i.invariant.so_far;
      room = omega (arith, c.insert-put.ensures.spare, c.loop-i.invariant.room);
    }
