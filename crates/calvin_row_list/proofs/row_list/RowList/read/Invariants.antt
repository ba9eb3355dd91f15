use Rattle.std.proofs.Common.{◌≡◌, ◌≤◌, take, vec_len, vec_capacity}
use Rattle.std.specs.FinMap as map
use Rattle.calvin_app.specs.Rows.{view}
use Rattle.calvin_row_list.proofs.row_list.RowList.read.Given as goal

abbrev pub invariant-loop-i : goal.invariant-loop-i
invariant-loop-i g l = record {
  so_far : l.self-inside.entries.items ≡ map.entries (view (g.L.Look.shown l.rows) (take l.i l.keys));
  number : vec_len l.self-inside.entries ≤ l.i;
  room : vec_capacity l.self-inside.entries ≡ l.fn.self.room;
}
