use Rattle.std.proofs.Common.{◌≡◌, ◌≤◌, take}
use Rattle.std.specs.FinMap as map
use Rattle.calvin_app.specs.Rows.{view}
use Rattle.calvin_app.proofs.look.look_up.Given as goal

abbrev pub invariant-loop-i : goal.invariant-loop-i
invariant-loop-i g l = record {
  so_far : l.seen ≡ view (g.L.Look.shown l.rows) (take l.i l.keys);
  number : map.len l.seen ≤ l.i;
}
