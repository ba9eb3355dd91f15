use Rattle.std.proofs.Common.{◌≡◌, ◌≤◌, ◌-◌, length, drop}
use Rattle.std.specs.FinMap as map
use Rattle.std.specs.HashMap.{spare}
use Rattle.calvin_app.specs.Rows.{overwritten}
use Rattle.calvin_app.proofs.table.Table.overwrite.Given as goal

abbrev pub invariant-loop-i : goal.invariant-loop-i
invariant-loop-i g l = record {
  so_far : overwritten (map.from_entries l.self-inside.rows.entries) (drop l.i l.writes) ≡ overwritten l.fn.self l.writes;
  room : length l.writes - l.i ≤ spare l.self-inside.rows;
}
