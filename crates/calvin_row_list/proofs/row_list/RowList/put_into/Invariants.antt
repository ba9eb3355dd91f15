use Rattle.std.proofs.Common.{◌≡◌, ◌≤◌, take}
use Rattle.std.specs.FinMap as map
use Rattle.calvin_app.specs.Entries.{shown}
use Rattle.calvin_row_list.proofs.row_list.RowList.put_into.Given as goal

abbrev pub invariant-loop-i : goal.invariant-loop-i
invariant-loop-i g l = record {
  so_far : l.view ≡ shown (take l.i l.self-inside.entries.items);
  number : map.len l.view ≤ l.i;
}
