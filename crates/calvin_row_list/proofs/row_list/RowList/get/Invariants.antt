use Rattle.std.proofs.Common.{◌≡◌, drop}
use Rattle.std.specs.FinMap as map
use Rattle.calvin_types.specs.Keys.{key_cmp}
use Rattle.calvin_row_list.proofs.row_list.RowList.get.Given as goal

abbrev pub invariant-loop-i : goal.invariant-loop-i
invariant-loop-i g l = map.find key_cmp l.key (drop l.i l.self-inside.entries.items) ≡ map.find key_cmp l.key l.self-inside.entries.items
