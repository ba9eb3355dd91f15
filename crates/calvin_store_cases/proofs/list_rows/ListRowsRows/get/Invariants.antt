use Rattle.std.proofs.Common.{◌≡◌, drop}
use Rattle.std.specs.FinMap as map
use Rattle.calvin_types.specs.Keys.{key_cmp}
use Rattle.calvin_store_cases.proofs.list_rows.ListRowsRows.get.Given as goal

-- the key is found in what is left of the list as in all of it
abbrev pub invariant-loop-i : goal.invariant-loop-i
invariant-loop-i g l = map.find key_cmp l.key (drop l.i l.self-inside.pairs.items) ≡ map.find key_cmp l.key l.self-inside.pairs.items
