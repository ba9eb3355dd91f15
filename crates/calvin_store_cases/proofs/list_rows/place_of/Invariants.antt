use Rattle.std.proofs.Common.{◌≡◌, ◌++◌, take, drop}
use Rattle.std.specs.FinMap as map
use Rattle.calvin_types.specs.Keys.{key_cmp}
use Rattle.calvin_store_cases.proofs.list_rows.place_of.Given as goal

-- each pair so far is below the key
abbrev pub invariant-loop-i : goal.invariant-loop-i
invariant-loop-i g l = (row : g.row.Row.Denot) → map.put key_cmp l.key row l.pairs ≡ take l.i l.pairs ++ map.put key_cmp l.key row (drop l.i l.pairs)
