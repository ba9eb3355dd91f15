use Rattle.std.proofs.Common.{◌≡◌, ◌++◌, drop, None}
use Rattle.std.specs.Prelude.{replicate}
use Rattle.calvin_types.proofs.few.Few.clear.Given as goal

-- the places so far are cleared
abbrev pub invariant-loop-i : goal.invariant-loop-i
invariant-loop-i g l = l.self-inside.items ≡ replicate l.i None ++ drop l.i l.initial.self-inside.items
