use Rattle.std.proofs.Common.{◌≡◌, drop}
use Rattle.std.specs.List.{list_any}
use Rattle.calvin_types.specs.Keys.{has}
use Rattle.calvin_lock.proofs.conflict.meets.Given as goal

abbrev pub invariant-loop-i : goal.invariant-loop-i
invariant-loop-i l = list_any (has l.b) (drop l.i l.a) ≡ list_any (has l.b) l.a
