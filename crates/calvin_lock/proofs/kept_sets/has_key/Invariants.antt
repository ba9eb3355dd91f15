use Rattle.std.proofs.Common.{◌≡◌, drop}
use Rattle.calvin_types.specs.Keys.{has}
use Rattle.calvin_lock.proofs.kept_sets.has_key.Given as goal

abbrev pub invariant-loop-i : goal.invariant-loop-i
invariant-loop-i l = has (drop l.i l.keys) l.key ≡ has l.keys l.key
