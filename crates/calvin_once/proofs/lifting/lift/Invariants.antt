use Rattle.std.proofs.Common.{◌≡◌, take}
use Rattle.calvin_once.specs.Once.{as_rows}
use Rattle.calvin_once.proofs.lifting.lift.Given as goal

abbrev pub invariant-loop-key : goal.invariant-loop-key
invariant-loop-key g l = l.lifted.items ≡ as_rows (take l.key-index l.rows)
