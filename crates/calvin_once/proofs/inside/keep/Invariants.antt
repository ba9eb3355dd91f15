use Rattle.std.proofs.Common.{◌≡◌, take}
use Rattle.calvin_once.specs.Once.{as_rows}
use Rattle.calvin_once.proofs.inside.keep.Given as goal

abbrev pub invariant-loop-i : goal.invariant-loop-i
invariant-loop-i g l = l.writes ≡ as_rows (take l.i l.done)
