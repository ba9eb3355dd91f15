use Rattle.std.proofs.Common.{◌≡◌, take}
use Rattle.calvin_once.proofs.endings.before.Given as goal

abbrev pub invariant-loop-i : goal.invariant-loop-i
invariant-loop-i l = l.others ≡ take l.i l.keys
