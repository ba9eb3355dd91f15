use Rattle.std.proofs.Common.{◌≡◌, take}
use Rattle.calvin_cluster_desk.proofs.desk.write_all.Given as goal

-- what is written so far
abbrev pub invariant-loop-number : goal.invariant-loop-number
invariant-loop-number g l = l.pen ≡ take l.number l.events.items
