-- The writes so far are stored here.
use Rattle.std.proofs.Common.{◌≡◌, take}
use Rattle.calvin_types.specs.Participants.{site}
use Rattle.calvin_sched.specs.Scheduling.{local_writes}
use Rattle.calvin_sched.proofs.finishing.are_local.Given as goal

abbrev pub invariant-loop-i : goal.invariant-loop-i
invariant-loop-i g l = take l.i l.writes ≡ local_writes (site l.config.partitions l.partition) (take l.i l.writes)
