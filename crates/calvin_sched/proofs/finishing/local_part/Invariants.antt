use Rattle.std.proofs.Common.{◌≡◌, ◌≤◌, length, take}
use Rattle.calvin_types.specs.Participants.{site}
use Rattle.calvin_sched.specs.Scheduling.{local_writes}
use Rattle.calvin_sched.proofs.finishing.local_part.Given as goal

abbrev pub invariant-loop-i : goal.invariant-loop-i
invariant-loop-i g l = record {
  so_far : l.part ≡ local_writes (site l.config.partitions l.partition) (take l.i l.writes);
  room : length l.part ≤ l.i;
}
