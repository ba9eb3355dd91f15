use Rattle.std.proofs.Common.{◌≡◌, ◌≤◌, length, take}
use Rattle.calvin_types.specs.Participants.{site}
use Rattle.calvin_sched.specs.Standing.{local_places}
use Rattle.calvin_sched.proofs.progress.count_local.Given as goal

abbrev pub invariant-loop-i : goal.invariant-loop-i
invariant-loop-i g l = record {
  so_far : l.count ≡ length (local_places (site l.config.partitions l.partition) (take l.i l.entries));
  number : l.count ≤ l.i;
}
