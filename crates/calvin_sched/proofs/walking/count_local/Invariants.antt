-- Those that are left are still to be counted.
use Rattle.std.proofs.Common.{◌≡◌, ◌+◌, ◌<◌, ◌^◌, length}
use Rattle.calvin_types.specs.Participants.{site}
use Rattle.calvin_sched.specs.Standing.{local_places}
use Rattle.calvin_sched.proofs.walking.count_local.Given as goal

abbrev pub invariant-loop-txn : goal.invariant-loop-txn
invariant-loop-txn g l = record {
  to_come : l.count + length (local_places (site l.config.partitions l.partition) l.txn-iterator) ≡ length (local_places (site l.config.partitions l.partition) l.initial.txn-iterator);
  fits : l.count + length l.txn-iterator < 2 ^ 64;
}
