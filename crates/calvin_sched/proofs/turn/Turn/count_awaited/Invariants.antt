use Rattle.std.proofs.Common.{◌≡◌, ◌≤◌, length}
use Rattle.std.specs.List.{filter, range_with_len}
use Rattle.calvin_types.specs.Participants.{site}
use Rattle.calvin_sched.specs.Scheduling.{awaits}
use Rattle.calvin_sched.proofs.turn.Turn.count_awaited.Given as goal

abbrev pub invariant-loop-from : goal.invariant-loop-from
invariant-loop-from g l = record {
  so_far : l.count ≡ length (filter (awaits (site l.config.partitions l.partition) l.self.turn) (range_with_len 0 l.from));
  number : l.count ≤ l.from;
}
