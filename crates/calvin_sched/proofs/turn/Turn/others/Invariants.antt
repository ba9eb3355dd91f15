use Rattle.std.proofs.Common.{◌≡◌, ◌≤◌, length, not, ◌&&◌}
use Rattle.std.specs.Prelude.{◌==◌}
use Rattle.std.specs.List.{filter, range_with_len}
use Rattle.calvin_types.specs.Participants.{site, is_active}
use Rattle.calvin_sched.proofs.turn.Turn.others.Given as goal

abbrev pub invariant-loop-other : goal.invariant-loop-other
invariant-loop-other g l = record {
  so_far : l.others ≡ filter (λ p. not (p == l.partition) && is_active (site l.config.partitions p) l.self.turn.request) (range_with_len 0 l.other);
  number : length l.others ≤ l.other;
}
