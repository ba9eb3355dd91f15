use Rattle.std.proofs.Common.{◌≡◌, ◌≤◌, length, not}
use Rattle.std.specs.Prelude.{◌==◌}
use Rattle.std.specs.List.{filter, range_with_len}
use Rattle.calvin_node_packets.proofs.letters.others.Given as goal

abbrev pub invariant-loop-partition : goal.invariant-loop-partition
invariant-loop-partition l = record {
  so_far : l.partitions ≡ filter (λ p. not (p == l.own)) (range_with_len 0 l.partition);
  number : length l.partitions ≤ l.partition;
}
