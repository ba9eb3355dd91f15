use Rattle.std.proofs.Common.{◌≡◌, ◌+◌, ◌≤◌, ◌++◌}
use Rattle.std.specs.List.{filter, range_with_len}
use Rattle.calvin_types.specs.declared.limits.TheConstants.{MOST_KEYS}
use Rattle.calvin_types.specs.Participants.{site, has_local_key}
use Rattle.calvin_node_packets.specs.Packets.{warm_packets}
use Rattle.calvin_node_packets.proofs.outbox.Outbox.post_warm.Given as goal

abbrev pub invariant-loop-partition : goal.invariant-loop-partition
invariant-loop-partition g l = record {
  sent : l.self.packets ≡ l.fn.self.packets ++ warm_packets l.config.partitions l.from l.txn (filter (λ p. has_local_key (site l.config.partitions p) l.txn) (range_with_len 0 l.partition));
  room : MOST_KEYS ≤ l.self.room + l.partition;
}
