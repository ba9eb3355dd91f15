use Rattle.std.proofs.Common.{◌≡◌, ◌++◌}
use Rattle.calvin_node_packets.specs.Packets.{to_replicas}
use Rattle.calvin_node_packets.proofs.outbox.Outbox.post_to_all.Given as goal

abbrev pub invariant-loop-replica : goal.invariant-loop-replica
invariant-loop-replica g l = l.self.packets ≡ l.fn.self.packets ++ to_replicas l.replica l.from l.content
