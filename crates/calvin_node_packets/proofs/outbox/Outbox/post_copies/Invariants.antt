use Rattle.std.proofs.Common.{◌≡◌, ◌++◌, take}
use Rattle.calvin_node_packets.specs.Packets.{to_each}
use Rattle.calvin_node_packets.proofs.outbox.Outbox.post_copies.Given as goal

abbrev pub invariant-loop-i : goal.invariant-loop-i
invariant-loop-i g l = l.self.packets ≡ l.fn.self.packets ++ to_each l.from l.replica l.content (take l.i l.partitions)
