use Rattle.std.proofs.Common.{◌≡◌, ◌+◌, ◌≤◌, ◌++◌, length, take}
use Rattle.calvin_node_packets.specs.declared.packet.Content.TheVariants.{Reads}
use Rattle.calvin_node_packets.specs.Packets.{to_each}
use Rattle.calvin_node_packets.proofs.outbox.Outbox.post_reads.Given as goal

abbrev pub invariant-loop-i : goal.invariant-loop-i
invariant-loop-i g l = record {
  sent : l.self.packets ≡ l.fn.self.packets ++ to_each l.from l.from.replica (Reads l.place l.rows.rows) (take l.i l.partitions);
  room : length l.partitions ≤ l.self.room + l.i;
}
