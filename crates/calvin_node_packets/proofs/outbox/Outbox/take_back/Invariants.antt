use Rattle.std.proofs.Common.{◌≡◌, ◌≤◌, length, take}
use Rattle.calvin_node_packets.proofs.outbox.Outbox.take_back.Given as goal

abbrev pub invariant-loop-self : goal.invariant-loop-self
invariant-loop-self g l = record {
  packets : take l.first l.self.packets ≡ take l.first l.fn.self.packets;
  long : l.first ≤ length l.self.packets;
  room : l.fn.self.room ≤ l.self.room;
}

abbrev pub decreases-loop-self : goal.decreases-loop-self
decreases-loop-self g l = length l.self.packets
