-- Packets by their senders. The notions are of this project.
--     sent_by sender packets      those that a node sent
--     name_of packets number p      the name of the packet of this number
--     IsNamed packets name number      the packet of this number has this name
use Rattle.std.specs.Prelude.{◌≡◌, ℕ, List, length, take, Some, slice_get}
use Rattle.std.specs.List.{filter}
use Rattle.calvin_types.specs.declared.place.NodeId.{NodeId}
use Rattle.calvin_node_packets.specs.Packets.{same_node}
use Rattle.calvin_node_packets.specs.declared.packet.Packet.{Packet}
use Rattle.calvin_world.specs.declared.naming.PacketName.{PacketName}

module _ {Args Row Reply : Type 0} where
  abbrev pub sent_by : NodeId → List (Packet Args Row Reply) → List (Packet Args Row Reply)
  sent_by sender packets = filter (λ p. same_node p.from sender) packets

  -- who sent it, and how many that node had sent before
  abbrev pub name_of : List (Packet Args Row Reply) → ℕ → Packet Args Row Reply → PacketName
  name_of packets number p = record { sender = p.from; number = length (sent_by p.from (take number packets)) }

  abbrev pub IsNamed : List (Packet Args Row Reply) → PacketName → ℕ → Type 0
  IsNamed packets name number = (p : Packet Args Row Reply) × (slice_get packets number ≡ Some p) × (name_of packets number p ≡ name)
