-- The packets of each sender, by their numbers among all. The notions are of this project.
--     senders_of packets      who sent each of them
--     positions id n senders      the numbers of those that are from a node, counted from n
--     AreListed parts lists senders      each list has those of the node that stands at its place
--     IsListed parts lists id      there is a list for this node
--     IsAt senders name number      the packet of this number is from the name's sender, which had sent so many before
--     next_name senders id      the name of the packet that a node sends next
--     AreThere replicas parts packets      each is from a node of a store with so many replicas and partitions
--     AreNamed packets names      the names of all packets
use Rattle.std.specs.Prelude.{◌≡◌, ℕ, suc, ◌<◌, if◌then◌else◌, List, [], ◌∷◌, length, map, take, Some, slice_get}
use Rattle.std.specs.List.{filter}
use Rattle.calvin_types.specs.declared.place.NodeId.{NodeId}
use Rattle.calvin_node_packets.specs.Packets.{same_node}
use Rattle.calvin_node_packets.specs.declared.packet.Packet.{Packet}
use Rattle.calvin_world.specs.declared.naming.PacketName.{PacketName}
use Rattle.calvin_world.specs.Names.{name_of}
use Rattle.calvin_world.specs.Worlds.{index_of}
use Rattle.calvin_histories.specs.Histories.{id_of}

abbrev pub senders_of : {Args Row Reply : Type 0} → List (Packet Args Row Reply) → List NodeId
senders_of packets = map (λ p. p.from) packets

abbrev pub positions : NodeId → ℕ → List NodeId → List ℕ
positions id n [] = []
positions id n (sender ∷ senders) = if same_node sender id then n ∷ positions id (suc n) senders else positions id (suc n) senders

pub record AreListed (parts : ℕ) (lists : List (List ℕ)) (senders : List NodeId) : Type 0 where
  pub some : 0 < length lists → 0 < parts
  pub each : (i : ℕ) (numbers : List ℕ) → slice_get lists i ≡ Some numbers → numbers ≡ positions (id_of parts i) 0 senders

abbrev pub IsListed : ℕ → List (List ℕ) → NodeId → Type 0
IsListed parts lists id = (id.partition < parts) × (index_of parts id < length lists)

pub record IsAt (senders : List NodeId) (name : PacketName) (number : ℕ) : Type 0 where
  pub sender : slice_get senders number ≡ Some name.sender
  pub before : length (filter (λ id. same_node id name.sender) (take number senders)) ≡ name.number

abbrev pub next_name : List NodeId → NodeId → PacketName
next_name senders id = record { sender = id; number = length (filter (λ sender. same_node sender id) senders) }

module _ {Args Row Reply : Type 0} where
  abbrev pub AreThere : ℕ → ℕ → List (Packet Args Row Reply) → Type 0
  AreThere replicas parts packets = (number : ℕ) (p : Packet Args Row Reply) → slice_get packets number ≡ Some p → (p.from.replica < replicas) × (p.from.partition < parts)

  abbrev pub AreNamed : List (Packet Args Row Reply) → List PacketName → Type 0
  AreNamed packets names = (number : ℕ) (p : Packet Args Row Reply) → slice_get packets number ≡ Some p → slice_get names number ≡ Some (name_of packets number p)
