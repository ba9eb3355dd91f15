-- What a replica's part in the synods of its group makes of what it is asked, and what its node sends with that. The notion is
-- of this project: a refusal changes nothing, and want of memory comes only where something grows.
--     given_by deed      the batch that a replica's learner gives, if it gives one
--     MemberSent grows result deed replicas partitions me m after sent all      what a call made of a replica, and of what its node sent, by the deed
use Rattle.std.specs.Prelude.{◌≡◌, ℕ, ◌++◌, Bool, true, List, Option, None, Result, Ok, Err}
use Rattle.calvin_types.specs.declared.fault.Fault.{Fault}
use Rattle.calvin_types.specs.declared.fault.Fault.TheVariants.{OutOfMemory}
use Rattle.calvin_types.specs.declared.place.NodeId.{NodeId}
use Rattle.calvin_types.specs.declared.place.Slot.{Slot}
use Rattle.calvin_synod.specs.Cases.{Deed, Refuses, Does}
use Rattle.calvin_synod.specs.Deeds.{MemberState}
use Rattle.calvin_order.specs.Merged.{Batch}
use Rattle.calvin_node_packets.specs.declared.packet.Packet.{Packet}
use Rattle.calvin_node_packets.specs.Packets.{synod_packets, telling}

abbrev pub given_by : {B : Type 0} → Deed B → Option (Slot × B)
given_by (Refuses fault) = None
given_by (Does x letters given) = given

module _ {Args Row Reply : Type 0} where
  -- the deed takes effect: the replica is what it leaves, and its letters, and the batch that is decided with it, are sent after the others; or it is its refusal, and nothing changed; or memory ran out, where something grows, and nothing changed
  abbrev pub MemberSent : Bool → Result (Option (Slot × Batch Args)) Fault → Deed (Batch Args) → ℕ → ℕ → NodeId → MemberState (Batch Args)
      → MemberState (Batch Args) → List (Packet Args Row Reply) → List (Packet Args Row Reply) → Type 0
  MemberSent grows (Ok gave) (Refuses fault) replicas parts me m after sent all = ⊥
  MemberSent grows (Ok gave) (Does x letters given) replicas parts me m after sent all = (gave ≡ given) × (after ≡ record m { replica = x })
      × (all ≡ sent ++ (synod_packets replicas me letters ++ telling parts me given))
  MemberSent grows (Err refusal) (Refuses fault) replicas parts me m after sent all = (refusal ≡ fault) × (after ≡ m) × (all ≡ sent)
  MemberSent grows (Err refusal) (Does x letters given) replicas parts me m after sent all = (grows ≡ true) × (refusal ≡ OutOfMemory) × (after ≡ m) × (all ≡ sent)
