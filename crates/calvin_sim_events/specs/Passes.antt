-- What brings the nodes on, pass by pass: packets are delivered and nodes work, then, where that is asked for, each packet that was
-- there when the pass began is delivered again, and then nodes ask for what they lack. The notions are of this project
-- ("Paxos Made Simple", section 2: messages are lost and come again).
--     is_due lost packets k      the packet of this number is there, is for a node, and isn't lost
--     IsRedelivery m lost k w v      the packet of this number is delivered, if it is due, which leads from w to v
--     Redelivers m lost n w v      those with a number below n are, from the greatest number down
--     IsPass m repeats lost w v      what a pass leads to
--     Passes m repeats lost n w v      what so many passes lead to, one after another
use Rattle.std.specs.Prelude.{◌≡◌, ◌≢◌, ℕ, zero, suc, Bool, true, false, not, ◌&&◌, List, length, Option, Some, None, slice_get}
use Rattle.calvin_types.specs.declared.fault.Fault.TheVariants.{OutOfMemory}
use Rattle.calvin_app.specs.Meaning.{Meaning}
use Rattle.calvin_node_packets.specs.declared.packet.Address.{Address}
use Rattle.calvin_node_packets.specs.declared.packet.Address.TheVariants.{AtNode, AtClient}
use Rattle.calvin_node_packets.specs.declared.packet.Packet.{Packet}
use Rattle.calvin_world.specs.declared.event.Event.TheVariants.{Deliver}
use Rattle.calvin_world.specs.declared.event.Outcome.{Outcome}
use Rattle.calvin_world.specs.declared.event.Outcome.TheVariants.{Refused}
use Rattle.calvin_world.specs.Worlds.{WorldState}
use Rattle.calvin_world.specs.SettledWorlds.{SettledStep}
use Rattle.calvin_sim_events.specs.declared.schedule.Restarts.TheVariants.{Never}
use Rattle.calvin_sim_events.specs.Quiet.{LeadsQuietly}

abbrev pub is_for_node : Address → Bool
is_for_node (AtNode id) = true
is_for_node (AtClient client) = false

module _ {Args Row Reply : Type 0} where
  abbrev pub is_packet_due : (ℕ → Bool) → Option (Packet Args Row Reply) → Bool
  is_packet_due lost None = false
  is_packet_due lost (Some p) = is_for_node p.to && not (lost p.from.replica)

  abbrev pub is_due : (ℕ → Bool) → List (Packet Args Row Reply) → ℕ → Bool
  is_due lost packets number = is_packet_due lost (slice_get packets number)

module _ {Args Row Reply : Type 0} (m : Meaning Args Row Reply) where
  abbrev pub IsDelivered : ℕ → Bool → WorldState Args Row Reply → WorldState Args Row Reply → Type 0
  IsDelivered number true w v = (outcome : Outcome) × SettledStep m w (Deliver number) outcome v × (outcome ≢ Refused OutOfMemory)
  IsDelivered number false w v = v ≡ w

  abbrev pub IsRedelivery : (ℕ → Bool) → ℕ → WorldState Args Row Reply → WorldState Args Row Reply → Type 0
  IsRedelivery lost number w v = IsDelivered number (is_due lost w.packets number) w v

  abbrev pub Redelivers : (ℕ → Bool) → ℕ → WorldState Args Row Reply → WorldState Args Row Reply → Type 0
  Redelivers lost zero w v = v ≡ w
  Redelivers lost (suc n) w v = (next : WorldState Args Row Reply) × IsRedelivery lost n w next × Redelivers lost n next v

  -- where packets are repeated
  abbrev pub Repeats : Bool → (ℕ → Bool) → ℕ → WorldState Args Row Reply → WorldState Args Row Reply → Type 0
  Repeats true lost n w v = Redelivers lost n w v
  Repeats false lost n w v = v ≡ w

  pub record IsPass (repeats : Bool) (lost : ℕ → Bool) (w v : WorldState Args Row Reply) : Type 0 where
    -- the worlds once nothing moves, and once each packet came again
    pub moved : WorldState Args Row Reply
    pub repeated : WorldState Args Row Reply
    pub moves : LeadsQuietly m Never lost w moved
    pub again : Repeats repeats lost (length w.packets) moved repeated
    pub asks : LeadsQuietly m Never lost repeated v

  abbrev pub Passes : Bool → (ℕ → Bool) → ℕ → WorldState Args Row Reply → WorldState Args Row Reply → Type 0
  Passes repeats lost zero w v = v ≡ w
  Passes repeats lost (suc n) w v = (until : WorldState Args Row Reply) × Passes repeats lost n w until × IsPass repeats lost until v
