-- The world: the data of each node and every packet that was ever sent, and what an event does to it. A packet stays, so each
-- may be delivered late, again or never; whatever is delivered was sent ("Paxos Made Simple", section 2.1: messages take
-- arbitrarily long, are duplicated and lost, but not corrupted; Thomson et al. 2012, section 3: replicas, each divided into
-- partitions).
use Rattle.std.specs.Prelude.{◌≡◌, ℕ, Bool, true, false, ◌+◌, ◌*◌, ◌/◌, ◌%◌, ◌&&◌, nat_lt, if◌then◌else◌, List, [], ◌∷◌, ◌++◌, map, Option, Some, None, option_and_then, ◌⊎◌, ⊤, slice_get, slice_set}
use Rattle.std.specs.FinMap.{get}
use Rattle.std.specs.List.{range_with_len}
use Rattle.calvin_types.specs.declared.fault.Fault.TheVariants.{OutOfMemory, NoNode, NoPacket, NotMine}
use Rattle.calvin_types.specs.declared.key.Key.{Key}
use Rattle.calvin_types.specs.declared.place.NodeId.{NodeId}
use Rattle.calvin_types.specs.Keys.{partition_of}
use Rattle.calvin_types.specs.Deeds.{Refuses, Does}
use Rattle.calvin_app.specs.Meaning.{Meaning}
use Rattle.calvin_order.specs.Configs.{Config}
use Rattle.calvin_node_packets.specs.declared.packet.Address.{Address}
use Rattle.calvin_node_packets.specs.declared.packet.Packet.{Packet}
use Rattle.calvin_node_packets.specs.declared.packet.Address.TheVariants.{AtNode, AtClient}
use Rattle.calvin_node_acts.specs.NodeStates.{NodeState, new_node}
use Rattle.calvin_node_acts.specs.Growing.{content_grows, act_grows}
use Rattle.calvin_node_acts.specs.Handling.{NodeDeed, handle}
use Rattle.calvin_node_acts.specs.Acting.{deed_of}
use Rattle.calvin_world.specs.declared.event.Event.{Event}
use Rattle.calvin_world.specs.declared.event.Event.TheVariants.{At, Deliver}
use Rattle.calvin_world.specs.declared.event.Outcome.{Outcome}
use Rattle.calvin_world.specs.declared.event.Outcome.TheVariants.{Done, Refused}

-- what it was opened with, the nodes, replica by replica, and the packets sent so far, by their numbers
pub record WorldState (Args Row Reply : Type 0) : Type 0 where
  pub config : Config
  pub nodes : List (NodeState Args Row)
  pub packets : List (Packet Args Row Reply)

-- where a node stands in the list of nodes
abbrev pub index_of : ℕ → NodeId → ℕ
index_of parts id = id.replica * parts + id.partition

-- the event was not refused
abbrev pub TakesEffect : Outcome → Type 0
TakesEffect Done = ⊤
TakesEffect (Refused fault) = ⊥

module _ {Args Row : Type 0} where
  -- the node grows something, if it is there
  abbrev pub grows_at : (NodeState Args Row → Bool) → Option (NodeState Args Row) → Bool
  grows_at grows None = false
  grows_at grows (Some x) = grows x

module _ {Args Row Reply : Type 0} where
  -- every node is new, and nothing was sent
  abbrev pub opening : Config → WorldState Args Row Reply
  opening c = record { config = c; nodes = map (λ i. new_node (record { replica = i / c.partitions; partition = i % c.partitions })) (range_with_len 0 (c.replicas * c.partitions)); packets = [] }

  -- the node, if it is there
  abbrev pub node_at : WorldState Args Row Reply → NodeId → Option (NodeState Args Row)
  node_at w id = if nat_lt id.replica w.config.replicas && nat_lt id.partition w.config.partitions then slice_get w.nodes (index_of w.config.partitions id) else None

  -- the row of a key at a replica, if the replica is there and the node of the key's partition has one
  abbrev pub peek : WorldState Args Row Reply → ℕ → Key → Option Row
  peek w replica key = option_and_then (λ x. get x.scheduler.store.map key) (node_at w (record { replica = replica; partition = partition_of w.config.partitions key }))

  -- how a deed of a node ends, and the world after it: a refusal changes nothing; else the node is what the deed says, and its packets are sent
  abbrev pub carry_out : WorldState Args Row Reply → NodeId → NodeDeed Args Row Reply → Outcome × WorldState Args Row Reply
  carry_out w me (Refuses f) = (Refused f, w)
  carry_out w me (Does next sent) = (Done, record w { nodes = slice_set w.nodes (index_of w.config.partitions me) next; packets = w.packets ++ sent })

  -- the same of what a node does, if it is there
  abbrev pub at_node : WorldState Args Row Reply → NodeId → (NodeState Args Row → NodeDeed Args Row Reply) → Option (NodeState Args Row) → Outcome × WorldState Args Row Reply
  at_node w me act None = (Refused NoNode, w)
  at_node w me act (Some x) = carry_out w me (act x)

  -- a packet is handled by the node that it is for, and stays
  abbrev pub deliver_to : WorldState Args Row Reply → Packet Args Row Reply → Address → Outcome × WorldState Args Row Reply
  deliver_to w p (AtNode id) = at_node w id (handle w.config p) (node_at w id)
  deliver_to w p (AtClient client) = (Refused NotMine, w)

  -- the packet of a number, if there is one
  abbrev pub deliver : WorldState Args Row Reply → Option (Packet Args Row Reply) → Outcome × WorldState Args Row Reply
  deliver w None = (Refused NoPacket, w)
  deliver w (Some p) = deliver_to w p p.to

  -- what a packet says grows something at the node that it is for, if that is there
  abbrev pub grows_to : WorldState Args Row Reply → Packet Args Row Reply → Address → Bool
  grows_to w p (AtNode id) = grows_at (content_grows w.config p.content) (node_at w id)
  grows_to w p (AtClient client) = false

  -- the same of a packet that may not be there
  abbrev pub grows_by : WorldState Args Row Reply → Option (Packet Args Row Reply) → Bool
  grows_by w None = false
  grows_by w (Some p) = grows_to w p p.to

  -- where an event takes effect, it grows something
  abbrev pub grows : WorldState Args Row Reply → Event Args → Bool
  grows w (At me act) = grows_at (act_grows w.config act) (node_at w me)
  grows w (Deliver number) = grows_by w (slice_get w.packets number)

  module _ (m : Meaning Args Row Reply) where
    -- how an event ends, and the world after it
    abbrev pub happens : WorldState Args Row Reply → Event Args → Outcome × WorldState Args Row Reply
    happens w (At me act) = at_node w me (deed_of m w.config act) (node_at w me)
    happens w (Deliver number) = deliver w (slice_get w.packets number)

    -- one event: it ends and leaves the world as its case says, or it would take effect and grow something, but memory runs out and nothing changes
    abbrev pub Step : WorldState Args Row Reply → Event Args → Outcome → WorldState Args Row Reply → Type 0
    Step w event outcome after = ((outcome, after) ≡ happens w event) ⊎ (TakesEffect (happens w event).0 × (grows w event ≡ true) × (outcome ≡ Refused OutOfMemory) × (after ≡ w))

    -- a list of events leads from one world to another, with an outcome for each
    abbrev pub Leads : WorldState Args Row Reply → List (Event Args) → List Outcome → WorldState Args Row Reply → Type 0
    Leads w [] [] after = after ≡ w
    Leads w [] (outcome ∷ outcomes) after = ⊥
    Leads w (event ∷ events) [] after = ⊥
    Leads w (event ∷ events) (outcome ∷ outcomes) after = (next : WorldState Args Row Reply) × Step w event outcome next × Leads next events outcomes after
