-- What happened at each node, and the list of events that it is a part of. An entry of a node's history is an event that took
-- effect there; one in which a packet came keeps the packet and its name, so that what a history says rests on no number that
-- other nodes' sending changes. The notions are of this project.
--     id_of parts i      the name of the node that stands at a place among all
--     entry_of w event      the node at which an event happens, and what the event is to it
--     of_node id seen      the entry, if it is this node's
--     part_at m w events id      the part of a list of events at a node
--     Fits m w id entry      an event that takes effect is this entry there
--     Life Args Row Reply      a node's data, and what it has sent
--     life_of m c life entries      what a node's own history makes of it
--     IsAssembled m c events histories      the list assembles the histories
--     IsStuck m c histories node entry      no list that is taken further assembles them
--     IsUnassembled m c histories why, fault_of why      why they aren't assembled, and the name of the refusal
use Rattle.std.specs.Prelude.{◌≡◌, ◌≢◌, ◌⊎◌, ℕ, ◌<◌, ◌*◌, ◌/◌, ◌%◌, if◌then◌else◌, List, [], ◌∷◌, ◌++◌, length, Option, Some, None, option_and_then, slice_get}
use Rattle.calvin_types.specs.declared.fault.Fault.{Fault}
use Rattle.calvin_types.specs.declared.fault.Fault.TheVariants as fault
use Rattle.calvin_types.specs.declared.place.NodeId.{NodeId}
use Rattle.calvin_types.specs.Deeds.{Refuses, Does}
use Rattle.calvin_app.specs.Meaning.{Meaning}
use Rattle.calvin_order.specs.Configs.{Config}
use Rattle.calvin_node_packets.specs.declared.packet.Address.{Address}
use Rattle.calvin_node_packets.specs.declared.packet.Address.TheVariants.{AtNode, AtClient}
use Rattle.calvin_node_packets.specs.declared.packet.Packet.{Packet}
use Rattle.calvin_node_packets.specs.Packets.{same_node}
use Rattle.calvin_node_acts.specs.NodeStates.{NodeState, new_node}
use Rattle.calvin_node_acts.specs.Handling.{NodeDeed, handle}
use Rattle.calvin_node_acts.specs.Acting.{deed_of}
use Rattle.calvin_node_acts.specs.Running.{settled}
use Rattle.calvin_world.specs.declared.event.Event.{Event}
use Rattle.calvin_world.specs.declared.event.Event.TheVariants.{At, Deliver}
use Rattle.calvin_world.specs.declared.event.Outcome.TheVariants.{Done}
use Rattle.calvin_world.specs.declared.naming.PacketName.{PacketName}
use Rattle.calvin_world.specs.Worlds.{WorldState, opening}
use Rattle.calvin_world.specs.SettledWorlds.{settles}
use Rattle.calvin_world.specs.Names.{sent_by, name_of}
use Rattle.calvin_book.specs.Books.{IsRun, world_after}
use Rattle.calvin_histories.specs.declared.assembly.Unassembled.{Unassembled}
use Rattle.calvin_histories.specs.declared.assembly.Unassembled.TheVariants.{Refused, NoRun}
use Rattle.calvin_histories.specs.declared.entry.Entry.{Entry}
use Rattle.calvin_histories.specs.declared.entry.Entry.TheVariants.{Own, Came}

abbrev pub id_of : ℕ → ℕ → NodeId
id_of parts i = record { replica = i / parts; partition = i % parts }

-- the name of a refusal to assemble
abbrev pub fault_of : Unassembled → Fault
fault_of (Refused why) = why
fault_of (NoRun node entry) = fault.NoRun

-- a node's data, and the packets that it has sent
pub record Life (Args Row Reply : Type 0) : Type 0 where
  pub state : NodeState Args Row
  pub sent : List (Packet Args Row Reply)

module _ {Args Row Reply : Type 0} where
  -- a packet comes to the node that it is for
  abbrev pub came_to : PacketName → Packet Args Row Reply → Address → Option (NodeId × Entry Args Row Reply)
  came_to name p (AtNode id) = Some (id, Came name p)
  came_to name p (AtClient client) = None

  abbrev pub coming : List (Packet Args Row Reply) → ℕ → Option (Packet Args Row Reply) → Option (NodeId × Entry Args Row Reply)
  coming packets number None = None
  coming packets number (Some p) = came_to (name_of packets number p) p p.to

  abbrev pub entry_of : WorldState Args Row Reply → Event Args → Option (NodeId × Entry Args Row Reply)
  entry_of w (At id act) = Some (id, Own act)
  entry_of w (Deliver number) = coming w.packets number (slice_get w.packets number)

  abbrev pub of_node : NodeId → Option (NodeId × Entry Args Row Reply) → List (Entry Args Row Reply)
  of_node id None = []
  of_node id (Some seen) = if same_node seen.0 id then seen.1 ∷ [] else []

  -- what a deed makes of a node, and of what it has sent: a refusal is no event that took effect
  abbrev pub lives_on : Life Args Row Reply → NodeDeed Args Row Reply → Option (Life Args Row Reply)
  lives_on life (Refuses fault) = None
  lives_on life (Does next packets) = Some (record { state = settled next; sent = life.sent ++ packets })

  -- a node at first, which has sent nothing
  abbrev pub new_life : NodeId → Life Args Row Reply
  new_life id = record { state = new_node id; sent = [] }

  module _ (m : Meaning Args Row Reply) where
    abbrev pub part_at : WorldState Args Row Reply → List (Event Args) → NodeId → List (Entry Args Row Reply)
    part_at w [] id = []
    part_at w (event ∷ events) id = of_node id (entry_of w event) ++ part_at (settles m w event).1 events id

    abbrev pub Fits : WorldState Args Row Reply → NodeId → Entry Args Row Reply → Type 0
    Fits w id entry = (event : Event Args) × (entry_of w event ≡ Some (id, entry)) × ((settles m w event).0 ≡ Done)

    module _ (c : Config) where
      -- the deed of an entry
      abbrev pub deed_in : Entry Args Row Reply → NodeState Args Row → NodeDeed Args Row Reply
      deed_in (Own act) x = deed_of m c act x
      deed_in (Came name p) x = handle c p x

      abbrev pub life_of : Life Args Row Reply → List (Entry Args Row Reply) → Option (Life Args Row Reply)
      life_of life [] = Some life
      life_of life (entry ∷ entries) = option_and_then (λ next. life_of next entries) (lives_on life (deed_in entry life.state))

      -- the part of the list at each node is that node's history, and the list, each event of it taking effect, reaches a world whose nodes these are
      pub record IsAssembled (events : List (Event Args)) (histories : List (List (Entry Args Row Reply))) : Type 0 where
        pub run : IsRun m c events (world_after m c events)
        pub number : length histories ≡ c.replicas * c.partitions
        pub parts : (i : ℕ) (history : List (Entry Args Row Reply)) → slice_get histories i ≡ Some history → part_at (opening c) events (id_of c.partitions i) ≡ history
        pub nodes : (i : ℕ) (history : List (Entry Args Row Reply)) → slice_get histories i ≡ Some history → (x : NodeState Args Row) × (slice_get (world_after m c events).nodes i ≡ Some x)
            × (life_of (new_life (id_of c.partitions i)) history ≡ Some (record { state = x; sent = sent_by (id_of c.partitions i) (world_after m c events).packets }))

      -- some list assembles beginnings of the histories, and no node's next entry fits the world that it reaches; of the nodes with entries that are left this is the first, and its first entry left has this number
      pub record IsStuck (histories : List (List (Entry Args Row Reply))) (node : NodeId) (entry : ℕ) : Type 0 where
        pub events : List (Event Args)
        pub run : IsRun m c events (world_after m c events)
        pub beginnings : (i : ℕ) (history : List (Entry Args Row Reply)) → slice_get histories i ≡ Some history
            → (left : List (Entry Args Row Reply)) × (part_at (opening c) events (id_of c.partitions i) ++ left ≡ history)
        pub none_fits : (i : ℕ) (next : Entry Args Row Reply) (left : List (Entry Args Row Reply))
            → slice_get histories i ≡ Some (part_at (opening c) events (id_of c.partitions i) ++ next ∷ left)
            → Fits (world_after m c events) (id_of c.partitions i) next → ⊥
        pub at : ℕ
        pub is_at : node ≡ id_of c.partitions at
        pub left : (history : List (Entry Args Row Reply)) × (slice_get histories at ≡ Some history) × (length (part_at (opening c) events node) ≡ entry) × (entry < length history)
        pub least : (i : ℕ) → i < at → (history : List (Entry Args Row Reply)) → slice_get histories i ≡ Some history → part_at (opening c) events (id_of c.partitions i) ≡ history

      abbrev pub IsUnassembled : List (List (Entry Args Row Reply)) → Unassembled → Type 0
      IsUnassembled histories (Refused why) = ((why ≡ fault.NoNode) × (length histories ≢ c.replicas * c.partitions)) ⊎ (why ≡ fault.OutOfMemory)
      IsUnassembled histories (NoRun node entry) = (length histories ≡ c.replicas * c.partitions) × IsStuck histories node entry
