-- What a node makes of a packet: a refusal, or the node after it and the packets that it sends, in their order. Each message
-- has its case ("Paxos Made Simple", sections 2.2 and 2.3: the synod; Thomson et al. 2012, section 3.1: batches; section 3.2:
-- remote reads; section 4: rows that are to be in memory). That what is missing is asked for again is of this project.
use Rattle.std.specs.Prelude.{ℕ, ◌==◌, if◌then◌else◌, List, [], ◌∷◌, ◌++◌, Option, Some, None, Result, Ok, Err}
use Rattle.std.specs.FinMap.{get}
use Rattle.calvin_types.specs.declared.fault.Fault.{Fault}
use Rattle.calvin_types.specs.declared.fault.Fault.TheVariants as fault
use Rattle.calvin_types.specs.declared.place.NodeId.{NodeId}
use Rattle.calvin_types.specs.declared.place.Place.{Place}
use Rattle.calvin_types.specs.declared.place.Slot.{Slot}
use Rattle.calvin_types.specs.Deeds.{Deed, Refuses, Does}
use Rattle.calvin_app.specs.Rows.{Rows}
use Rattle.calvin_synod.specs.declared.message.Message.{Message}
use Rattle.calvin_synod.specs.declared.message.Message.TheVariants.{Prepare, Promise, Accept, Refused, Accepted}
use Rattle.calvin_synod.specs.Cases as synod
use Rattle.calvin_order.specs.Configs.{Config}
use Rattle.calvin_order.specs.Merged.{Batch}
use Rattle.calvin_sched.specs.Scheduling.{Turn, Scheduling, turn_at, reads_here}
use Rattle.calvin_sched.specs.Steps.{on_reads, served_at}
use Rattle.calvin_sched.specs.Standing.{warm}
use Rattle.calvin_node_packets.specs.declared.packet.Content.{Content}
use Rattle.calvin_node_packets.specs.declared.packet.Packet.{Packet}
use Rattle.calvin_node_packets.specs.declared.packet.Address.TheVariants.{AtNode}
use Rattle.calvin_node_packets.specs.declared.packet.Content.TheVariants.{Synod, Decided, AskBatch, Reads, AskReads, Warm, Replies}
use Rattle.calvin_node_packets.specs.Packets.{is_for, synod_packets, telling}
use Rattle.calvin_node_acts.specs.NodeStates.{NodeState, site_of, with_synod, with_scheduler, holding}

-- what an event makes of a node, and the packets that it sends
abbrev pub NodeDeed : Type 0 → Type 0 → Type 0 → Type 0
NodeDeed Args Row Reply = Deed (NodeState Args Row) (List (Packet Args Row Reply))

module _ {Args Row : Type 0} where
  -- a batch that is decided here is held
  abbrev pub counted : NodeState Args Row → Option (Slot × Batch Args) → NodeState Args Row
  counted x None = x
  counted x (Some given) = holding x given.0 given.1

module _ {Args Row Reply : Type 0} where
  -- what the node makes of what its synod does
  abbrev pub by_synod : Config → NodeState Args Row → synod.Deed (Batch Args) → NodeDeed Args Row Reply
  by_synod c x (synod.Refuses f) = Refuses f
  by_synod c x (synod.Does s letters given) = Does (counted (with_synod x s) given) (synod_packets c.replicas x.id letters ++ telling c.partitions x.id given)

  -- a vote counts where its slot isn't held
  abbrev pub on_vote : Config → ℕ → Message (Batch Args) → NodeState Args Row → Option (Batch Args) → NodeDeed Args Row Reply
  on_vote c from message x None = by_synod c x (synod.handle c.replicas from message x.synod)
  on_vote c from message x (Some batch) = Refuses fault.Known

  -- a message of the own group's synod
  abbrev pub on_synod : Config → ℕ → Message (Batch Args) → NodeState Args Row → NodeDeed Args Row Reply
  on_synod c from (Prepare slot ballot) x = by_synod c x (synod.handle c.replicas from (Prepare slot ballot) x.synod)
  on_synod c from (Promise slot ballot vote) x = by_synod c x (synod.handle c.replicas from (Promise slot ballot vote) x.synod)
  on_synod c from (Accept slot ballot batch) x = by_synod c x (synod.handle c.replicas from (Accept slot ballot batch) x.synod)
  on_synod c from (Refused slot ballot promise) x = by_synod c x (synod.handle c.replicas from (Refused slot ballot promise) x.synod)
  on_synod c from (Accepted slot ballot batch) x = on_vote c from (Accepted slot ballot batch) x (get x.held slot)

  -- a batch that another node of the replica holds
  abbrev pub on_decided : Slot → Batch Args → NodeState Args Row → Option (Batch Args) → NodeDeed Args Row Reply
  on_decided slot batch x None = Does (holding x slot batch) []
  on_decided slot batch x (Some held) = Refuses fault.Known

  -- a batch that is held is told to who asks for it
  abbrev pub on_ask_batch : NodeId → Slot → NodeState Args Row → Option (Batch Args) → NodeDeed Args Row Reply
  on_ask_batch from slot x None = Refuses fault.NoBatch
  on_ask_batch from slot x (Some batch) = Does x (record { from = x.id; to = AtNode from; content = Decided slot batch } ∷ [])

  -- what the scheduler makes of rows
  abbrev pub by_scheduler : NodeState Args Row → Deed (Scheduling Args Row) (Unit {0}) → NodeDeed Args Row Reply
  by_scheduler x (Refuses f) = Refuses f
  by_scheduler x (Does s out) = Does (with_scheduler x s x.pending) []

  -- what was served is sent again
  abbrev pub serve_again : NodeId → Place → NodeState Args Row → Result (Rows Row) Fault → NodeDeed Args Row Reply
  serve_again from q x (Err f) = Refuses f
  serve_again from q x (Ok rows) = Does x (record { from = x.id; to = AtNode from; content = Reads q rows } ∷ [])

  -- where a key is read here, and the request has begun
  abbrev pub on_ask_reads : Config → NodeId → Place → NodeState Args Row → Option (Turn Args Row) → NodeDeed Args Row Reply
  on_ask_reads c from q x None = Refuses fault.NotServed
  on_ask_reads c from q x (Some turn) =
      if reads_here (site_of c.partitions x) turn.request
      then serve_again from q x (served_at (Some turn))
      else Refuses fault.NotServed

  -- each message, by its case
  abbrev pub handle_content : Config → NodeId → Content Args Row Reply → NodeState Args Row → NodeDeed Args Row Reply
  handle_content c from (Synod message) x =
      if (synod.slot_of message).group == x.id.partition
      then on_synod c from.replica message x
      else Refuses fault.NotMine
  handle_content c from (Decided slot batch) x = on_decided slot batch x (get x.held slot)
  handle_content c from (AskBatch slot) x = on_ask_batch from slot x (get x.held slot)
  handle_content c from (Reads q rows) x = by_scheduler x (on_reads (site_of c.partitions x) q from.partition rows x.scheduler)
  handle_content c from (AskReads q) x = on_ask_reads c from q x (turn_at x.scheduler q)
  handle_content c from (Warm sets) x = Does (with_scheduler x (warm (sets.reads ++ sets.writes) x.scheduler) x.pending) []
  handle_content c from (Replies q id attempt answer) x = Refuses fault.NotMine

  -- a packet, which has to be for this node
  abbrev pub handle : Config → Packet Args Row Reply → NodeState Args Row → NodeDeed Args Row Reply
  handle c p x = if is_for p.to x.id then handle_content c p.from p.content x else Refuses fault.NotMine
