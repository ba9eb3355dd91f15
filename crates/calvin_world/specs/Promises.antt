-- What is promised of the world after every list of events: agreement, and that every replica is the serial run ("Paxos Made
-- Simple", section 2.2: a value is chosen when a majority has accepted it; Thomson et al. 2012, section 3: all replicas
-- execute one order, equivalent to running its requests one at a time).
use Rattle.std.specs.Prelude.{◌≡◌, ℕ, suc, ◌<◌, ◌≤◌, true, ◌⊎◌, List, [], ◌∷◌, ◌++◌, map, Option, Some, slice_get}
use Rattle.std.specs.List.{Contains}
use Rattle.std.specs.FinMap.{empty, get}
use Rattle.calvin_types.specs.declared.place.Ballot.{Ballot}
use Rattle.calvin_types.specs.declared.place.NodeId.{NodeId}
use Rattle.calvin_types.specs.declared.place.Place.{Place}
use Rattle.calvin_types.specs.declared.place.RequestId.{RequestId}
use Rattle.calvin_types.specs.declared.place.Slot.{Slot}
use Rattle.calvin_types.specs.declared.txn.Txn.{Txn}
use Rattle.calvin_types.specs.Orders.{Order, StandsAt}
use Rattle.calvin_types.specs.Participants.{site, has_local_key, is_active, local_keys}
use Rattle.calvin_app.specs.declared.answer.Answer.{Answer}
use Rattle.calvin_app.specs.Meaning.{Meaning}
use Rattle.calvin_app.specs.Rows.{Rows, part, view}
use Rattle.calvin_app.specs.Stores.{Point}
use Rattle.calvin_app.specs.Serial.{serial, rows_before, answers_by_place}
use Rattle.calvin_synod.specs.declared.message.Message.TheVariants.{Accepted}
use Rattle.calvin_synod.specs.Quorums.{IsChosen}
use Rattle.calvin_order.specs.Configs.{Config, merged, order}
use Rattle.calvin_order.specs.Merged.{Batch, Assignment, end_of}
use Rattle.calvin_order.specs.Merging.{batch_at}
use Rattle.calvin_order.specs.Sequencing.{next_epoch}
use Rattle.calvin_sched.specs.Scheduling.{Turn, turn_at}
use Rattle.calvin_sched.specs.Standing.{local_places, all_done, stands}
use Rattle.calvin_node_acts.specs.declared.act.Act.{Act}
use Rattle.calvin_node_acts.specs.Acting.{submitted}
use Rattle.calvin_node_packets.specs.declared.packet.Packet.{Packet}
use Rattle.calvin_node_packets.specs.declared.packet.Content.TheVariants.{Synod, Reads, Replies}
use Rattle.calvin_node_acts.specs.NodeStates.{NodeState}
use Rattle.calvin_world.specs.declared.event.Event.{Event}
use Rattle.calvin_world.specs.declared.event.Outcome.{Outcome}
use Rattle.calvin_world.specs.declared.event.Event.TheVariants.{At}
use Rattle.calvin_world.specs.declared.event.Outcome.TheVariants.{Done}
use Rattle.calvin_world.specs.Worlds.{WorldState, index_of, Leads}

module _ {Args Row : Type 0} where
  -- how many epochs count as merged and done since the last restart
  abbrev pub loaded_epochs : NodeState Args Row → ℕ
  loaded_epochs x = x.scheduler.opened_from.epoch

  -- what is held, as an assignment
  abbrev pub held_by : NodeState Args Row → Assignment Args
  held_by x = batch_at x.held

  -- the node stands at the end of the first n epochs
  abbrev pub StandsAtEnd : NodeState Args Row → ℕ → Type 0
  StandsAtEnd x n = stands x.scheduler x.merged_epochs x.due n ≡ true

  -- the first n epochs are merged and done there
  abbrev pub DoneAtEnd : NodeState Args Row → ℕ → Type 0
  DoneAtEnd x n = all_done x.scheduler x.merged_epochs x.due n ≡ true

  -- what a node was given of an order since its last restart
  pub record IsHanded (c : Config) (B : Assignment Args) (id : NodeId) (x : NodeState Args Row) : Type 0 where
    -- what it admitted or passed over
    pub passed : Order Args
    -- the order of the merged epochs: those of a loaded snapshot, then these requests, then those to be admitted
    pub whole : order c B (loaded_epochs x) ++ passed ++ x.pending ≡ order c B x.merged_epochs
    -- what the scheduler has of a place is the request there
    pub turns : (q : Place) (turn : Turn Args Row) → turn_at x.scheduler q ≡ Some turn → StandsAt passed q turn.request
    -- and it has each request with a key here
    pub admitted : (q : Place) (t : Txn Args) → StandsAt passed q t → has_local_key (site c.partitions id.partition) t ≡ true → (turn : Turn Args Row) × (turn_at x.scheduler q ≡ Some turn)
    -- the places that are due are theirs
    pub due : x.due ≡ local_places (site c.partitions id.partition) (passed ++ x.pending)

-- the same nodes, under another order
abbrev pub with_woven : Config → Option ℕ → Config
with_woven c a = record c { woven_from = a }

module _ {Args : Type 0} where
  -- the event submits the request there
  abbrev pub IsSubmit : Event Args → NodeId → Txn Args → Type 0
  IsSubmit event at t = (act : Act Args) × (event ≡ At at act) × (submitted act ≡ Some t)

module _ {Args Row Reply : Type 0} where
  -- the node of this name is there, and has these data
  pub record IsNode (w : WorldState Args Row Reply) (id : NodeId) (x : NodeState Args Row) : Type 0 where
    pub replica : id.replica < w.config.replicas
    pub partition : id.partition < w.config.partitions
    pub there : slice_get w.nodes (index_of w.config.partitions id) ≡ Some x

  -- ---- what is chosen

  -- a packet is a vote
  abbrev pub IsVote : Packet Args Row Reply → Slot → ℕ → Ballot → Batch Args → Type 0
  IsVote p slot a ballot batch = (p.from.replica ≡ a) × (p.content ≡ Synod (Accepted slot ballot batch))

  -- the replica sent its vote
  abbrev pub Cast : List (Packet Args Row Reply) → Slot → ℕ → Ballot → Batch Args → Type 0
  Cast packets slot a ballot batch = (p : Packet Args Row Reply) × Contains packets p × IsVote p slot a ballot batch

  -- for one ballot a majority of the group cast votes for the batch
  abbrev pub Chosen : WorldState Args Row Reply → Slot → Batch Args → Type 0
  Chosen w slot batch = IsChosen w.config.replicas (Cast w.packets slot) batch

  -- it gives each slot of the first n epochs its chosen batch
  abbrev pub IsChosenUpTo : WorldState Args Row Reply → Assignment Args → ℕ → Type 0
  IsChosenUpTo w B n = (slot : Slot) → slot.epoch < n → slot.group < w.config.partitions → Chosen w slot (B slot)

  -- ---- what is submitted

  -- the request is submitted at a node of the slot's group, whose next epoch isn't above the slot's
  pub record IsSubmitFor (slot : Slot) (t : Txn Args) (w : WorldState Args Row Reply) (event : Event Args) : Type 0 where
    pub at : NodeId
    pub node : NodeState Args Row
    pub is_node : IsNode w at node
    pub submits : IsSubmit event at t
    pub of_group : at.partition ≡ slot.group
    pub in_time : next_epoch node.sequencer ≤ slot.epoch

  -- the request is submitted somewhere
  abbrev pub Submits : Txn Args → WorldState Args Row Reply → Event Args → Type 0
  Submits t w event = (at : NodeId) × IsSubmit event at t

  -- one of the events took effect, in a world for which it is such
  abbrev pub Sometime : (m : Meaning Args Row Reply) → (WorldState Args Row Reply → Event Args → Type 0)
      → (w : WorldState Args Row Reply) (events : List (Event Args)) (outcomes : List Outcome) (new : WorldState Args Row Reply)
      → Leads m w events outcomes new → Type 0
  Sometime m Such w [] [] new leads = ⊥
  Sometime m Such w [] (outcome ∷ outcomes) new leads = ⊥
  Sometime m Such w (event ∷ events) [] new leads = ⊥
  Sometime m Such w (event ∷ events) (outcome ∷ outcomes) new leads = ((outcome ≡ Done) × Such w event) ⊎ Sometime m Such leads.0 events outcomes new leads.2

  -- ---- agreement

  pub record Agrees (w : WorldState Args Row Reply) : Type 0 where
    -- what a node holds is chosen
    pub held : (id : NodeId) (x : NodeState Args Row) → IsNode w id x → (slot : Slot) (batch : Batch Args) → get x.held slot ≡ Some batch → Chosen w slot batch
    -- two nodes hold the same batch for one slot
    pub held_alike : (a b : NodeId) (x y : NodeState Args Row) → IsNode w a x → IsNode w b y → (slot : Slot) (batch other : Batch Args)
        → get x.held slot ≡ Some batch → get y.held slot ≡ Some other → batch ≡ other
    -- two chosen batches of one slot are the same
    pub one : (slot : Slot) (b c : Batch Args) → Chosen w slot b → Chosen w slot c → b ≡ c
    -- what a node merged is the merged requests of what is chosen
    pub merges : (id : NodeId) (x : NodeState Args Row) → IsNode w id x → (B : Assignment Args) → IsChosenUpTo w B x.merged_epochs
        → (e : ℕ) → loaded_epochs x ≤ e → e < x.merged_epochs → merged w.config (held_by x) e ≡ merged w.config B e
    -- and so is what its scheduler was given
    pub handed : (id : NodeId) (x : NodeState Args Row) → IsNode w id x → (B : Assignment Args) → IsChosenUpTo w B x.merged_epochs → IsHanded w.config B id x
    -- of two nodes the order of the one that merged less is a beginning of the other's
    pub begins : (a b : NodeId) (x y : NodeState Args Row) → IsNode w a x → IsNode w b y → x.merged_epochs ≤ y.merged_epochs
        → (B C : Assignment Args) → IsChosenUpTo w B x.merged_epochs → IsChosenUpTo w C y.merged_epochs
        → (rest : Order Args) × (order w.config C y.merged_epochs ≡ order w.config B x.merged_epochs ++ rest)

  -- ---- the headline

  -- the first n epochs are chosen, and no node or packet is past them
  pub record IsSettled (w : WorldState Args Row Reply) (B : Assignment Args) (n : ℕ) : Type 0 where
    pub chosen : IsChosenUpTo w B n
    pub merges : (id : NodeId) (x : NodeState Args Row) → IsNode w id x → x.merged_epochs ≤ n
    pub kept : (id : NodeId) (x : NodeState Args Row) → IsNode w id x → x.kept_epochs ≤ n
    pub replies : (p : Packet Args Row Reply) → Contains w.packets p → (q : Place) (id : RequestId) (attempt : ℕ) (answer : Answer Reply) → p.content ≡ Replies q id attempt answer → q.epoch < n
    pub reads : (p : Packet Args Row Reply) → Contains w.packets p → (q : Place) (rows : Rows Row) → p.content ≡ Reads q rows → q.epoch < n

  module _ (m : Meaning Args Row Reply) where
    -- the rows of the serial run of the first n epochs
    abbrev pub rows_after : Config → Assignment Args → ℕ → Rows Row
    rows_after c B n = (serial m (map (λ e. e.1) (order c B n)) empty).0

    pub record IsSerial (w : WorldState Args Row Reply) : Type 0 where
      -- all that anything below speaks of is chosen
      pub settled : (B : Assignment Args) × (n : ℕ) × IsSettled w B n
      -- a standing node has exactly its partition's rows of the serial run
      pub rows : (id : NodeId) (x : NodeState Args Row) → IsNode w id x → (n : ℕ) → StandsAtEnd x n → (B : Assignment Args) → IsChosenUpTo w B n
          → x.scheduler.store.map ≡ part w.config.partitions id.partition (rows_after w.config B n)
      -- and has sent its replies
      pub sent : (id : NodeId) (x : NodeState Args Row) → IsNode w id x → (n : ℕ) → StandsAtEnd x n → (B : Assignment Args) → IsChosenUpTo w B n
          → (q : Place) (t : Txn Args) → StandsAt (order w.config B n) q t → is_active (site w.config.partitions id.partition) t ≡ true
          → (p : Packet Args Row Reply) × Contains w.packets p × (p.from ≡ id) × (answer : Answer Reply) × (p.content ≡ Replies q t.id t.attempt answer)
      -- every reply ever sent has the request and the answer of its place in the serial run, and came from a partition that runs the request
      pub replies : (p : Packet Args Row Reply) → Contains w.packets p → (q : Place) (id : RequestId) (attempt : ℕ) (answer : Answer Reply) → p.content ≡ Replies q id attempt answer
          → (B : Assignment Args) → IsChosenUpTo w B (suc q.epoch)
          → Contains (answers_by_place m (order w.config B (suc q.epoch)) empty) (q, answer)
          × (t : Txn Args) × StandsAt (order w.config B (suc q.epoch)) q t × (id ≡ t.id) × (attempt ≡ t.attempt) × (is_active (site w.config.partitions p.from.partition) t ≡ true)
      -- every read ever sent is the view of the serial rows just before its place
      pub reads : (p : Packet Args Row Reply) → Contains w.packets p → (q : Place) (rows : Rows Row) → p.content ≡ Reads q rows
          → (B : Assignment Args) → IsChosenUpTo w B (suc q.epoch)
          → (t : Txn Args) × StandsAt (order w.config B (suc q.epoch)) q t
          × (rows ≡ view (rows_before m (order w.config B (suc q.epoch)) empty q)
          (local_keys (site w.config.partitions p.from.partition) t.sets.reads))
      -- every durable snapshot has its partition's rows of the serial run
      pub kept : (id : NodeId) (x : NodeState Args Row) → IsNode w id x → (B : Assignment Args) → IsChosenUpTo w B x.kept_epochs
          → x.kept_rows ≡ part w.config.partitions id.partition (rows_after w.config B x.kept_epochs)

    -- an open point has its partition's rows of the serial run up to it, once the epochs up to it are merged and done, however much is done of later ones
    abbrev pub PointsAreSerial : WorldState Args Row Reply → Type 0
    PointsAreSerial w = (id : NodeId) (x : NodeState Args Row) → IsNode w id x → (p : Point Row) → x.scheduler.store.point ≡ Some p
        → (n : ℕ) → p.at ≡ end_of n → DoneAtEnd x n → (B : Assignment Args) → IsChosenUpTo w B n
        → p.rows ≡ part w.config.partitions id.partition (rows_after w.config B n)

  -- ---- two nodes

  -- two nodes hold equal rows, and what the first one has replied at the places of the first n epochs the second one has replied too
  pub record AreAlike (w : WorldState Args Row Reply) (n : ℕ) (a b : NodeId) (x y : NodeState Args Row) : Type 0 where
    pub rows : x.scheduler.store.map ≡ y.scheduler.store.map
    pub replies : (p : Packet Args Row Reply) → Contains w.packets p → p.from ≡ a → (q : Place) (id : RequestId) (attempt : ℕ) (answer : Answer Reply)
        → p.content ≡ Replies q id attempt answer → q.epoch < n
        → (r : Packet Args Row Reply) × Contains w.packets r × (r.from ≡ b) × (r.content ≡ p.content)

  -- any two nodes of one partition that stand at the end of the same epochs are alike
  abbrev pub StandAlike : WorldState Args Row Reply → Type 0
  StandAlike w = (n : ℕ) (a b : NodeId) (x y : NodeState Args Row) → IsNode w a x → IsNode w b y → a.partition ≡ b.partition → StandsAtEnd x n → StandsAtEnd y n → AreAlike w n a b x y
