-- What a deed of a node that takes effect is, as the theorem reads it.
--     Handles from content x next sent      the cases of a message that came from this node
--     Acts act x next sent      those of the other events
--     Changes w me Does new, Delivers w number new      one node changes;  a packet comes to its node
--     handle_does, ..      each deed that takes effect is such a case
use Rattle.std.proofs.Common.{◌≡◌, ◌≢◌, ℕ, zero, suc, ◌+◌, ◌≤◌, ◌<◌, ◌⊎◌, Bool, true, false, cond, List, [], ◌∷◌, ◌++◌, inl, inr, Option, Some, None, Result, Ok, Err, refl, sym, ap, ◌∙◌, arith}
use Rattle.std.specs.Prelude.{◌^◌, if◌then◌else◌, slice_get, slice_set, nat_le, nat_lt, ◌==◌, ◌&&◌, is_some}
use Rattle.std.specs.List.{list_all, range_with_len}
use Rattle.std.specs.Ordering.{eq_by_cmp}
use Rattle.std.specs.Cmp.{Equal-is}
use Rattle.std.specs.FinMap.{get, contains_key}
use Rattle.std.proofs.lemmas.Bool.{false≢true, and_parts, eqb-true, cases_lt}
use Rattle.calvin_types.specs.declared.fault.Fault.{Fault}
use Rattle.calvin_types.specs.declared.fault.Fault.TheVariants as fault
use Rattle.calvin_types.specs.declared.key.Key.{Key}
use Rattle.calvin_types.specs.declared.place.NodeId.{NodeId}
use Rattle.calvin_types.specs.declared.place.Place.{Place}
use Rattle.calvin_types.specs.declared.place.Slot.{Slot}
use Rattle.calvin_types.specs.declared.txn.Txn.{Txn}
use Rattle.calvin_types.specs.Deeds.{Deed, Refuses, Does}
use Rattle.calvin_types.specs.Orders.{Order}
use Rattle.calvin_types.specs.Participants.{is_active}
use Rattle.calvin_types.specs.Submitting.{has_key, is_attempt}
use Rattle.calvin_app.specs.declared.answer.Answer.{Answer}
use Rattle.calvin_app.specs.Meaning.{Meaning}
use Rattle.calvin_app.specs.Rows.{Rows}
use Rattle.calvin_app.specs.Stores.{Point, marked, is_hot, cooled}
use Rattle.calvin_synod.specs.declared.message.Message.{Message}
use Rattle.calvin_synod.specs.declared.message.Message.TheVariants.{Prepare, Promise, Accept, Refused, Accepted}
use Rattle.calvin_synod.specs.Cases as synod
use Rattle.calvin_synod.specs.Cases.{Replica, Letters, slot_of, replica_from}
use Rattle.calvin_order.specs.Configs.{Config, merged}
use Rattle.calvin_order.specs.Merged.{Batch, end_of}
use Rattle.calvin_order.specs.Sequencing as sequencing
use Rattle.calvin_types.proofs.ExactMaps.{insert_here}
use Rattle.calvin_types.proofs.PlaceOrder.{place_total, place_exact}
use Rattle.calvin_types.specs.Places.{place_cmp}
use Rattle.calvin_sched.specs.declared.phase.Phase.{Phase}
use Rattle.calvin_sched.specs.declared.phase.Phase.TheVariants.{Waiting, Begun, Done}
use Rattle.calvin_sched.specs.Scheduling.{Turn, Scheduling, with_store, reads_here, other_active, turn_at}
use Rattle.calvin_sched.specs.Steps as sched
use Rattle.calvin_store.specs.Points.{mark_by, mark_at, cool_by}
use Rattle.calvin_sched.specs.Standing.{local_places, none_done_from, all_done, closed_at, stands, take_map, take_from, take_rows, by_store, mark, warm}
use Rattle.calvin_node_packets.specs.declared.packet.Content.{Content}
use Rattle.calvin_node_packets.specs.declared.packet.Packet.{Packet}
use Rattle.calvin_node_packets.specs.declared.packet.Address.TheVariants.{AtNode, AtClient}
use Rattle.calvin_node_packets.specs.declared.packet.Content.TheVariants.{Synod, Decided, AskBatch, Reads, AskReads, Warm, Replies}
use Rattle.calvin_node_packets.specs.Packets.{is_for, to_each, synod_packets, participants, warm_packets, telling}
use Rattle.calvin_node_acts.specs.NodeStates.{NodeState, own_slot, with_synod, with_sequencer, with_scheduler, holding, restarted}
use Rattle.calvin_node_acts.specs.Handling as handling
use Rattle.calvin_node_acts.specs.Handling.{NodeDeed, counted}
use Rattle.calvin_node_acts.specs.Acting as node
use Rattle.calvin_node_acts.specs.declared.act.Act.{Act}
use Rattle.calvin_node_acts.specs.declared.act.Act.TheVariants.{Submit, SubmitCold, Cool, Close, Merge, Lock, Restart, Propose, Snapshot, Mark, Begin, Finish, AskForReads, AskForBatch}
use Rattle.calvin_node_acts.specs.Acting.{submitted, deed_of}
use Rattle.calvin_world.specs.Worlds.{WorldState, index_of}
use Rattle.calvin_world.specs.Promises.{IsNode, held_by, DoneAtEnd, StandsAtEnd}
use Rattle.calvin_bench.specs.Turns.{site_of, HasTurn, Begins, Receives, Finishes}
use Rattle.calvin_bench.proofs.Deeds.{refuses_not, does_is, admit_does, begin_does, on_reads_does, finish_does, served_begun}

-- what a restart leaves of a synod
abbrev pub restarted_synod : {B : Type 0} → Replica B → Replica B
restarted_synod x = replica_from x.acceptor x.proposer.used

module _ {Args Row : Type 0} where
  -- a snapshot at the end of the first n epochs takes the rows of a node that stands there,
  pub record TakesMap (x : NodeState Args Row) (n : ℕ) (rows : Rows Row) : Type 0 where
    pub stands : StandsAtEnd x n
    pub taken : rows ≡ x.scheduler.store.map

  -- or those of the point that is marked there, once these epochs are merged and done
  pub record TakesPoint (x : NodeState Args Row) (n : ℕ) (rows : Rows Row) : Type 0 where
    pub is_done : DoneAtEnd x n
    pub point : Point Row
    pub is_open : x.scheduler.store.point ≡ Some point
    pub is_at : point.at ≡ end_of n
    pub taken : rows ≡ point.rows

  pub record TakesAtEnd (x : NodeState Args Row) (n : ℕ) (rows : Rows Row) (s : Scheduling Args Row) : Type 0 where
    pub takes : TakesMap x n rows ⊎ TakesPoint x n rows
    pub now : s ≡ closed_at n x.scheduler

  -- a point is opened at the end of the first n epochs
  pub record MarksAtEnd (x : NodeState Args Row) (n : ℕ) (s : Scheduling Args Row) : Type 0 where
    pub none_open : x.scheduler.store.point ≡ None
    pub none_later : none_done_from x.scheduler n ≡ true
    pub not_older : nat_le x.scheduler.opened_from.epoch n ≡ true
    pub now : s ≡ with_store x.scheduler (marked (end_of n) x.scheduler.store)

module _ {Args Row Reply : Type 0} (m : Meaning Args Row Reply) (config : Config) where
  -- the cases of a message that came from this node
  abbrev pub Handles : NodeId → Content Args Row Reply → NodeState Args Row → NodeState Args Row → List (Packet Args Row Reply) → Type 0
  Handles from (Synod message) x next sent =
      ((slot_of message).group ≡ x.id.partition) × (s : Replica (Batch Args)) × (letters : Letters (Batch Args)) × (given : Option (Slot × Batch Args))
      × (synod.handle config.replicas from.replica message x.synod ≡ synod.Does s letters given)
      × (next ≡ counted (with_synod x s) given) × (sent ≡ synod_packets config.replicas x.id letters ++ telling config.partitions x.id given)
  Handles from (Decided slot batch) x next sent = (next ≡ holding x slot batch) × (sent ≡ [])
  Handles from (AskBatch slot) x next sent =
      (batch : Batch Args) × (get x.held slot ≡ Some batch) × (next ≡ x) × (sent ≡ record { from = x.id; to = AtNode from; content = Decided slot batch } ∷ [])
  Handles from (Reads place rows) x next sent =
      (s : Scheduling Args Row) × Receives (site_of config.partitions x.id.partition) x.scheduler place from.partition rows s
      × (next ≡ with_scheduler x s x.pending) × (sent ≡ [])
  Handles from (AskReads place) x next sent =
      (j : Turn Args Row) × HasTurn x.scheduler place j × (j.phase ≢ Waiting)
      × (next ≡ x) × (sent ≡ record { from = x.id; to = AtNode from; content = Reads place j.served } ∷ [])
  Handles from (Warm sets) x next sent = (next ≡ with_scheduler x (warm (sets.reads ++ sets.writes) x.scheduler) x.pending) × (sent ≡ [])
  Handles from (Replies place id attempt answer) x next sent = ⊥

  -- and of the other events
  abbrev pub Acts : Act Args → NodeState Args Row → NodeState Args Row → List (Packet Args Row Reply) → Type 0
  Acts (Submit t) x next sent = (next ≡ with_sequencer x (record x.sequencer { queue = x.sequencer.queue ++ t ∷ [] })) × (sent ≡ [])
  Acts (SubmitCold t) x next sent = (next ≡ with_sequencer x (sequencing.ripened config.delay (sequencing.delayed t x.sequencer))) × (sent ≡ warm_packets config.partitions x.id t (participants config.partitions t))
  Acts (Cool k) x next sent = (next ≡ with_scheduler x (with_store x.scheduler (cooled k x.scheduler.store)) x.pending) × (sent ≡ [])
  Acts Close x next sent = (next ≡ with_sequencer x (sequencing.ripened config.delay (sequencing.ticked (sequencing.closing x.sequencer)))) × (sent ≡ [])
  Acts (Propose e) x next sent =
      (batch : Batch Args) × (sequencing.closed_in x.sequencer.closed e ≡ Some batch) × (s : Replica (Batch Args)) × (letters : Letters (Batch Args)) × (given : Option (Slot × Batch Args))
      × (synod.propose x.id.replica (own_slot x e) batch x.synod ≡ synod.Does s letters given)
      × (next ≡ counted (with_synod x s) given) × (sent ≡ synod_packets config.replicas x.id letters ++ telling config.partitions x.id given)
  Acts Merge x next sent =
      ((g : ℕ) → g < config.partitions → get x.held (record { epoch = x.merged_epochs; group = g }) ≢ None)
      × (next ≡ record x {
        merged_epochs = suc x.merged_epochs;
        due = x.due ++ local_places (site_of config.partitions x.id.partition) (merged config (held_by x) x.merged_epochs);
        pending = x.pending ++ merged config (held_by x) x.merged_epochs;
      }) × (sent ≡ [])
  Acts Lock x next sent =
      (q : Place) × (t : Txn Args) × (rest : Order Args) × (x.pending ≡ (q, t) ∷ rest)
      × (next ≡ with_scheduler x (sched.admitted (site_of config.partitions x.id.partition) x.scheduler q t) rest) × (sent ≡ [])
  Acts (Begin q) x next sent =
      (s : Scheduling Args Row) × (j : Turn Args Row) × Begins (site_of config.partitions x.id.partition) x.scheduler q s × HasTurn s q j × (j.phase ≢ Waiting)
      × (next ≡ with_scheduler x s x.pending)
      × (sent ≡ (if reads_here (site_of config.partitions x.id.partition) j.request then to_each x.id x.id.replica (Reads q j.served) (other_active (site_of config.partitions x.id.partition) j.request) else []))
  Acts (Finish q) x next sent =
      (s : Scheduling Args Row) × (a : Answer Reply) × (b : Finishes m (site_of config.partitions x.id.partition) x.scheduler q a s)
      × (next ≡ with_scheduler x s x.pending)
      × (sent ≡ record { from = x.id; to = AtClient b.turn.request.id.client; content = Replies q b.turn.request.id b.turn.request.attempt a } ∷ [])
  Acts (Snapshot e) x next sent =
      (rows : Rows Row) × (s : Scheduling Args Row) × TakesAtEnd x (suc e) rows s × (next ≡ record x { scheduler = s; kept_epochs = suc e; kept_rows = rows }) × (sent ≡ [])
  Acts (Mark e) x next sent =
      (s : Scheduling Args Row) × MarksAtEnd x (suc e) s × (next ≡ with_scheduler x s x.pending) × (sent ≡ [])
  Acts (AskForReads q r) x next sent = (ps : List ℕ) × (next ≡ x) × (sent ≡ to_each x.id r (AskReads q) ps)
  Acts (AskForBatch slot of) x next sent = (next ≡ x) × (sent ≡ record { from = x.id; to = AtNode of; content = AskBatch slot } ∷ [])
  Acts Restart x next sent = (next ≡ restarted x (restarted_synod x.synod)) × (sent ≡ [])

module _ {Args Row Reply : Type 0} where
  -- one node changes, and packets are sent
  pub record Changes (w : WorldState Args Row Reply) (me : NodeId) (Does : NodeState Args Row → NodeState Args Row → List (Packet Args Row Reply) → Type 0) (new : WorldState Args Row Reply) : Type 0 where
    pub node : NodeState Args Row
    pub next : NodeState Args Row
    pub sent : List (Packet Args Row Reply)
    pub is_node : IsNode w me node
    pub does : Does node next sent
    pub now : new ≡ record w { nodes = slice_set w.nodes (index_of w.config.partitions me) next; packets = w.packets ++ sent }

  -- the packet of this number comes to its node
  pub record Delivers (m : Meaning Args Row Reply) (w : WorldState Args Row Reply) (number : ℕ) (new : WorldState Args Row Reply) : Type 0 where
    pub packet : Packet Args Row Reply
    pub to : NodeId
    pub sent : slice_get w.packets number ≡ Some packet
    pub handles : Changes w to (Handles m w.config packet.from packet.content) new

-- ---- each deed that takes effect

module _ {Args Row : Type 0} (x : NodeState Args Row) (n : ℕ) (s : Scheduling Args Row) where
  -- a snapshot that is taken
  takes_map : (rows : Rows Row) → take_map x.merged_epochs x.due n x.scheduler ≡ Does s rows → TakesAtEnd x n rows s
  takes_map rows e = go (stands x.scheduler x.merged_epochs x.due n) refl e
    where
      go : (b : Bool) → stands x.scheduler x.merged_epochs x.due n ≡ b → cond b (Does (closed_at n x.scheduler) x.scheduler.store.map) (Refuses fault.NotAtEnd) ≡ Does s rows → TakesAtEnd x n rows s
      go true at_end e = let both = does_is e in record { takes = inl (record { stands = at_end; taken = both.1 }); now = both.0 }
      go false at_end e = absurd (refuses_not e)

  takes_at_end : (rows : Rows Row) → take_rows x.merged_epochs x.due n x.scheduler ≡ Does s rows → TakesAtEnd x n rows s
  takes_at_end rows e = by_point x.scheduler.store.point refl e
    where
      by_done : (p : Point Row) → x.scheduler.store.point ≡ Some p → p.at ≡ end_of n → (b : Bool) → all_done x.scheduler x.merged_epochs x.due n ≡ b → cond b (Does (closed_at n x.scheduler) p.rows) (Refuses fault.NotAtEnd) ≡ Does s rows → TakesAtEnd x n rows s
      by_done p is_open at true all e = let both = does_is e in record { takes = inr (record { is_done = all; point = p; is_open = is_open; is_at = at; taken = both.1 }); now = both.0 }
      by_done p is_open at false all e = absurd (refuses_not e)

      by_place : (p : Point Row) → x.scheduler.store.point ≡ Some p → (b : Bool) → eq_by_cmp place_cmp p.at (end_of n) ≡ b
          → cond b (cond (all_done x.scheduler x.merged_epochs x.due n) (Does (closed_at n x.scheduler) p.rows) (Refuses fault.NotAtEnd)) (take_map x.merged_epochs x.due n x.scheduler) ≡ Does s rows → TakesAtEnd x n rows s
      by_place p is_open true same e = by_done p is_open (place_exact p.at (end_of n) ((Equal-is (place_cmp p.at (end_of n))).0 same)) (all_done x.scheduler x.merged_epochs x.due n) refl e
      by_place p is_open false same e = takes_map rows e

      by_point : (o : Option (Point Row)) → x.scheduler.store.point ≡ o → take_from x.merged_epochs x.due n x.scheduler o ≡ Does s rows → TakesAtEnd x n rows s
      by_point None is_open e = takes_map rows e
      by_point (Some p) is_open e = by_place p is_open (eq_by_cmp place_cmp p.at (end_of n)) refl e

-- a point that is opened
marks_at_end : {Args Row : Type 0} (points : Bool) (x : NodeState Args Row) (n : ℕ) (s : Scheduling Args Row) (out : Unit {0}) → mark points n x.scheduler ≡ Does s out → MarksAtEnd x n s
marks_at_end {Args} {Row} points x n s out e = by_test (none_done_from x.scheduler n && nat_le x.scheduler.opened_from.epoch n) refl e
  where
    by_kind : none_done_from x.scheduler n ≡ true → nat_le x.scheduler.opened_from.epoch n ≡ true → x.scheduler.store.point ≡ None
        → (b : Bool) → by_store x.scheduler (cond b (Does (marked (end_of n) x.scheduler.store) (tt {0})) (Refuses fault.NoPoints)) ≡ Does s out → MarksAtEnd x n s
    by_kind later older none true e = record { none_open = none; none_later = later; not_older = older; now = (does_is e).0 }
    by_kind later older none false e = absurd (refuses_not e)

    by_point : none_done_from x.scheduler n ≡ true → nat_le x.scheduler.opened_from.epoch n ≡ true → (o : Option (Point Row)) → x.scheduler.store.point ≡ o → by_store x.scheduler (mark_by points (end_of n) x.scheduler.store o) ≡ Does s out → MarksAtEnd x n s
    by_point later older (Some p) is e = absurd (refuses_not e)
    by_point later older None is e = by_kind later older is points e

    by_test : (b : Bool) → (none_done_from x.scheduler n && nat_le x.scheduler.opened_from.epoch n) ≡ b → cond b (by_store x.scheduler (mark_at points (end_of n) x.scheduler.store)) (Refuses fault.PointTooLate) ≡ Does s out → MarksAtEnd x n s
    by_test true h e = let both = and_parts (none_done_from x.scheduler n) (nat_le x.scheduler.opened_from.epoch n) h in by_point both.0 both.1 x.scheduler.store.point refl e
    by_test false h e = absurd (refuses_not e)

-- what passes for each of a range
all_of : (p : ℕ → Bool) (a n : ℕ) → list_all p (range_with_len a n) ≡ true → (g : ℕ) → a ≤ g → g < a + n → p g ≡ true
all_of p a zero all g low high = absurd (omega (arith, low, high))
all_of p a (suc n) all g low high = go (and_parts (p a) (list_all p (range_with_len (a + 1) n)) all) (cases_lt a g) (λ rest up below. all_of p (a + 1) n rest g up below)
  where
    go : (p a ≡ true) × (list_all p (range_with_len (a + 1) n) ≡ true) → (a < g) ⊎ (g ≤ a) → (list_all p (range_with_len (a + 1) n) ≡ true → a + 1 ≤ g → g < a + 1 + n → p g ≡ true) → p g ≡ true
    go both (inl more) next = next both.1 (omega (arith, more)) (omega (arith, high))
    go both (inr same) next = let is : a ≡ g = omega (arith, low, same) in ap p (sym is) ∙ both.0

module _ {Args Row Reply : Type 0} (config : Config) (x : NodeState Args Row) (next : NodeState Args Row) (sent : List (Packet Args Row Reply)) where
  -- what the synod does
  record BySynod (deed : synod.Deed (Batch Args)) : Type 0 where
    s : Replica (Batch Args)
    letters : Letters (Batch Args)
    given : Option (Slot × Batch Args)
    is : deed ≡ synod.Does s letters given
    now : next ≡ counted (with_synod x s) given
    says : sent ≡ synod_packets config.replicas x.id letters ++ telling config.partitions x.id given

  by_synod_does : (deed : synod.Deed (Batch Args)) → handling.by_synod config x deed ≡ Does next sent → BySynod deed
  by_synod_does (synod.Refuses f) e = absurd (refuses_not e)
  by_synod_does (synod.Does s letters given) e = let both = does_is e in record { s = s; letters = letters; given = given; is = refl; now = both.0; says = both.1 }

  on_synod_does : (from : ℕ) (message : Message (Batch Args)) → handling.on_synod config from message x ≡ Does next sent → BySynod (synod.handle config.replicas from message x.synod)
  on_synod_does from (Prepare slot ballot) e = by_synod_does (synod.handle config.replicas from (Prepare slot ballot) x.synod) e
  on_synod_does from (Promise slot ballot vote) e = by_synod_does (synod.handle config.replicas from (Promise slot ballot vote) x.synod) e
  on_synod_does from (Accept slot ballot batch) e = by_synod_does (synod.handle config.replicas from (Accept slot ballot batch) x.synod) e
  on_synod_does from (Refused slot ballot promise) e = by_synod_does (synod.handle config.replicas from (Refused slot ballot promise) x.synod) e
  on_synod_does from (Accepted slot ballot batch) e = go (get x.held slot) e
    where
      go : (o : Option (Batch Args)) → handling.on_vote config from (Accepted slot ballot batch) x o ≡ Does next sent → BySynod (synod.handle config.replicas from (Accepted slot ballot batch) x.synod)
      go None e = by_synod_does (synod.handle config.replicas from (Accepted slot ballot batch) x.synod) e
      go (Some held) e = absurd (refuses_not e)

  module _ (m : Meaning Args Row Reply) where
    pub handle_content_does : (from : NodeId) (content : Content Args Row Reply) → handling.handle_content config from content x ≡ Does next sent → Handles m config from content x next sent
    handle_content_does from (Synod message) e = go ((slot_of message).group == x.id.partition) refl e
      where
        go : (b : Bool) → ((slot_of message).group == x.id.partition) ≡ b → cond b (handling.on_synod config from.replica message x) (Refuses fault.NotMine) ≡ Does next sent → Handles m config from (Synod message) x next sent
        go true own e = let d = on_synod_does from.replica message e in (eqb-true (slot_of message).group x.id.partition own, d.s, d.letters, d.given, d.is, d.now, d.says)
        go false own e = absurd (refuses_not e)
    handle_content_does from (Decided slot batch) e = go (get x.held slot) e
      where
        go : (o : Option (Batch Args)) → handling.on_decided slot batch x o ≡ Does next sent → (next ≡ holding x slot batch) × (sent ≡ [])
        go None e = does_is e
        go (Some held) e = absurd (refuses_not e)
    handle_content_does from (AskBatch slot) e = go (get x.held slot) refl e
      where
        go : (o : Option (Batch Args)) → get x.held slot ≡ o → handling.on_ask_batch from slot x o ≡ Does next sent → Handles m config from (AskBatch slot) x next sent
        go None is e = absurd (refuses_not e)
        go (Some batch) is e = let both = does_is e in (batch, is, both.0, both.1)
    handle_content_does from (Warm sets) e = does_is e
    handle_content_does from (Reads q rows) e = go (sched.on_reads (site_of config.partitions x.id.partition) q from.partition rows x.scheduler) refl e
      where
        go : (deed : Deed (Scheduling Args Row) (Unit {0})) → sched.on_reads (site_of config.partitions x.id.partition) q from.partition rows x.scheduler ≡ deed → handling.by_scheduler x deed ≡ Does next sent → Handles m config from (Reads q rows) x next sent
        go (Refuses f) is e = absurd (refuses_not e)
        go (Does s out) is e = let both = does_is e in (s, on_reads_does (site_of config.partitions x.id.partition) q x.scheduler from.partition rows s out is, both.0, both.1)
    handle_content_does from (AskReads q) e = by_turn (turn_at x.scheduler q) refl e
      where
        at_turn : (j : Turn Args Row) → turn_at x.scheduler q ≡ Some j → (r : Result (Rows Row) Fault) → sched.served_at (Some j) ≡ r → handling.serve_again from q x r ≡ Does next sent → Handles m config from (AskReads q) x next sent
        at_turn j has (Err f) is e = absurd (refuses_not e)
        at_turn j has (Ok rows) is e =
            let both = does_is e in
            let known = served_begun j rows is in
            (j, has, known.0, both.0, both.1 ∙ ap (λ (r : Rows Row). record { from = x.id; to = AtNode from; content = Reads q r } ∷ []) known.1)

        by_turn : (o : Option (Turn Args Row)) → turn_at x.scheduler q ≡ o → handling.on_ask_reads config from q x o ≡ Does next sent → Handles m config from (AskReads q) x next sent
        by_turn None has e = absurd (refuses_not e)
        by_turn (Some j) has e = go (reads_here (site_of config.partitions x.id.partition) j.request) e
          where
            go : (b : Bool) → cond b (handling.serve_again from q x (sched.served_at (Some j))) (Refuses fault.NotServed) ≡ Does next sent → Handles m config from (AskReads q) x next sent
            go true e = at_turn j has (sched.served_at (Some j)) refl e
            go false e = absurd (refuses_not e)
    handle_content_does from (Replies q id attempt answer) e = absurd (refuses_not e)

    pub handle_does : (p : Packet Args Row Reply) → handling.handle config p x ≡ Does next sent → Handles m config p.from p.content x next sent
    handle_does p e = go (is_for p.to x.id) e
      where
        go : (b : Bool) → cond b (handling.handle_content config p.from p.content x) (Refuses fault.NotMine) ≡ Does next sent → Handles m config p.from p.content x next sent
        go true e = handle_content_does p.from p.content e
        go false e = absurd (refuses_not e)

    -- ---- the other events

    submitted_does : (t : Txn Args) (to : sequencing.Sequencing Args) (packets : List (Packet Args Row Reply)) → node.by_sequencer x packets (sequencing.submit_to t x.sequencer to) ≡ Does next sent → (next ≡ with_sequencer x to) × (sent ≡ packets)
    submitted_does t to packets e = by_room (nat_lt (sequencing.load x.sequencer) 4096) e
      where
        by_attempt : (b : Bool) → node.by_sequencer x packets (cond b (Does to (tt {0})) (Refuses fault.TooManyAttempts)) ≡ Does next sent → (next ≡ with_sequencer x to) × (sent ≡ packets)
        by_attempt true e = does_is e
        by_attempt false e = absurd (refuses_not e)

        by_keys : (b : Bool) → node.by_sequencer x packets (cond b (cond (is_attempt t.attempt) (Does to (tt {0})) (Refuses fault.TooManyAttempts)) (Refuses fault.EmptySets)) ≡ Does next sent → (next ≡ with_sequencer x to) × (sent ≡ packets)
        by_keys true e = by_attempt (is_attempt t.attempt) e
        by_keys false e = absurd (refuses_not e)

        by_room : (b : Bool) → node.by_sequencer x packets (cond b (cond (has_key t.sets) (cond (is_attempt t.attempt) (Does to (tt {0})) (Refuses fault.TooManyAttempts)) (Refuses fault.EmptySets)) (Refuses fault.QueueFull)) ≡ Does next sent
            → (next ≡ with_sequencer x to) × (sent ≡ packets)
        by_room true e = by_keys (has_key t.sets) e
        by_room false e = absurd (refuses_not e)

    pub close_does : node.close config x ≡ Does next sent → Acts m config Close x next sent
    close_does e = go (nat_lt (sequencing.next_epoch x.sequencer) (2 ^ 48)) e
      where
        go : (b : Bool) → node.by_sequencer x [] (cond b (Does (sequencing.ripened config.delay (sequencing.ticked (sequencing.closing x.sequencer))) (sequencing.next_epoch x.sequencer)) (Refuses fault.EpochsSpent)) ≡ Does next sent → Acts m config Close x next sent
        go true e = does_is e
        go false e = absurd (refuses_not e)

    pub cool_does : (k : Key) → node.cool_row config k x ≡ Does next sent → Acts m config (Cool k) x next sent
    cool_does k e = by_point x.scheduler.store.point e
      where
        by_table : (b : Bool) → handling.by_scheduler x (by_store x.scheduler (cond b (Does (cooled k x.scheduler.store) (tt {0})) (Refuses fault.NoColdTable))) ≡ Does next sent → Acts m config (Cool k) x next sent
        by_table true e = does_is e
        by_table false e = absurd (refuses_not e)

        by_hot : (b : Bool) → handling.by_scheduler x (by_store x.scheduler (cond b (cond config.cold (Does (cooled k x.scheduler.store) (tt {0})) (Refuses fault.NoColdTable)) (Refuses fault.NoRow))) ≡ Does next sent → Acts m config (Cool k) x next sent
        by_hot true e = by_table config.cold e
        by_hot false e = absurd (refuses_not e)

        by_point : (o : Option (Point Row)) → handling.by_scheduler x (by_store x.scheduler (cool_by config.cold k x.scheduler.store o)) ≡ Does next sent → Acts m config (Cool k) x next sent
        by_point (Some p) e = absurd (refuses_not e)
        by_point None e = by_hot (is_hot x.scheduler.store k) e

    pub propose_does : (n : ℕ) → node.propose config n x ≡ Does next sent → Acts m config (Propose n) x next sent
    propose_does n e = by_round (synod.has_round x.synod) e
      where
        by_held : (batch : Batch Args) → sequencing.closed_in x.sequencer.closed n ≡ Some batch → (b : Bool) → cond b (Refuses fault.Decided) (handling.by_synod config x (synod.propose x.id.replica (own_slot x n) batch x.synod)) ≡ Does next sent → Acts m config (Propose n) x next sent
        by_held batch is true e = absurd (refuses_not e)
        by_held batch is false e = let d = by_synod_does (synod.propose x.id.replica (own_slot x n) batch x.synod) e in (batch, is, d.s, d.letters, d.given, d.is, d.now, d.says)

        by_closed : (o : Option (Batch Args)) → sequencing.closed_in x.sequencer.closed n ≡ o → node.propose_closed config n x o ≡ Does next sent → Acts m config (Propose n) x next sent
        by_closed None is e = absurd (refuses_not e)
        by_closed (Some batch) is e = by_held batch is (contains_key x.held (own_slot x n)) e

        by_round : (b : Bool) → cond b (node.propose_closed config n x (sequencing.closed_in x.sequencer.closed n)) (Refuses fault.RoundsSpent) ≡ Does next sent → Acts m config (Propose n) x next sent
        by_round true e = by_closed (sequencing.closed_in x.sequencer.closed n) refl e
        by_round false e = absurd (refuses_not e)

    pub merge_does : node.merge config x ≡ Does next sent → Acts m config Merge x next sent
    merge_does e = go (node.is_complete config x) refl e
      where
        there : node.is_complete config x ≡ true → (g : ℕ) → g < config.partitions → get x.held (record { epoch = x.merged_epochs; group = g }) ≢ None
        there all g less none = false≢true (sym (ap is_some none) ∙ all_of (λ g. contains_key x.held (record { epoch = x.merged_epochs; group = g })) 0 config.partitions all g (omega arith) (omega (arith, less)))

        go : (b : Bool) → node.is_complete config x ≡ b → cond b (Does (record x {
          merged_epochs = suc x.merged_epochs;
          due = x.due ++ local_places (site_of config.partitions x.id.partition) (node.next_merged config x);
          pending = x.pending ++ node.next_merged config x;
        }) []) (Refuses fault.NotComplete) ≡ Does next sent → Acts m config Merge x next sent
        go true all e = let both = does_is e in (there all, both.0, both.1)
        go false all e = absurd (refuses_not e)

    pub lock_does : node.lock config x ≡ Does next sent → Acts m config Lock x next sent
    lock_does e = by_pending x.pending refl e
      where
        by_deed : (q : Place) (t : Txn Args) (rest : Order Args) → x.pending ≡ (q, t) ∷ rest → (deed : Deed (Scheduling Args Row) (Unit {0})) → sched.admit (site_of config.partitions x.id.partition) q t x.scheduler ≡ deed → node.lock_by x rest deed ≡ Does next sent → Acts m config Lock x next sent
        by_deed q t rest first (Refuses f) is e = absurd (refuses_not e)
        by_deed q t rest first (Does s out) is e =
            let both = does_is e in
            (q, t, rest, first, both.0 ∙ ap (λ s. with_scheduler x s rest) (admit_does (site_of config.partitions x.id.partition) q x.scheduler t s out is), both.1)

        by_pending : (pending : Order Args) → x.pending ≡ pending → node.lock_first config x pending ≡ Does next sent → Acts m config Lock x next sent
        by_pending [] first e = absurd (refuses_not e)
        by_pending (p ∷ rest) first e = by_deed p.0 p.1 rest first (sched.admit (site_of config.partitions x.id.partition) p.0 p.1 x.scheduler) refl e

    pub begin_acts : (q : Place) → node.begin config q x ≡ Does next sent → Acts m config (Begin q) x next sent
    begin_acts q e = go (sched.begin (site_of config.partitions x.id.partition) q x.scheduler) refl e
      where
        go : (deed : Deed (Scheduling Args Row) (sched.Serving Args Row)) → sched.begin (site_of config.partitions x.id.partition) q x.scheduler ≡ deed → node.begin_by config x q deed ≡ Does next sent → Acts m config (Begin q) x next sent
        go (Refuses f) is e = absurd (refuses_not e)
        go (Does s out) is e =
            let both = does_is e in
            let here = site_of config.partitions x.id.partition in
            let d = begin_does here q x.scheduler s out is in (
              s,
              sched.begun_turn here x.scheduler.store.map d.0.turn,
              d.0,
              ap (λ (s : Scheduling Args Row). get s.turns q) d.0.now ∙ insert_here place_cmp place_total place_exact x.scheduler.turns q (sched.begun_turn here x.scheduler.store.map d.0.turn),
              began (is_active here d.0.turn.request),
              both.0,
              both.1 ∙ ap (λ (o : sched.Serving Args Row). node.served_to config x q o) d.1,
            )
          where
            began : (b : Bool) → ◌≡◌ {A = Phase} (cond b Begun Done) Waiting → ⊥
            began true e = cc
            began false e = cc

    pub finish_acts : (q : Place) → node.finish m config q x ≡ Does next sent → Acts m config (Finish q) x next sent
    finish_acts q e = go (sched.finish m (site_of config.partitions x.id.partition) q x.scheduler) refl e
      where
        go : (deed : Deed (Scheduling Args Row) (Txn Args × Answer Reply)) → sched.finish m (site_of config.partitions x.id.partition) q x.scheduler ≡ deed → node.finish_by x q deed ≡ Does next sent → Acts m config (Finish q) x next sent
        go (Refuses f) is e = absurd (refuses_not e)
        go (Does s out) is e =
            let both = does_is e in
            let d = finish_does (site_of config.partitions x.id.partition) q x.scheduler m s out is in
            (s, out.1, d.0, both.0, both.1 ∙ ap (λ (t : Txn Args). record { from = x.id; to = AtClient t.id.client; content = Replies q t.id t.attempt out.1 } ∷ []) d.1)

    pub snapshot_does : (n : ℕ) → node.snapshot n x ≡ Does next sent → Acts m config (Snapshot n) x next sent
    snapshot_does n e = by_take (take_rows x.merged_epochs x.due (suc n) x.scheduler) refl e
      where
        by_take : (deed : Deed (Scheduling Args Row) (Rows Row)) → take_rows x.merged_epochs x.due (suc n) x.scheduler ≡ deed → node.snapshot_by n x deed ≡ Does next sent → Acts m config (Snapshot n) x next sent
        by_take (Refuses f) is e = absurd (refuses_not e)
        by_take (Does s rows) is e = by_older (nat_le x.kept_epochs n) e
          where
            by_older : (b : Bool) → cond b (Does (record x { scheduler = s; kept_epochs = suc n; kept_rows = rows }) []) (Refuses fault.Older) ≡ Does next sent → Acts m config (Snapshot n) x next sent
            by_older true e = let both = does_is e in (rows, s, takes_at_end x (suc n) s rows is, both.0, both.1)
            by_older false e = absurd (refuses_not e)

    pub mark_does : (n : ℕ) → node.mark_end config n x ≡ Does next sent → Acts m config (Mark n) x next sent
    mark_does n e = by_mark (mark config.points (suc n) x.scheduler) refl e
      where
        by_mark : (deed : Deed (Scheduling Args Row) (Unit {0})) → mark config.points (suc n) x.scheduler ≡ deed → handling.by_scheduler x deed ≡ Does next sent → Acts m config (Mark n) x next sent
        by_mark (Refuses f) is e = absurd (refuses_not e)
        by_mark (Does s out) is e = let both = does_is e in (s, marks_at_end config.points x (suc n) s out is, both.0, both.1)

    pub ask_reads_does : (q : Place) (r : ℕ) → node.ask_reads config q r x ≡ Does next sent → Acts m config (AskForReads q r) x next sent
    ask_reads_does q r e = by_range (nat_lt r config.replicas) e
      where
        by_list : (ps : List ℕ) → node.ask_each x q r ps ≡ Does next sent → Acts m config (AskForReads q r) x next sent
        by_list [] e = absurd (refuses_not e)
        by_list (p ∷ ps) e = let both = does_is e in (p ∷ ps, both.0, both.1)

        by_range : (b : Bool) → cond b (node.ask_each x q r (node.awaited_from config x (turn_at x.scheduler q))) (Refuses fault.NoNode) ≡ Does next sent → Acts m config (AskForReads q r) x next sent
        by_range true e = by_list (node.awaited_from config x (turn_at x.scheduler q)) e
        by_range false e = absurd (refuses_not e)

    pub ask_batch_does : (slot : Slot) (of : NodeId) → node.ask_batch config slot of x ≡ Does next sent → Acts m config (AskForBatch slot of) x next sent
    ask_batch_does slot of e = by_range (nat_lt of.replica config.replicas && nat_lt of.partition config.partitions && nat_lt slot.group config.partitions) e
      where
        by_held : (b : Bool) → cond b (Refuses fault.Known) (Does x (record { from = x.id; to = AtNode of; content = AskBatch slot } ∷ [])) ≡ Does next sent → Acts m config (AskForBatch slot of) x next sent
        by_held true e = absurd (refuses_not e)
        by_held false e = does_is e

        by_range : (b : Bool) → cond b (cond (contains_key x.held slot) (Refuses fault.Known) (Does x (record { from = x.id; to = AtNode of; content = AskBatch slot } ∷ []))) (Refuses fault.NoNode) ≡ Does next sent → Acts m config (AskForBatch slot of) x next sent
        by_range true e = by_held (contains_key x.held slot) e
        by_range false e = absurd (refuses_not e)

    pub restart_does : node.restart x ≡ Does next sent → Acts m config Restart x next sent
    restart_does e = does_is e

    -- each of them
    pub acts_does : (act : Act Args) → deed_of m config act x ≡ Does next sent → Acts m config act x next sent
    acts_does (Submit t) e = submitted_does t (record x.sequencer { queue = x.sequencer.queue ++ t ∷ [] }) [] e
    acts_does (SubmitCold t) e = submitted_does t (sequencing.ripened config.delay (sequencing.delayed t x.sequencer)) (warm_packets config.partitions x.id t (participants config.partitions t)) e
    acts_does (Cool k) e = cool_does k e
    acts_does Close e = close_does e
    acts_does Merge e = merge_does e
    acts_does Lock e = lock_does e
    acts_does Restart e = restart_does e
    acts_does (Propose n) e = propose_does n e
    acts_does (Snapshot n) e = snapshot_does n e
    acts_does (Begin q) e = begin_acts q e
    acts_does (Finish q) e = finish_acts q e
    acts_does (Mark n) e = mark_does n e
    acts_does (AskForReads q r) e = ask_reads_does q r e
    acts_does (AskForBatch slot of) e = ask_batch_does slot of e
