-- What an event makes of a settled node is what it makes of the node, settled.
--     settled_deed deed      the deed, with the node after it settled
--     acts_same, handled_same      an act, and a packet
--     act_grows_same, content_grows_same      an act grows something at both or at none;  so does what a packet says
--     all_done_same      both are done at the same ends
use Rattle.std.proofs.Common.{◌≡◌, ℕ, suc, Bool, true, false, cond, not, ◌&&◌, List, [], ◌∷◌, ◌++◌, Option, Some, None, Result, Ok, Err, refl, sym, ap, subst, ◌∙◌}
use Rattle.std.proofs.lemmas.List.Elements.{filter-append}
use Rattle.std.specs.Prelude.{nat_le, nat_lt, ◌==◌}
use Rattle.std.specs.Ordering.{eq_by_cmp}
use Rattle.std.specs.FinMap.{get, contains_key}
use Rattle.calvin_types.specs.declared.fault.Fault.{Fault}
use Rattle.calvin_types.specs.declared.fault.Fault.TheVariants as fault
use Rattle.calvin_types.specs.declared.place.NodeId.{NodeId}
use Rattle.calvin_types.specs.declared.place.Place.{Place}
use Rattle.calvin_types.specs.declared.place.Slot.{Slot}
use Rattle.calvin_types.specs.declared.txn.Txn.{Txn}
use Rattle.calvin_types.specs.Deeds.{Deed, Refuses, Does}
use Rattle.calvin_types.specs.Orders.{Order}
use Rattle.calvin_types.specs.Places.{place_cmp}
use Rattle.calvin_app.specs.declared.answer.Answer.{Answer}
use Rattle.calvin_app.specs.Meaning.{Meaning}
use Rattle.calvin_app.specs.Rows.{Rows}
use Rattle.calvin_app.specs.Stores.{Store, Point}
use Rattle.calvin_synod.specs.Cases as synod
use Rattle.calvin_synod.specs.declared.message.Message.{Message}
use Rattle.calvin_synod.specs.declared.message.Message.TheVariants.{Prepare, Promise, Accept, Refused, Accepted}
use Rattle.calvin_order.specs.Configs.{Config}
use Rattle.calvin_order.specs.Merged.{Batch, end_of}
use Rattle.calvin_order.specs.Sequencing as sequencing
use Rattle.calvin_store.specs.Points.{mark_at, cool_key}
use Rattle.calvin_sched.specs.Scheduling.{Turn, Scheduling, is_done, turn_at, reads_here}
use Rattle.calvin_sched.specs.Steps as sched
use Rattle.calvin_sched.specs.Progress.{left}
use Rattle.calvin_sched.specs.Standing.{local_places, none_done_from, all_done, closed_at, stands, take_map, take_from, by_store, mark, warm}
use Rattle.calvin_sched.proofs.Standings.{all_left, stands_left}
use Rattle.calvin_bench.proofs.Deeds.{refuses_not, does_is}
use Rattle.calvin_bench.proofs.Seats.{left_twice, left_later}
use Rattle.calvin_bench.proofs.ReachedReplicas.{StaysDone, begun_done, received_done, finished_done}
use Rattle.calvin_node_acts.specs.NodeStates.{NodeState, site_of, own_slot, with_synod}
use Rattle.calvin_node_packets.specs.Packets.{is_for}
use Rattle.calvin_node_acts.specs.Handling.{NodeDeed, counted, by_synod, on_vote, on_synod, on_decided, on_ask_batch, by_scheduler, serve_again, on_ask_reads, handle_content, handle}
use Rattle.calvin_node_acts.specs.Acting as node
use Rattle.calvin_node_acts.specs.Acting.{deed_of}
use Rattle.calvin_node_acts.specs.Growing.{act_grows, content_grows}
use Rattle.calvin_node_acts.specs.Running.{settled}
use Rattle.calvin_node_packets.specs.declared.packet.Packet.{Packet}
use Rattle.calvin_node_packets.specs.declared.packet.Address.TheVariants.{AtNode, AtClient}
use Rattle.calvin_node_packets.specs.declared.packet.Content.{Content}
use Rattle.calvin_node_packets.specs.declared.packet.Content.TheVariants.{Synod, Decided, AskBatch, Reads, AskReads, Warm, Replies}
use Rattle.calvin_node_acts.specs.declared.act.Act.{Act}
use Rattle.calvin_node_acts.specs.declared.act.Act.TheVariants.{Submit, SubmitCold, Cool, Close, Merge, Lock, Restart, Propose, Snapshot, Mark, Begin, Finish, AskForReads, AskForBatch}
use Rattle.calvin_world.proofs.NonePast.{NonePast, admit_stays}

module _ {Args Row : Type 0} where
  pub settled_twice : (x : NodeState Args Row) → settled (settled x) ≡ settled x
  settled_twice x = λ i. record x { due = left_twice x.scheduler x.due i }

  -- an act grows something at both or at none
  pub act_grows_same : (c : Config) (x : NodeState Args Row) (act : Act Args) → act_grows c act (settled x) ≡ act_grows c act x
  act_grows_same c x (Submit t) = refl
  act_grows_same c x (SubmitCold t) = refl
  act_grows_same c x (Cool k) = refl
  act_grows_same c x Close = refl
  act_grows_same c x Merge = refl
  act_grows_same c x Lock = refl
  act_grows_same c x Restart = refl
  act_grows_same c x (Propose e) = refl
  act_grows_same c x (Snapshot e) = refl
  act_grows_same c x (Mark e) = refl
  act_grows_same c x (Begin q) = refl
  act_grows_same c x (Finish q) = refl
  act_grows_same c x (AskForReads q r) = refl
  act_grows_same c x (AskForBatch slot of) = refl

  pub content_grows_same : {Reply : Type 0} (c : Config) (x : NodeState Args Row) (content : Content Args Row Reply) → content_grows c content (settled x) ≡ content_grows c content x
  content_grows_same c x (Synod message) = refl
  content_grows_same c x (Decided slot batch) = refl
  content_grows_same c x (AskBatch slot) = refl
  content_grows_same c x (Reads q rows) = refl
  content_grows_same c x (AskReads q) = refl
  content_grows_same c x (Warm sets) = refl
  content_grows_same c x (Replies q id attempt answer) = refl

  -- ---- standing

  pub all_done_same : (s : Scheduling Args Row) (merged : ℕ) (due : List Place) (n : ℕ) → all_done s merged (left s due) n ≡ all_done s merged due n
  all_done_same s merged due n = λ i. nat_le n merged && all_left s merged n due i

  take_same : (s : Scheduling Args Row) (merged : ℕ) (due : List Place) (n : ℕ) (o : Option (Point Row)) → take_from merged (left s due) n s o ≡ take_from merged due n s o
  take_same s merged due n None = λ i. cond (stands_left s merged due n i) (Does (closed_at n s) s.store.map) (Refuses fault.NotAtEnd)
  take_same s merged due n (Some p) =
      λ i. cond (eq_by_cmp place_cmp p.at (end_of n)) (cond (all_done_same s merged due n i) (Does (closed_at n s) p.rows) (Refuses fault.NotAtEnd)) (cond (stands_left s merged due n i) (Does (closed_at n s) s.store.map) (Refuses fault.NotAtEnd))

  -- another store leaves what is done
  store_stays : (s next : Scheduling Args Row) (out : Unit {0}) (d : Deed (Store Row) (Unit {0})) → by_store s d ≡ Does next out → StaysDone s next
  store_stays s next out (Refuses f) e = absurd (refuses_not e)
  store_stays s next out (Does store given) e = subst (StaysDone s) (sym (does_is e).0) (λ q done. done)

  mark_stays : (points : Bool) (n : ℕ) (s next : Scheduling Args Row) (out : Unit {0}) → mark points n s ≡ Does next out → StaysDone s next
  mark_stays points n s next out e = go (none_done_from s n && nat_le s.opened_from.epoch n) e
    where
      go : (b : Bool) → cond b (by_store s (mark_at points (end_of n) s.store)) (Refuses fault.PointTooLate) ≡ Does next out → StaysDone s next
      go true e = store_stays s next out (mark_at points (end_of n) s.store) e
      go false e = absurd (refuses_not e)

module _ {Args Row Reply : Type 0} where
  -- the deed, with the node after it settled
  abbrev pub settled_deed : NodeDeed Args Row Reply → NodeDeed Args Row Reply
  settled_deed (Refuses f) = Refuses f
  settled_deed (Does next sent) = Does (settled next) sent

module _ {Args Row : Type 0} (Reply : Type 0) (c : Config) (x : NodeState Args Row) where
  -- what is made of the settled node is, settled, what is made of the node
  abbrev Same : (NodeState Args Row → NodeDeed Args Row Reply) → Type 0
  Same act = settled_deed (act (settled x)) ≡ settled_deed (act x)

  -- ---- the parts of a node

  unchanged : (sent : List (Packet Args Row Reply)) → Same (λ x. Does x sent)
  unchanged sent = λ i. Does (record x { due = left_twice x.scheduler x.due i }) sent

  by_sequencer_same : {Out : Type 0} (packets : List (Packet Args Row Reply)) (d : Deed (sequencing.Sequencing Args) Out) → Same (λ x. node.by_sequencer x packets d)
  by_sequencer_same packets (Refuses f) = refl
  by_sequencer_same packets (Does s out) = λ i. Does (record x { sequencer = s; due = left_twice x.scheduler x.due i }) packets

  counted_same : (s : synod.Replica (Batch Args)) (given : Option (Slot × Batch Args)) (sent : List (Packet Args Row Reply)) → Same (λ x. Does (counted (with_synod x s) given) sent)
  counted_same s None sent = λ i. Does (record x { synod = s; due = left_twice x.scheduler x.due i }) sent
  counted_same s (Some g) sent = λ i. Does (record (counted (with_synod x s) (Some g)) { due = left_twice x.scheduler x.due i }) sent

  by_synod_same : (d : synod.Deed (Batch Args)) → Same (λ x. by_synod c x d)
  by_synod_same (synod.Refuses f) = refl
  by_synod_same (synod.Does s letters given) = counted_same s given _

  by_scheduler_same : (d : Deed (Scheduling Args Row) (Unit {0})) → ((next : Scheduling Args Row) (out : Unit {0}) → d ≡ Does next out → StaysDone x.scheduler next) → Same (λ x. by_scheduler x d)
  by_scheduler_same (Refuses f) stays = refl
  by_scheduler_same (Does s out) stays = λ i. Does (record x { scheduler = s; due = left_later x.scheduler s (stays s out refl) x.due i }) []

  -- ---- messages

  vote_same : (from : ℕ) (message : Message (Batch Args)) (o : Option (Batch Args)) → Same (λ x. on_vote c from message x o)
  vote_same from message None = by_synod_same (synod.handle c.replicas from message x.synod)
  vote_same from message (Some batch) = refl

  synod_same : (from : ℕ) (message : Message (Batch Args)) → Same (on_synod c from message)
  synod_same from (Prepare slot ballot) = by_synod_same (synod.handle c.replicas from (Prepare slot ballot) x.synod)
  synod_same from (Promise slot ballot vote) = by_synod_same (synod.handle c.replicas from (Promise slot ballot vote) x.synod)
  synod_same from (Accept slot ballot batch) = by_synod_same (synod.handle c.replicas from (Accept slot ballot batch) x.synod)
  synod_same from (Refused slot ballot promise) = by_synod_same (synod.handle c.replicas from (Refused slot ballot promise) x.synod)
  synod_same from (Accepted slot ballot batch) = vote_same from (Accepted slot ballot batch) (get x.held slot)

  decided_same : (slot : Slot) (batch : Batch Args) (o : Option (Batch Args)) → Same (λ x. on_decided slot batch x o)
  decided_same slot batch None = counted_same x.synod (Some (slot, batch)) []
  decided_same slot batch (Some held) = refl

  ask_batch_same : (from : NodeId) (slot : Slot) (o : Option (Batch Args)) → Same (λ x. on_ask_batch from slot x o)
  ask_batch_same from slot None = refl
  ask_batch_same from slot (Some batch) = unchanged _

  serve_same : (from : NodeId) (q : Place) (r : Result (Rows Row) Fault) → Same (λ x. serve_again from q x r)
  serve_same from q (Err f) = refl
  serve_same from q (Ok rows) = unchanged _

  ask_reads_same : (from : NodeId) (q : Place) (o : Option (Turn Args Row)) → Same (λ x. on_ask_reads c from q x o)
  ask_reads_same from q None = refl
  ask_reads_same from q (Some turn) = go (reads_here (site_of c.partitions x) turn.request)
    where
      go : (b : Bool) → Same (λ x. cond b (serve_again from q x (sched.served_at (Some turn))) (Refuses fault.NotServed))
      go true = serve_same from q (sched.served_at (Some turn))
      go false = refl

  content_same : (from : NodeId) (content : Content Args Row Reply) → Same (handle_content c from content)
  content_same from (Synod message) = go ((synod.slot_of message).group == x.id.partition)
    where
      go : (b : Bool) → Same (λ x. cond b (on_synod c from.replica message x) (Refuses fault.NotMine))
      go true = synod_same from.replica message
      go false = refl
  content_same from (Decided slot batch) = decided_same slot batch (get x.held slot)
  content_same from (AskBatch slot) = ask_batch_same from slot (get x.held slot)
  content_same from (Reads q rows) =
      by_scheduler_same (sched.on_reads (site_of c.partitions x) q from.partition rows x.scheduler) (received_done (site_of c.partitions x) x.scheduler q from.partition rows)
  content_same from (AskReads q) = ask_reads_same from q (turn_at x.scheduler q)
  content_same from (Warm sets) = λ i. Does (record x { scheduler = warm (sets.reads ++ sets.writes) x.scheduler; due = left_twice x.scheduler x.due i }) []
  content_same from (Replies q id attempt answer) = refl

  -- a packet
  pub handled_same : (p : Packet Args Row Reply) → Same (handle c p)
  handled_same p = go (is_for p.to x.id)
    where
      go : (b : Bool) → Same (λ x. cond b (handle_content c p.from p.content x) (Refuses fault.NotMine))
      go true = content_same p.from p.content
      go false = refl

  -- ---- acts

  propose_same : (e : ℕ) → Same (node.propose c e)
  propose_same e = by_round (synod.has_round x.synod)
    where
      by_held : (batch : Batch Args) (b : Bool) → Same (λ x. cond b (Refuses fault.Decided) (by_synod c x (synod.propose x.id.replica (own_slot x e) batch x.synod)))
      by_held batch true = refl
      by_held batch false = by_synod_same (synod.propose x.id.replica (own_slot x e) batch x.synod)

      by_closed : (o : Option (Batch Args)) → Same (λ x. node.propose_closed c e x o)
      by_closed None = refl
      by_closed (Some batch) = by_held batch (contains_key x.held (own_slot x e))

      by_round : (b : Bool) → Same (λ x. cond b (node.propose_closed c e x (sequencing.closed_in x.sequencer.closed e)) (Refuses fault.RoundsSpent))
      by_round true = by_closed (sequencing.closed_in x.sequencer.closed e)
      by_round false = refl

  -- what is left of more places
  left_more : (more : List Place) → left x.scheduler (left x.scheduler x.due ++ more) ≡ left x.scheduler (x.due ++ more)
  left_more more =
      filter-append (λ q. not (is_done x.scheduler q)) (left x.scheduler x.due) more
      ∙ ap (λ due. due ++ left x.scheduler more) (left_twice x.scheduler x.due)
      ∙ sym (filter-append (λ q. not (is_done x.scheduler q)) x.due more)

  merge_same : Same (node.merge c)
  merge_same = go (node.is_complete c x)
    where
      go : (b : Bool) → Same (λ x. cond b (Does (record x {
        merged_epochs = suc x.merged_epochs;
        due = x.due ++ local_places (site_of c.partitions x) (node.next_merged c x);
        pending = x.pending ++ node.next_merged c x;
      }) []) (Refuses fault.NotComplete))
      go true = λ i. Does (record x {
        merged_epochs = suc x.merged_epochs;
        due = left_more (local_places (site_of c.partitions x) (node.next_merged c x)) i;
        pending = x.pending ++ node.next_merged c x;
      }) []
      go false = refl

  lock_same : NonePast x.scheduler → Same (node.lock c)
  lock_same none = by_pending x.pending
    where
      by_deed : (rest : Order Args) (d : Deed (Scheduling Args Row) (Unit {0})) → ((next : Scheduling Args Row) (out : Unit {0}) → d ≡ Does next out → StaysDone x.scheduler next) → Same (λ x. node.lock_by x rest d)
      by_deed rest (Refuses f) stays = refl
      by_deed rest (Does s out) stays = λ i. Does (record x { scheduler = s; pending = rest; due = left_later x.scheduler s (stays s out refl) x.due i }) []

      by_pending : (pending : Order Args) → Same (λ x. node.lock_first c x pending)
      by_pending [] = refl
      by_pending (e ∷ rest) = by_deed rest (sched.admit (site_of c.partitions x) e.0 e.1 x.scheduler) (admit_stays (site_of c.partitions x) e.0 e.1 x.scheduler none)

  begin_same : (q : Place) → Same (node.begin c q)
  begin_same q = go (sched.begin (site_of c.partitions x) q x.scheduler) (begun_done (site_of c.partitions x) x.scheduler q)
    where
      go : (d : Deed (Scheduling Args Row) (sched.Serving Args Row)) → ((next : Scheduling Args Row) (out : sched.Serving Args Row) → d ≡ Does next out → StaysDone x.scheduler next) → Same (λ x. node.begin_by c x q d)
      go (Refuses f) stays = refl
      go (Does s out) stays = λ i. Does (record x { scheduler = s; due = left_later x.scheduler s (stays s out refl) x.due i }) (node.served_to c x q out)

  finish_same : (m : Meaning Args Row Reply) (q : Place) → Same (node.finish m c q)
  finish_same m q = go (sched.finish m (site_of c.partitions x) q x.scheduler) (finished_done m (site_of c.partitions x) x.scheduler q)
    where
      go : (d : Deed (Scheduling Args Row) (Txn Args × Answer Reply)) → ((next : Scheduling Args Row) (out : Txn Args × Answer Reply) → d ≡ Does next out → StaysDone x.scheduler next) → Same (λ x. node.finish_by x q d)
      go (Refuses f) stays = refl
      go (Does s out) stays = λ i. Does (record x { scheduler = s; due = left_later x.scheduler s (stays s out refl) x.due i }) (record { from = x.id; to = AtClient out.0.id.client; content = Replies q out.0.id out.0.attempt out.1 } ∷ [])

  snapshot_same : (e : ℕ) → Same (node.snapshot e)
  snapshot_same e = ap (λ d. settled_deed (node.snapshot_by e (settled x) d)) (take_same x.scheduler x.merged_epochs x.due (suc e) x.scheduler.store.point) ∙ by_point x.scheduler.store.point
    where
      newer : (rows : Rows Row) (b : Bool) → Same (λ x. cond b (Does (record x { scheduler = closed_at (suc e) x.scheduler; kept_epochs = suc e; kept_rows = rows }) []) (Refuses fault.Older))
      newer rows true = λ i. Does (record x { scheduler = closed_at (suc e) x.scheduler; kept_epochs = suc e; kept_rows = rows; due = left_twice x.scheduler x.due i }) []
      newer rows false = refl

      taken : (rows : Rows Row) (b : Bool) → Same (λ y. node.snapshot_by e y (cond b (Does (closed_at (suc e) x.scheduler) rows) (Refuses fault.NotAtEnd)))
      taken rows true = newer rows (nat_le x.kept_epochs e)
      taken rows false = refl

      by_place : (p : Point Row) (b : Bool) → Same (λ y. node.snapshot_by e y (cond b (cond (all_done x.scheduler x.merged_epochs x.due (suc e)) (Does (closed_at (suc e) x.scheduler) p.rows) (Refuses fault.NotAtEnd)) (take_map x.merged_epochs x.due (suc e) x.scheduler)))
      by_place p true = taken p.rows (all_done x.scheduler x.merged_epochs x.due (suc e))
      by_place p false = taken x.scheduler.store.map (stands x.scheduler x.merged_epochs x.due (suc e))

      by_point : (o : Option (Point Row)) → Same (λ y. node.snapshot_by e y (take_from x.merged_epochs x.due (suc e) x.scheduler o))
      by_point None = taken x.scheduler.store.map (stands x.scheduler x.merged_epochs x.due (suc e))
      by_point (Some p) = by_place p (eq_by_cmp place_cmp p.at (end_of (suc e)))

  ask_for_reads_same : (q : Place) (r : ℕ) → Same (node.ask_reads c q r)
  ask_for_reads_same q r = by_range (nat_lt r c.replicas)
    where
      by_list : (ps : List ℕ) → Same (λ x. node.ask_each x q r ps)
      by_list [] = refl
      by_list (p ∷ ps) = unchanged _

      by_turn : (o : Option (Turn Args Row)) → Same (λ x. node.ask_each x q r (node.awaited_from c x o))
      by_turn None = refl
      by_turn (Some turn) = by_list (node.awaited_from c x (Some turn))

      by_range : (b : Bool) → Same (λ x. cond b (node.ask_each x q r (node.awaited_from c x (turn_at x.scheduler q))) (Refuses fault.NoNode))
      by_range true = by_turn (turn_at x.scheduler q)
      by_range false = refl

  ask_for_batch_same : (slot : Slot) (of : NodeId) → Same (node.ask_batch c slot of)
  ask_for_batch_same slot of = by_range (nat_lt of.replica c.replicas && nat_lt of.partition c.partitions && nat_lt slot.group c.partitions)
    where
      by_held : (sent : List (Packet Args Row Reply)) (b : Bool) → Same (λ x. cond b (Refuses fault.Known) (Does x sent))
      by_held sent true = refl
      by_held sent false = unchanged sent

      by_range : (b : Bool) → Same (λ x. cond b (cond (contains_key x.held slot) (Refuses fault.Known) (Does x (record { from = x.id; to = AtNode of; content = AskBatch slot } ∷ []))) (Refuses fault.NoNode))
      by_range true = by_held _ (contains_key x.held slot)
      by_range false = refl

  restart_same : (d : synod.Deed (Batch Args)) → Same (λ x. node.restart_by x d)
  restart_same (synod.Refuses f) = refl
  restart_same (synod.Does s letters given) = refl

  -- an act
  pub acts_same : (m : Meaning Args Row Reply) → NonePast x.scheduler → (act : Act Args) → Same (deed_of m c act)
  acts_same m none (Submit t) = by_sequencer_same [] (sequencing.submit t x.sequencer)
  acts_same m none (SubmitCold t) = by_sequencer_same _ (sequencing.submit_cold c.delay t x.sequencer)
  acts_same m none (Cool k) = by_scheduler_same _ (λ next out e. store_stays x.scheduler next out (cool_key c.cold k x.scheduler.store) e)
  acts_same m none Close = by_sequencer_same [] (sequencing.close c.delay x.sequencer)
  acts_same m none Merge = merge_same
  acts_same m none Lock = lock_same none
  acts_same m none Restart = restart_same (synod.restart x.synod)
  acts_same m none (Propose e) = propose_same e
  acts_same m none (Snapshot e) = snapshot_same e
  acts_same m none (Mark e) = by_scheduler_same _ (mark_stays c.points (suc e) x.scheduler)
  acts_same m none (Begin q) = begin_same q
  acts_same m none (Finish q) = finish_same m q
  acts_same m none (AskForReads q r) = ask_for_reads_same q r
  acts_same m none (AskForBatch slot of) = ask_for_batch_same slot of
