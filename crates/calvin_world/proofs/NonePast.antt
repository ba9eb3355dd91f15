-- Nothing is admitted past the last place, in no node and after no event. So a place that is admitted wasn't done.
use Rattle.std.proofs.Common.{◌≡◌, Bool, true, false, cond, not, ◌&&◌, List, [], ◌∷◌, Option, Some, None, refl, sym, ap, subst, ◌∙◌}
use Rattle.std.proofs.lemmas.Bool.{false≢true, and_parts}
use Rattle.std.proofs.lemmas.Option.{none-some}
use Rattle.std.specs.Ordering.{is_lt}
use Rattle.std.specs.FinMap.{get, insert, get-empty}
use Rattle.calvin_types.specs.declared.fault.Fault.TheVariants as fault
use Rattle.calvin_types.specs.declared.place.NodeId.{NodeId}
use Rattle.calvin_types.specs.declared.place.Place.{Place}
use Rattle.calvin_types.specs.declared.place.Slot.{Slot}
use Rattle.calvin_types.specs.declared.txn.Txn.{Txn}
use Rattle.calvin_types.specs.Deeds.{Deed, Refuses, Does}
use Rattle.calvin_types.specs.Orders.{Order}
use Rattle.calvin_types.specs.Participants.{Site, has_local_key}
use Rattle.calvin_types.specs.Places.{place_cmp}
use Rattle.calvin_types.proofs.PlaceOrder.{place_total, place_exact, not_before_itself}
use Rattle.calvin_app.specs.Meaning.{Meaning}
use Rattle.calvin_order.specs.Configs.{Config}
use Rattle.calvin_order.specs.Merged.{Batch}
use Rattle.calvin_sched.specs.Scheduling.{Turn, Scheduling, is_before, is_past, turn_at, turn_done, new_turn, with_turn}
use Rattle.calvin_sched.specs.Steps.{admitted, admit, begun_turn, with_rows}
use Rattle.calvin_sched.specs.declared.phase.Phase.TheVariants.{Done}
use Rattle.calvin_sched.proofs.Keepers.{less_of}
use Rattle.calvin_node_acts.specs.NodeStates.{NodeState, site_of, with_synod}
use Rattle.calvin_node_acts.specs.Handling.{handle, counted}
use Rattle.calvin_node_packets.specs.declared.packet.Packet.{Packet}
use Rattle.calvin_node_packets.specs.declared.packet.Content.{Content}
use Rattle.calvin_node_packets.specs.declared.packet.Content.TheVariants.{Synod, Decided, AskBatch, Reads, AskReads, Warm, Replies}
use Rattle.calvin_node_acts.specs.declared.act.Act.{Act}
use Rattle.calvin_node_acts.specs.declared.act.Act.TheVariants.{Submit, SubmitCold, Cool, Close, Merge, Lock, Restart, Propose, Snapshot, Mark, Begin, Finish, AskForReads, AskForBatch}
use Rattle.calvin_node_acts.specs.Acting.{deed_of, lock, lock_by, lock_first}
use Rattle.calvin_bench.proofs.Insertions.{insert_each}
use Rattle.calvin_bench.proofs.Deeds.{refuses_not, does_is, admit_does}
use Rattle.calvin_bench.proofs.ReachedReplicas.{StaysDone, admitted_done}
use Rattle.calvin_world.proofs.Cases.{Handles, Acts, handle_does, acts_does}

-- a later place comes after each one that isn't past the last
later_last : (last : Option Place) (q n : Place) → is_past last q ≡ true → is_past last n ≡ false → is_before q n ≡ false
later_last last q n past not_past = go last past not_past (is_before q n) refl
  where
    go : (o : Option Place) → is_past o q ≡ true → is_past o n ≡ false → (b : Bool) → is_before q n ≡ b → b ≡ false
    go None p u b e = absurd (false≢true (sym u))
    go (Some a) p u false e = refl
    go (Some a) p u true e = absurd (false≢true (sym u ∙ ap is_lt (place_total.trans a q n (less_of (place_cmp a q) p) (less_of (place_cmp q n) e))))

not_past_itself : (q : Place) → is_before q q ≡ false
not_past_itself q = go (is_before q q) refl
  where
    go : (b : Bool) → is_before q q ≡ b → b ≡ false
    go true e = absurd (not_before_itself q (less_of (place_cmp q q) e))
    go false e = refl

module _ {Args Row : Type 0} where
  -- nothing is admitted past the last place
  abbrev pub NonePast : Scheduling Args Row → Type 0
  NonePast s = (q : Place) (turn : Turn Args Row) → turn_at s q ≡ Some turn → is_past s.last q ≡ false

  -- another turn at a place that has one
  turned : (s : Scheduling Args Row) → NonePast s → (q : Place) (old new : Turn Args Row) → turn_at s q ≡ Some old → (n : Place) (turn : Turn Args Row) → get (insert s.turns q new) n ≡ Some turn → is_past s.last n ≡ false
  turned s none q old new there = insert_each place_total place_exact (λ n turn. is_past s.last n ≡ false) s.turns q new (none q old there) none

  -- ---- the next place

  admits_past : (here : Site) (q : Place) (t : Txn Args) (s next : Scheduling Args Row) (out : Unit {0}) → admit here q t s ≡ Does next out → is_past s.last q ≡ true
  admits_past here q t s next out e = go (is_past s.last q && not (is_before q s.opened_from)) refl e
    where
      go : (b : Bool) → (is_past s.last q && not (is_before q s.opened_from)) ≡ b → cond b (Does (admitted here s q t) tt) (Refuses fault.AdmittedOutOfOrder) ≡ Does next out → is_past s.last q ≡ true
      go true is e = (and_parts (is_past s.last q) (not (is_before q s.opened_from)) is).0
      go false is e = absurd (refuses_not e)

  not_done_yet : (s : Scheduling Args Row) → NonePast s → (q : Place) → is_past s.last q ≡ true → turn_done (turn_at s q) ≡ true → ⊥
  not_done_yet s none q past done = go (turn_at s q) refl done
    where
      go : (o : Option (Turn Args Row)) → turn_at s q ≡ o → turn_done o ≡ true → ⊥
      go None is done = false≢true done
      go (Some x) is done = false≢true (sym (none q x is) ∙ past)

  -- what is done stays done where a request is admitted
  pub admit_stays : (here : Site) (q : Place) (t : Txn Args) (s : Scheduling Args Row) → NonePast s → (next : Scheduling Args Row) (out : Unit {0}) → admit here q t s ≡ Does next out → StaysDone s next
  admit_stays here q t s none next out e = subst (StaysDone s) (sym (admit_does here q s t next out e)) (admitted_done here s q t (not_done_yet s none q (admits_past here q t s next out e)))

  admitted_none : (here : Site) (q : Place) (t : Txn Args) (s : Scheduling Args Row) → NonePast s → is_past s.last q ≡ true → NonePast (admitted here s q t)
  admitted_none here q t s none past = go (has_local_key here t)
    where
      before : (n : Place) (turn : Turn Args Row) → turn_at s n ≡ Some turn → is_before q n ≡ false
      before n turn there = later_last s.last q n past (none n turn there)

      go : (b : Bool) → NonePast (record (cond b (with_turn s q (new_turn t)) s) { last = Some q })
      go true = insert_each place_total place_exact (λ n turn. is_before q n ≡ false) s.turns q (new_turn t) (not_past_itself q) before
      go false = before

  admit_none : (here : Site) (q : Place) (t : Txn Args) (s : Scheduling Args Row) → NonePast s → (next : Scheduling Args Row) (out : Unit {0}) → admit here q t s ≡ Does next out → NonePast next
  admit_none here q t s none next out e = subst NonePast (sym (admit_does here q s t next out e)) (admitted_none here q t s none (admits_past here q t s next out e))

  -- ---- each event of a node

  counted_none : (y : NodeState Args Row) (given : Option (Slot × Batch Args)) → NonePast y.scheduler → NonePast (counted y given).scheduler
  counted_none y None none = none
  counted_none y (Some g) none = none

  turned_none : (x : NodeState Args Row) → NonePast x.scheduler → (q : Place) (old new : Turn Args Row) → turn_at x.scheduler q ≡ Some old → (s : Scheduling Args Row) → s.turns ≡ insert x.scheduler.turns q new → s.last ≡ x.scheduler.last → NonePast s
  turned_none x none q old new there s turns last n turn at = ap (λ l. is_past l n) last ∙ turned x.scheduler none q old new there n turn (ap (λ ts. get ts n) (sym turns) ∙ at)

module _ {Args Row Reply : Type 0} (m : Meaning Args Row Reply) (c : Config) (x next : NodeState Args Row) (sent : List (Packet Args Row Reply)) (none : NonePast x.scheduler) where
  -- the node's scheduler is that of this one
  holds_as : (y : NodeState Args Row) → next ≡ y → NonePast y.scheduler → NonePast next.scheduler
  holds_as y is past = subst (λ (y : NodeState Args Row). NonePast y.scheduler) (sym is) past

  handles_none : (from : NodeId) (content : Content Args Row Reply) → Handles m c from content x next sent → NonePast next.scheduler
  handles_none from (Synod message) (group, s, letters, given, does, is, f) = holds_as _ is (counted_none (with_synod x s) given none)
  handles_none from (Decided slot batch) (is, f) = holds_as _ is none
  handles_none from (AskBatch slot) (batch, held, is, f) = holds_as _ is none
  handles_none from (Reads q rows) (s, r, is, f) = holds_as _ is (turned_none x none q r.turn (with_rows from.partition rows r.turn) r.has_turn s (ap (λ z. z.turns) r.now) (ap (λ z. z.last) r.now))
  handles_none from (AskReads q) (j, has, began, is, f) = holds_as _ is none
  handles_none from (Warm sets) (is, f) = holds_as _ is none
  handles_none from (Replies q id attempt answer) h = absurd h

  lock_none : lock c x ≡ Does next sent → NonePast next.scheduler
  lock_none e = by_pending x.pending e
    where
      by_deed : (q : Place) (t : Txn Args) (rest : Order Args) (d : Deed (Scheduling Args Row) (Unit {0})) → admit (site_of c.partitions x) q t x.scheduler ≡ d → lock_by x rest d ≡ Does next sent → NonePast next.scheduler
      by_deed q t rest (Refuses f) is e = absurd (refuses_not e)
      by_deed q t rest (Does s out) is e = holds_as _ (does_is e).0 (admit_none (site_of c.partitions x) q t x.scheduler none s out is)

      by_pending : (pending : Order Args) → lock_first c x pending ≡ Does next sent → NonePast next.scheduler
      by_pending [] e = absurd (refuses_not e)
      by_pending (p ∷ rest) e = by_deed p.0 p.1 rest (admit (site_of c.partitions x) p.0 p.1 x.scheduler) refl e

  acted_none : (act : Act Args) → deed_of m c act x ≡ Does next sent → Acts m c act x next sent → NonePast next.scheduler
  acted_none (Submit t) does (is, f) = holds_as _ is none
  acted_none (SubmitCold t) does (is, f) = holds_as _ is none
  acted_none (Cool k) does (is, f) = holds_as _ is none
  acted_none Close does (is, f) = holds_as _ is none
  acted_none Merge does (full, is, f) = holds_as _ is none
  acted_none Lock does h = lock_none does
  acted_none Restart does (is, f) = holds_as _ is (λ q turn there. absurd (none-some turn (sym (get-empty place_cmp q) ∙ there)))
  acted_none (Propose n) does (batch, closed, s, letters, given, proposes, is, f) = holds_as _ is (counted_none (with_synod x s) given none)
  acted_none (Snapshot n) does (rows, s, takes, is, f) = holds_as _ is (subst NonePast (sym takes.now) none)
  acted_none (Mark n) does (s, marks, is, f) = holds_as _ is (subst NonePast (sym marks.now) none)
  acted_none (Begin q) does (s, j, b, has, began, is, f) = holds_as _ is (turned_none x none q b.turn (begun_turn (site_of c.partitions x) x.scheduler.store.map b.turn) b.has_turn s (ap (λ z. z.turns) b.now) (ap (λ z. z.last) b.now))
  acted_none (Finish q) does (s, a, b, is, f) = holds_as _ is (turned_none x none q b.turn (record b.turn { phase = Done }) b.has_turn s (ap (λ z. z.turns) b.now) (ap (λ z. z.last) b.now))
  acted_none (AskForReads q r) does (ps, is, f) = holds_as _ is none
  acted_none (AskForBatch slot of) does (is, f) = holds_as _ is none

  pub acts_none : (act : Act Args) → deed_of m c act x ≡ Does next sent → NonePast next.scheduler
  acts_none act e = acted_none act e (acts_does c x next sent m act e)

  pub handled_none : (p : Packet Args Row Reply) → handle c p x ≡ Does next sent → NonePast next.scheduler
  handled_none p e = handles_none p.from p.content (handle_does c x next sent m p e)
