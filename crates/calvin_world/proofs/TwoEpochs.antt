-- One node with a request in each of two epochs: a snapshot of the first one, with a point at its end and without.
use Rattle.std.proofs.Common.{◌≡◌, ◌≢◌, ℕ, Bool, true, false, cond, ◌&&◌, List, [], ◌∷◌, ◌++◌, inl, Some, refl, sym, ap, arith, ◌∙◌}
use Rattle.std.specs.Prelude.{nat_le}
use Rattle.std.specs.FinMap.{get, insert, empty, get-empty}
use Rattle.std.proofs.lemmas.Bool.{false≢true}
use Rattle.std.proofs.lemmas.Option.{none-some}
use Rattle.calvin_types.specs.declared.fault.Fault.TheVariants as fault
use Rattle.calvin_types.specs.declared.place.Place.{Place}
use Rattle.calvin_types.specs.declared.place.Slot.{Slot}
use Rattle.calvin_types.specs.Deeds.{Refuses, Does}
use Rattle.calvin_types.specs.Keys.{key_cmp}
use Rattle.calvin_types.specs.KeyOrder.{key_cmp_exact, key_cmp_total}
use Rattle.calvin_types.specs.Places.{place_cmp, slot_cmp}
use Rattle.calvin_types.proofs.ExactMaps.{insert_here, insert_other, remove_other}
use Rattle.calvin_types.proofs.PlaceOrder.{place_total, place_exact}
use Rattle.calvin_types.proofs.SlotMaps.{get_here, get_other}
use Rattle.calvin_app.specs.Kv.{kv}
use Rattle.calvin_app.specs.declared.kv.KvRequest.{KvRequest}
use Rattle.calvin_app.specs.declared.kv.KvReply.{KvReply}
use Rattle.calvin_app.specs.Rows.{Rows, overwritten}
use Rattle.calvin_app.specs.Serial.{writes_on}
use Rattle.calvin_app.specs.Stores.{Store, marked}
use Rattle.calvin_synod.specs.declared.tallies.Proposal.{Proposal}
use Rattle.calvin_synod.specs.Roles.{proposal_cmp}
use Rattle.calvin_synod.proofs.Proposals.{proposal_total, proposal_exact}
use Rattle.calvin_order.specs.Merged.{Batch, end_of}
use Rattle.calvin_sched.specs.declared.phase.Phase.TheVariants as phase
use Rattle.calvin_sched.specs.Scheduling.{Turn, with_store, new_turn, turn_at, turn_done, is_before, is_done, local_writes}
use Rattle.calvin_store.specs.Points.{mark_at}
use Rattle.calvin_sched.specs.Standing.{closed_at, none_done_from, by_store}
use Rattle.calvin_sched.specs.Steps as sched
use Rattle.calvin_sched.proofs.Readiness.{none_kept, none_passes}
use Rattle.calvin_node_acts.specs.Handling.{by_scheduler}
use Rattle.calvin_node_acts.specs.Acting as node
use Rattle.calvin_node_acts.specs.declared.act.Act.TheVariants.{Submit, Close, Merge, Mark, Snapshot}
use Rattle.calvin_world.specs.declared.event.Event.TheVariants.{At}
use Rattle.calvin_world.specs.declared.event.Outcome.TheVariants.{Refused}
use Rattle.calvin_world.specs.WorkedCases.{alone, own_id, first_place, second_place, put_key, put, putting, deciding, done_times, ordering, running, marked_in_time, marked_in_time_done, RanInTime, unmarked, unmarked_done}
use Rattle.calvin_world.specs.Worlds.{WorldState, Leads, opening}
use Rattle.calvin_bench.proofs.Insertions.{insert_each}
use Rattle.calvin_world.proofs.Alone.{first_node, one, joined, done_at, refused_at, merges}
use Rattle.calvin_world.proofs.OneSlot.{Node, Sent, KvDeed, slot_of, agreed, IsFree, with_all, decides}
use Rattle.calvin_world.proofs.OneRequest.{Turns, here, locked, begun, beginning, done_turns, finished, reply, begins, finishes}
use Rattle.calvin_world.proofs.OneRun.{batch, x_8, turns_11, sent_4, to_batch, from_opening, ready, ended_is, none_later, writes}

abbrev world : Node → List Sent → WorldState KvRequest ℕ KvReply
world x packets = one true true x packets

abbrev batch_2 : Batch KvRequest
batch_2 = putting 2 6 ∷ []

-- ---- the second batch

abbrev y_1 : Node
y_1 = record (x_8 true true) { sequencer = record { opening = 0; queue = batch_2; closed = (0, batch) ∷ []; decided = 0 ∷ []; held_back = [] } }

abbrev y_2 : Node
y_2 = record (x_8 true true) { sequencer = record { opening = 0; queue = []; closed = (0, batch) ∷ (1, batch_2) ∷ []; decided = 0 ∷ []; held_back = [] } }

abbrev y_7 : Node
y_7 = agreed true true y_2 1 batch_2

abbrev y_8 : Node
y_8 = record y_7 { merged_epochs = 2; due = first_place ∷ second_place ∷ []; pending = (first_place, put) ∷ (second_place, putting 2 6) ∷ [] }

abbrev sent_8 : List Sent
sent_8 = with_all true true y_2 1 batch_2 (sent_4 true true) 4

other_slot : slot_of 1 ≢ slot_of 0
other_slot e = let one : ◌≡◌ {A = ℕ} 1 0 = ap (λ (s : Slot). s.epoch) e in absurd (omega (arith, one))

abbrev proposal : ℕ → ℕ → Proposal
proposal e round = record { slot = slot_of e; ballot = record { round = round; replica = 0 } }

other_proposal : proposal 1 2 ≢ proposal 0 1
other_proposal e = let one : ◌≡◌ {A = ℕ} 1 0 = ap (λ (p : Proposal). p.slot.epoch) e in absurd (omega (arith, one))

free : IsFree true true y_2 1 batch_2
free = record {
  round = refl;
  closed = refl;
  unheld = get_other empty (slot_of 0) batch (slot_of 1) other_slot ∙ get-empty slot_cmp (slot_of 1);
  unrecorded = get_other _ (slot_of 0) _ (slot_of 1) other_slot ∙ get_other empty (slot_of 0) _ (slot_of 1) other_slot ∙ get-empty slot_cmp (slot_of 1);
  ungiven = get_other empty (slot_of 0) _ (slot_of 1) other_slot ∙ get-empty slot_cmp (slot_of 1);
  uncounted = remove_other proposal_cmp proposal_total proposal_exact empty (proposal 0 1) (proposal 1 2) other_proposal ∙ get-empty proposal_cmp (proposal 1 2);
  alike = refl;
  not_less = refl;
}

second_batch : Leads kv (world (x_8 true true) (sent_4 true true)) (ordering (putting 2 6) 1 4) (done_times 8) (world y_8 sent_8)
second_batch = joined kv (world (x_8 true true) (sent_4 true true)) (At own_id (Submit (putting 2 6)) ∷ At own_id Close ∷ []) (done_times 2) (world y_2 (sent_4 true true)) (
  world y_1 (sent_4 true true),
  inl (done_at true true (x_8 true true) y_1 (sent_4 true true) [] (node.submit (putting 2 6) (x_8 true true)) refl),
  (world y_2 (sent_4 true true), inl (done_at true true y_1 y_2 (sent_4 true true) [] (node.close alone y_1) refl), refl),
)
    (deciding 1 4 ++ At own_id Merge ∷ []) (done_times 6) (world y_8 sent_8)
    (joined kv (world y_2 (sent_4 true true)) (deciding 1 4) (done_times 5) (world y_7 sent_8) (decides true true y_2 1 batch_2 (sent_4 true true) 4 free refl refl refl refl)
    (At own_id Merge ∷ []) (done_times 1) (world y_8 sent_8) (world y_8 sent_8, inl (done_at true true y_7 y_8 sent_8 [] (node.merge alone y_7) (merges true true y_7 1 batch_2 (get_here _ (slot_of 1) batch_2))), refl))

-- ---- the first request is run

abbrev admitting : Node
admitting = record y_8 { pending = (second_place, putting 2 6) ∷ []; scheduler = record y_8.scheduler { last = Some first_place } }

abbrev y_9 : Node
y_9 = locked true true admitting empty first_place 1 5

abbrev y_10 : Node
y_10 = beginning true true admitting empty first_place 1 5

abbrev y_11 : Node
y_11 = finished true true admitting empty first_place 1 5

abbrev reply_1 : Sent
reply_1 = reply true true admitting empty first_place 1 5

abbrev sent_9 : List Sent
sent_9 = sent_8 ++ reply_1 ∷ []

first_runs : Leads kv (world y_8 sent_8) (running first_place) (done_times 3) (world y_11 sent_9)
first_runs = (
  world y_9 sent_8,
  inl (done_at true true y_8 y_9 sent_8 [] (node.lock alone y_8) refl),
  (
    world y_10 sent_8,
    inl (done_at true true y_9 y_10 sent_8 [] (node.begin alone first_place y_9) (begins true true admitting empty first_place 1 5 (ready true true))),
    (world y_11 sent_9, inl (done_at true true y_10 y_11 sent_8 (reply_1 ∷ []) (node.finish kv alone first_place y_10) (finishes true true admitting empty first_place 1 5)), refl),
  ),
)

to_first : Leads kv (world first_node []) (ordering put 0 0 ++ ordering (putting 2 6) 1 4 ++ running first_place) (done_times 19) (world y_11 sent_9)
to_first = joined kv (world first_node []) (ordering put 0 0) (done_times 8) (world (x_8 true true) (sent_4 true true)) (to_batch true true) (ordering (putting 2 6) 1 4 ++ running first_place) (done_times 11) (world y_11 sent_9)
    (joined kv (world (x_8 true true) (sent_4 true true)) (ordering (putting 2 6) 1 4) (done_times 8) (world y_8 sent_8) second_batch (running first_place) (done_times 3) (world y_11 sent_9) first_runs)

-- ---- the second one, over a store with or without a point

module _ (store : Store ℕ) where
  abbrev mid : Node
  mid = record y_11 { scheduler = with_store y_11.scheduler store }

  abbrev last_one : Node
  last_one = record mid { pending = []; scheduler = record mid.scheduler { last = Some second_place } }

  abbrev z_9 : Node
  z_9 = locked true true last_one (turns_11 true true) second_place 2 6

  abbrev z_10 : Node
  z_10 = beginning true true last_one (turns_11 true true) second_place 2 6

  abbrev z_11 : Node
  z_11 = finished true true last_one (turns_11 true true) second_place 2 6

  abbrev turns_12 : Turns
  turns_12 = done_turns true true last_one (turns_11 true true) second_place 2 6

  abbrev begun_2 : Turn KvRequest ℕ
  begun_2 = begun true true last_one (turns_11 true true) second_place 2 6

  abbrev reply_2 : Sent
  reply_2 = reply true true last_one (turns_11 true true) second_place 2 6

  abbrev sent_10 : List Sent
  sent_10 = sent_9 ++ reply_2 ∷ []

  other_place : first_place ≢ second_place
  other_place e = let none : ◌≡◌ {A = ℕ} 0 1 = ap (λ (q : Place). q.epoch) e in absurd (omega (arith, none))

  -- the first request is done, so the second one is ready
  first_done : get z_9.scheduler.turns first_place ≡ Some (record (begun true true admitting empty first_place 1 5) { phase = phase.Done })
  first_done = insert_other place_cmp place_total place_exact (turns_11 true true) second_place (new_turn (putting 2 6)) first_place other_place ∙ ended_is true true

  is_ready : sched.is_ready here z_9.scheduler second_place (putting 2 6) ≡ true
  is_ready = none_kept z_9.scheduler.turns blocked
      (insert_each place_total place_exact P (turns_11 true true) second_place (new_turn (putting 2 6)) refl
      (insert_each place_total place_exact P _ first_place (record (begun true true admitting empty first_place 1 5) { phase = phase.Done }) first_free
      (insert_each place_total place_exact P _ first_place (begun true true admitting empty first_place 1 5) first_free
      (insert_each place_total place_exact P empty first_place (new_turn put) first_free (λ q y h. absurd (none-some y (sym (get-empty place_cmp q) ∙ h)))))))
    where
      blocked : Place → Bool
      blocked n = is_before n second_place && sched.blocks here (turn_at z_9.scheduler n) (putting 2 6)

      P : Place → Turn KvRequest ℕ → Type 0
      P q y = blocked q ≡ false

      first_free : blocked first_place ≡ false
      first_free = ap (λ o. sched.blocks here o (putting 2 6)) first_done

  second_runs : Leads kv (world mid sent_9) (running second_place) (done_times 3) (world z_11 sent_10)
  second_runs = (
    world z_9 sent_9,
    inl (done_at true true mid z_9 sent_9 [] (node.lock alone mid) refl),
    (
      world z_10 sent_9,
      inl (done_at true true z_9 z_10 sent_9 [] (node.begin alone second_place z_9) (begins true true last_one (turns_11 true true) second_place 2 6 is_ready)),
      (world z_11 sent_10, inl (done_at true true z_10 z_11 sent_9 (reply_2 ∷ []) (node.finish kv alone second_place z_10) (finishes true true last_one (turns_11 true true) second_place 2 6)), refl),
    ),
  )

  first_is : get turns_12 first_place ≡ Some (record (begun true true admitting empty first_place 1 5) { phase = phase.Done })
  first_is =
      insert_other place_cmp place_total place_exact z_10.scheduler.turns second_place (record begun_2 { phase = phase.Done }) first_place other_place
      ∙ insert_other place_cmp place_total place_exact z_9.scheduler.turns second_place begun_2 first_place other_place
      ∙ first_done

  second_is : get turns_12 second_place ≡ Some (record begun_2 { phase = phase.Done })
  second_is = insert_here place_cmp place_total place_exact z_10.scheduler.turns second_place (record begun_2 { phase = phase.Done })

  some_later : none_done_from z_11.scheduler 1 ≡ false
  some_later = go (none_done_from z_11.scheduler 1) refl
    where
      go : (b : Bool) → none_done_from z_11.scheduler 1 ≡ b → none_done_from z_11.scheduler 1 ≡ false
      go false e = e
      go true e = absurd (false≢true (sym (none_passes z_11.scheduler.turns (λ q. nat_le 1 q.epoch && is_done z_11.scheduler q) e second_place (record begun_2 { phase = phase.Done }) second_is) ∙ ap turn_done second_is))

-- ---- without a point

abbrev u_11 : Node
u_11 = z_11 y_11.scheduler.store

abbrev sent_u : List Sent
sent_u = sent_10 y_11.scheduler.store

not_at_end : ◌≡◌ {A = KvDeed} (node.snapshot 0 u_11) (Refuses fault.NotAtEnd)
not_at_end = λ i. node.snapshot_by {Reply = KvReply} 0 u_11 (cond ((turn_done (first_is y_11.scheduler.store i) && true) && some_later y_11.scheduler.store i) (Does (closed_at 1 u_11.scheduler) u_11.scheduler.store.map) (Refuses fault.NotAtEnd))

too_late : ◌≡◌ {A = KvDeed} (node.mark_end alone 0 u_11) (Refuses fault.PointTooLate)
too_late = ap (λ (b : Bool). by_scheduler {Reply = KvReply} u_11 (cond (b && true) (by_store u_11.scheduler (mark_at true (end_of 1) u_11.scheduler.store)) (Refuses fault.PointTooLate))) (some_later y_11.scheduler.store)

unmarked_leads : Leads kv (world first_node []) unmarked unmarked_done (world u_11 sent_u)
unmarked_leads = joined kv (world first_node []) (ordering put 0 0 ++ ordering (putting 2 6) 1 4 ++ running first_place) (done_times 19) (world y_11 sent_9) to_first
    (running second_place ++ At own_id (Snapshot 0) ∷ At own_id (Mark 0) ∷ []) (done_times 3 ++ Refused fault.NotAtEnd ∷ Refused fault.PointTooLate ∷ []) (world u_11 sent_u)
    (joined kv (world y_11 sent_9) (running second_place) (done_times 3) (world u_11 sent_u) (second_runs y_11.scheduler.store)
    (At own_id (Snapshot 0) ∷ At own_id (Mark 0) ∷ []) (Refused fault.NotAtEnd ∷ Refused fault.PointTooLate ∷ []) (world u_11 sent_u)
    (world u_11 sent_u, inl (refused_at true true u_11 sent_u fault.NotAtEnd (node.snapshot 0 u_11) not_at_end), (world u_11 sent_u, inl (refused_at true true u_11 sent_u fault.PointTooLate (node.mark_end alone 0 u_11) too_late), refl)))

pub unmarked_runs : (w : WorldState KvRequest ℕ KvReply) × Leads kv (opening alone) unmarked unmarked_done w
unmarked_runs = (world u_11 sent_u, from_opening true true unmarked unmarked_done (world u_11 sent_u) unmarked_leads)

-- ---- with a point

abbrev with_point : Store ℕ
with_point = marked (end_of 1) y_11.scheduler.store

abbrev marked_node : Node
marked_node = mid with_point

abbrev v_11 : Node
v_11 = z_11 with_point

abbrev sent_v : List Sent
sent_v = sent_10 with_point

abbrev v_12 : Node
v_12 = record v_11 { scheduler = closed_at 1 v_11.scheduler; kept_epochs = 1; kept_rows = y_11.scheduler.store.map }

marking : ◌≡◌ {A = KvDeed} (node.mark_end alone 0 y_11) (Does marked_node [])
marking = ap (λ (b : Bool). by_scheduler {Reply = KvReply} y_11 (cond (b && true) (Does (with_store y_11.scheduler with_point) tt) (Refuses fault.PointTooLate))) (none_later true true)

taking : ◌≡◌ {A = KvDeed} (node.snapshot 0 v_11) (Does v_12 [])
taking = λ i. node.snapshot_by {Reply = KvReply} 0 v_11 (cond (turn_done (first_is with_point i) && true) (Does (closed_at 1 v_11.scheduler) y_11.scheduler.store.map) (Refuses fault.NotAtEnd))

in_time_leads : Leads kv (world first_node []) marked_in_time marked_in_time_done (world v_12 sent_v)
in_time_leads = joined kv (world first_node []) (ordering put 0 0 ++ ordering (putting 2 6) 1 4 ++ running first_place) (done_times 19) (world y_11 sent_9) to_first
    (At own_id (Mark 0) ∷ running second_place ++ At own_id (Snapshot 0) ∷ []) (done_times 5) (world v_12 sent_v) (
      world marked_node sent_9,
      inl (done_at true true y_11 marked_node sent_9 [] (node.mark_end alone 0 y_11) marking),
      joined kv (world marked_node sent_9) (running second_place) (done_times 3) (world v_11 sent_v) (second_runs with_point) (At own_id (Snapshot 0) ∷ []) (done_times 1) (world v_12 sent_v)
          (world v_12 sent_v, inl (done_at true true v_11 v_12 sent_v [] (node.snapshot 0 v_11) taking), refl),
    )

both_written : overwritten (overwritten (empty {X = ℕ} {R = key_cmp}) (local_writes here (writes_on kv put empty))) (local_writes here (writes_on kv (putting 2 6) empty)) ≡ insert (insert empty put_key 5) put_key 6
unfolding writes_on
both_written = refl

pub in_time_runs : (w : WorldState KvRequest ℕ KvReply) × Leads kv (opening alone) marked_in_time marked_in_time_done w × RanInTime w
in_time_runs = (
  world v_12 sent_v,
  from_opening true true marked_in_time marked_in_time_done (world v_12 sent_v) in_time_leads,
  record {
    node = v_12;
    there = refl;
    epochs = refl;
    kept = writes;
    now = ap (λ (rows : Rows ℕ). get rows put_key) both_written ∙ insert_here key_cmp key_cmp_total key_cmp_exact (insert empty put_key 5) put_key 6;
  },
)
