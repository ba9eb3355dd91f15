-- One node with an open point: a snapshot of the marked epoch, with and without later requests, and what a point refuses.
use Rattle.std.proofs.Common.{◌≡◌, ℕ, Bool, true, cond, ◌&&◌, List, [], ◌∷◌, ◌++◌, inl, Option, Some, refl, sym, ap, subst, ◌∙◌}
use Rattle.std.specs.Prelude.{not, is_some, nat_le}
use Rattle.std.specs.FinMap.{get, empty, get-empty}
use Rattle.std.proofs.lemmas.Option.{none-some}
use Rattle.calvin_types.specs.declared.fault.Fault.TheVariants as fault
use Rattle.calvin_types.specs.declared.key.Key.{Key}
use Rattle.calvin_types.specs.Deeds.{Refuses, Does}
use Rattle.calvin_types.specs.Keys.{key_cmp}
use Rattle.calvin_types.specs.Places.{place_cmp}
use Rattle.calvin_types.proofs.ExactMaps.{insert_here}
use Rattle.calvin_types.proofs.PlaceOrder.{place_total, place_exact}
use Rattle.calvin_app.specs.Kv.{kv}
use Rattle.calvin_app.specs.declared.kv.KvRequest.{KvRequest}
use Rattle.calvin_app.specs.declared.kv.KvReply.{KvReply}
use Rattle.calvin_app.specs.Rows.{overwritten}
use Rattle.calvin_app.specs.Serial.{writes_on}
use Rattle.calvin_app.specs.Stores.{Store, loaded, marked, cooled}
use Rattle.calvin_order.specs.Merged.{end_of}
use Rattle.calvin_sched.specs.declared.phase.Phase.TheVariants as phase
use Rattle.calvin_sched.specs.Scheduling.{with_store, new_turn, turn_at, turn_done, is_before, is_done, local_writes}
use Rattle.calvin_sched.specs.Standing.{by_store, closed_at, none_done_from}
use Rattle.calvin_sched.specs.Steps as sched
use Rattle.calvin_sched.proofs.Readiness.{none_kept}
use Rattle.calvin_node_acts.specs.NodeStates.{restarted}
use Rattle.calvin_node_acts.specs.Handling.{by_scheduler}
use Rattle.calvin_node_acts.specs.Acting as node
use Rattle.calvin_node_acts.specs.declared.act.Act.TheVariants.{Mark, Snapshot, Restart}
use Rattle.calvin_world.specs.declared.event.Event.TheVariants.{At}
use Rattle.calvin_world.specs.WorkedCases.{alone, own_id, first_place, put_key, put, done_times, ordering, running, marked_run, marked_done, RanMarked, over_a_point, point_refusals}
use Rattle.calvin_world.specs.Worlds.{WorldState, Leads, opening}
use Rattle.calvin_world.proofs.Alone.{first_node, one, opening_is, joined, done_at, refused_at}
use Rattle.calvin_world.proofs.OneSlot.{Node, Sent, KvDeed}
use Rattle.calvin_world.proofs.OneRequest.{here, locked, begun, beginning, finished, reply, begins, finishes}
use Rattle.calvin_world.proofs.OneRun.{x_8, sent_4, of_one, to_batch, from_opening, writes}

abbrev world : Node → List Sent → WorldState KvRequest ℕ KvReply
world x packets = one true true x packets

abbrev marked_store : Store ℕ
marked_store = marked (end_of 1) (loaded empty)

-- ---- a point that is opened before the request is locked

abbrev m_8 : Node
m_8 = record (x_8 true true) { scheduler = with_store (x_8 true true).scheduler marked_store }

abbrev admitting : Node
admitting = record m_8 { pending = []; scheduler = record m_8.scheduler { last = Some first_place } }

abbrev m_9 : Node
m_9 = locked true true admitting empty first_place 1 5

abbrev m_10 : Node
m_10 = beginning true true admitting empty first_place 1 5

abbrev m_11 : Node
m_11 = finished true true admitting empty first_place 1 5

abbrev put_writes : List (Key × ℕ)
put_writes = local_writes here (writes_on kv put empty)

abbrev m_12 : Node
m_12 = record m_11 { scheduler = closed_at 1 m_11.scheduler; kept_epochs = 1; kept_rows = overwritten empty put_writes }

abbrev m_13 : Node
m_13 = restarted m_12 (record { acceptor = m_12.synod.acceptor; proposer = record { used = 1; seen = 0; attempts = empty }; learner = record { counted = empty; given = empty } })

abbrev sent_m : List Sent
sent_m = sent_4 true true ++ reply true true admitting empty first_place 1 5 ∷ []

none_at_first : none_done_from (x_8 true true).scheduler 1 ≡ true
none_at_first = none_kept (x_8 true true).scheduler.turns (λ q. nat_le 1 q.epoch && is_done (x_8 true true).scheduler q) (λ q y h. absurd (none-some y (sym (get-empty place_cmp q) ∙ h)))

marking : ◌≡◌ {A = KvDeed} (node.mark_end alone 0 (x_8 true true)) (Does m_8 [])
marking = ap (λ (b : Bool). by_scheduler {Reply = KvReply} (x_8 true true) (cond (b && true) (Does (with_store (x_8 true true).scheduler marked_store) tt) (Refuses fault.PointTooLate))) none_at_first

ready : sched.is_ready here m_9.scheduler first_place put ≡ true
ready = of_one (λ n. is_before n first_place && sched.blocks here (turn_at m_9.scheduler n) put) first_place (new_turn put) refl

ended_is : get m_11.scheduler.turns first_place ≡ Some (record (begun true true admitting empty first_place 1 5) { phase = phase.Done })
ended_is = insert_here place_cmp place_total place_exact m_10.scheduler.turns first_place (record (begun true true admitting empty first_place 1 5) { phase = phase.Done })

taking : ◌≡◌ {A = KvDeed} (node.snapshot 0 m_11) (Does m_12 [])
taking = λ i. node.snapshot_by {Reply = KvReply} 0 m_11 (cond (turn_done (ended_is i) && true) (Does (closed_at 1 m_11.scheduler) (overwritten empty put_writes)) (Refuses fault.NotAtEnd))

marked_leads : Leads kv (world first_node []) marked_run marked_done (world m_13 sent_m)
marked_leads = joined kv (world first_node []) (ordering put 0 0) (done_times 8) (world (x_8 true true) (sent_4 true true)) (to_batch true true)
    ((At own_id (Mark 0) ∷ []) ++ running first_place ++ (At own_id (Snapshot 0) ∷ At own_id Restart ∷ [])) (done_times 6) (world m_13 sent_m) (
      world m_8 (sent_4 true true),
      inl (done_at true true (x_8 true true) m_8 (sent_4 true true) [] (node.mark_end alone 0 (x_8 true true)) marking),
      (
        world m_9 (sent_4 true true),
        inl (done_at true true m_8 m_9 (sent_4 true true) [] (node.lock alone m_8) refl),
        (
          world m_10 (sent_4 true true),
          inl (done_at true true m_9 m_10 (sent_4 true true) [] (node.begin alone first_place m_9) (begins true true admitting empty first_place 1 5 ready)),
          (
            world m_11 sent_m,
            inl (done_at true true m_10 m_11 (sent_4 true true) (reply true true admitting empty first_place 1 5 ∷ []) (node.finish kv alone first_place m_10) (finishes true true admitting empty first_place 1 5)),
            (
              world m_12 sent_m,
              inl (done_at true true m_11 m_12 sent_m [] (node.snapshot 0 m_11) taking),
              (world m_13 sent_m, inl (done_at true true m_12 m_13 sent_m [] (node.restart m_12) refl), refl),
            ),
          ),
        ),
      ),
    )

pub marked_runs : (w : WorldState KvRequest ℕ KvReply) × Leads kv (opening alone) marked_run marked_done w × RanMarked w
marked_runs = (world m_13 sent_m, from_opening true true marked_run marked_done (world m_13 sent_m) marked_leads, record { node = m_13; there = refl; epochs = refl; rows = writes; store = refl })

-- ---- what an open point refuses

abbrev v_0 : Node
v_0 = first_node

abbrev v_1 : Node
v_1 = record v_0 { scheduler = with_store v_0.scheduler marked_store }

none_from : (n : ℕ) → none_done_from v_1.scheduler n ≡ true
none_from n = none_kept v_1.scheduler.turns (λ q. nat_le n q.epoch && is_done v_1.scheduler q) (λ q y h. absurd (none-some y (sym (get-empty place_cmp q) ∙ h)))

opens : ◌≡◌ {A = KvDeed} (node.mark_end alone 0 v_0) (Does v_1 [])
opens = ap (λ (b : Bool). by_scheduler {Reply = KvReply} v_0 (cond (b && true) (Does (with_store v_0.scheduler marked_store) tt) (Refuses fault.PointTooLate))) none_at_first

opens_no_second : ◌≡◌ {A = KvDeed} (node.mark_end alone 1 v_1) (Refuses fault.PointOpen)
opens_no_second = ap (λ (b : Bool). by_scheduler {Reply = KvReply} v_1 (cond (b && true) (Refuses fault.PointOpen) (Refuses fault.PointTooLate))) (none_from 2)

no_row : ◌≡◌ {A = KvDeed} (node.cool_row alone put_key v_0) (Refuses fault.NoRow)
no_row = ap (λ (o : Option ℕ). by_scheduler {Reply = KvReply} v_0 (by_store v_0.scheduler (cond (is_some o && not (is_some (get v_0.scheduler.store.cold put_key))) (Does (cooled put_key v_0.scheduler.store) tt) (Refuses fault.NoRow)))) (get-empty key_cmp put_key)

point_leads : Leads kv (world v_0 []) over_a_point point_refusals (world v_0 [])
point_leads = (
  world v_1 [],
  inl (done_at true true v_0 v_1 [] [] (node.mark_end alone 0 v_0) opens),
  (
    world v_1 [],
    inl (refused_at true true v_1 [] fault.PointOpen (node.mark_end alone 1 v_1) opens_no_second),
    (
      world v_1 [],
      inl (refused_at true true v_1 [] fault.PointOpen (node.cool_row alone put_key v_1) refl),
      (world v_0 [], inl (done_at true true v_1 v_0 [] [] (node.restart v_1) refl), (world v_0 [], inl (refused_at true true v_0 [] fault.NoRow (node.cool_row alone put_key v_0) no_row), refl)),
    ),
  ),
)

pub points_refuse : Leads kv (opening alone) over_a_point point_refusals (opening alone)
points_refuse = subst (λ (w : WorldState KvRequest ℕ KvReply). Leads kv w over_a_point point_refusals w) (opening_is true true) point_leads
