-- One node after its first request: a reply that nobody delivers, a snapshot and a restart, and a keeper without points and without a cold table.
use Rattle.std.proofs.Common.{◌≡◌, ℕ, suc, Bool, true, false, cond, ◌&&◌, [], ◌∷◌, inl, Option, Some, None, refl, sym, ap, ◌∙◌}
use Rattle.std.specs.Prelude.{not, is_some, nat_le}
use Rattle.std.specs.FinMap.{get, empty, get-empty, get-retain_keys, retain_keys}
use Rattle.std.proofs.lemmas.Option.{none-some}
use Rattle.calvin_types.specs.declared.fault.Fault.TheVariants as fault
use Rattle.calvin_types.specs.declared.key.Key.{Key}
use Rattle.calvin_types.specs.Deeds.{Refuses, Does}
use Rattle.calvin_types.specs.Keys.{key_cmp, has}
use Rattle.calvin_types.specs.Participants.{site}
use Rattle.calvin_types.specs.KeyOrder.{key_cmp_exact, key_cmp_total}
use Rattle.calvin_types.specs.Places.{place_cmp}
use Rattle.calvin_types.proofs.ExactMaps.{insert_here}
use Rattle.calvin_app.specs.Kv.{kv}
use Rattle.calvin_app.specs.declared.kv.KvRequest.{KvRequest}
use Rattle.calvin_app.specs.declared.kv.KvReply.{KvReply}
use Rattle.calvin_app.specs.Rows.{Rows}
use Rattle.calvin_app.specs.Writing.{keys_of}
use Rattle.calvin_sched.specs.Scheduling.{Turn, is_done}
use Rattle.calvin_sched.specs.Standing.{by_store, closed_at, none_done_from, stands, greatest_below}
use Rattle.calvin_sched.specs.Steps as sched
use Rattle.calvin_sched.proofs.Readiness.{none_kept}
use Rattle.calvin_node_acts.specs.declared.act.Act.TheVariants.{Cool, Mark, Snapshot, Restart, Begin}
use Rattle.calvin_node_acts.specs.NodeStates.{restarted}
use Rattle.calvin_node_acts.specs.Handling.{by_scheduler}
use Rattle.calvin_node_acts.specs.Acting as node
use Rattle.calvin_world.specs.declared.event.Event.TheVariants.{At, Deliver}
use Rattle.calvin_world.specs.declared.event.Outcome.TheVariants.{Done, Refused}
use Rattle.calvin_world.specs.WorkedCases.{alone_with, alone, own_id, first_place, put_key, one_run, one_done, reply_delivered, reply_refused, kept_run, kept_done, RanKept, plain_run, plain_done}
use Rattle.calvin_world.specs.Worlds.{WorldState, Leads, opening}
use Rattle.calvin_world.proofs.Alone.{first_node, one, joined, done_at, refused_at}
use Rattle.calvin_world.proofs.OneSlot.{Node, KvDeed}
use Rattle.calvin_world.proofs.OneRequest.{put_writes}
use Rattle.calvin_world.proofs.OneRun.{x_8, x_11, sent_5, to_reply, from_opening, standing, none_later, writes}

-- ---- a reply

pub reply_stays : (w : WorldState KvRequest ℕ KvReply) × Leads kv (opening alone) reply_delivered reply_refused w
reply_stays = (
  one true true (x_11 true true) (sent_5 true true),
  from_opening true true reply_delivered reply_refused (one true true (x_11 true true) (sent_5 true true))
      (joined kv (one true true first_node []) one_run one_done (one true true (x_11 true true) (sent_5 true true)) (to_reply true true)
      (Deliver 4 ∷ []) (Refused fault.NotMine ∷ []) (one true true (x_11 true true) (sent_5 true true)) (one true true (x_11 true true) (sent_5 true true), inl refl, refl)),
)

-- ---- a snapshot and a restart

abbrev x : Node
x = x_11 true true

abbrev kept : Node
kept = record x { scheduler = closed_at 1 x.scheduler; kept_epochs = 1; kept_rows = x.scheduler.store.map }

abbrev back : Node
back = restarted kept (record { acceptor = kept.synod.acceptor; proposer = record { used = 1; seen = 0; attempts = empty }; learner = record { counted = empty; given = empty } })

takes : ◌≡◌ {A = KvDeed} (node.snapshot 0 x) (Does kept [])
takes = ap (λ (b : Bool). node.snapshot_by {Reply = KvReply} 0 x (cond b (Does (closed_at 1 x.scheduler) x.scheduler.store.map) (Refuses fault.NotAtEnd))) (standing true true)

takes_once : ◌≡◌ {A = KvDeed} (node.snapshot 0 kept) (Refuses fault.Older)
takes_once = ap (λ (b : Bool). node.snapshot_by {Reply = KvReply} 0 kept (cond b (Does (closed_at 1 kept.scheduler) kept.scheduler.store.map) (Refuses fault.NotAtEnd))) (standing true true)

not_again : ◌≡◌ {A = KvDeed} (node.begin alone first_place back) (Refuses fault.NotReady)
not_again = ap (λ (o : Option (Turn KvRequest ℕ)). node.begin_by {Reply = KvReply} alone back first_place (sched.begin_at (site 1 0) first_place back.scheduler o)) (get-empty place_cmp first_place)

none_done : none_done_from back.scheduler 1 ≡ true
none_done = none_kept back.scheduler.turns (λ q. nat_le 1 q.epoch && is_done back.scheduler q) (λ q y h. absurd (none-some y (sym (get-empty place_cmp q) ∙ h)))

abbrev world : Node → WorldState KvRequest ℕ KvReply
world y = one true true y (sent_5 true true)

kept_leads : Leads kv (one true true first_node []) kept_run kept_done (world back)
kept_leads = joined kv (one true true first_node []) one_run one_done (world x) (to_reply true true)
    (At own_id (Snapshot 0) ∷ At own_id (Snapshot 0) ∷ At own_id Restart ∷ At own_id (Begin first_place) ∷ []) (Done ∷ Refused fault.Older ∷ Done ∷ Refused fault.NotReady ∷ []) (world back) (
      world kept,
      inl (done_at true true x kept (sent_5 true true) [] (node.snapshot 0 x) takes),
      (
        world kept,
        inl (refused_at true true kept (sent_5 true true) fault.Older (node.snapshot 0 kept) takes_once),
        (world back, inl (done_at true true kept back (sent_5 true true) [] (node.restart kept) refl), (world back, inl (refused_at true true back (sent_5 true true) fault.NotReady (node.begin alone first_place back) not_again), refl)),
      ),
    )

pub kept_runs : (w : WorldState KvRequest ℕ KvReply) × Leads kv (opening alone) kept_run kept_done w × RanKept w
kept_runs = (
  world back,
  from_opening true true kept_run kept_done (world back) kept_leads,
  record {
    node = back;
    there = refl;
    stands = ap (λ b. cond b (Some 0) (greatest_below (λ e. stands back.scheduler 1 [] (suc e)) 0)) none_done;
    rows = writes;
    same_order = refl;
    other_order = refl;
  },
)

-- ---- a keeper without points and without a cold table

abbrev p : Node
p = x_11 false false

no_points : ◌≡◌ {A = KvDeed} (node.mark_end (alone_with false false) 0 p) (Refuses fault.NoPoints)
no_points = ap (λ (b : Bool). by_scheduler {Reply = KvReply} p (cond (b && true) (Refuses fault.NoPoints) (Refuses fault.PointTooLate))) (none_later false false)

row_there : get p.scheduler.store.map put_key ≡ Some 5
row_there = ap (λ (rows : Rows ℕ). get rows put_key) writes ∙ insert_here key_cmp key_cmp_total key_cmp_exact empty put_key 5

none_either : {X : Type 0} (b : Bool) → ◌≡◌ {A = Option X} (cond b None None) None
none_either true = refl
none_either false = refl

not_cold : get p.scheduler.store.cold put_key ≡ None
not_cold = nothing_in (λ k. not (has (keys_of (put_writes false false (x_8 false false) empty first_place 1 5)) k))
  where
    nothing_in : (stays : Key → Bool) → get (retain_keys (empty {X = Unit {0}} {R = key_cmp}) stays) put_key ≡ None
    nothing_in stays = get-retain_keys empty stays put_key (λ k e. ap stays (sym (key_cmp_exact put_key k e))) ∙ ap (λ o. cond (stays put_key) o None) (get-empty key_cmp put_key) ∙ none_either (stays put_key)

no_table : ◌≡◌ {A = KvDeed} (node.cool_row (alone_with false false) put_key p) (Refuses fault.NoColdTable)
no_table = λ i. by_scheduler {Reply = KvReply} p (by_store p.scheduler (cond (is_some (row_there i) && not (is_some (not_cold i))) (Refuses fault.NoColdTable) (Refuses fault.NoRow)))

pub plain_runs : (w : WorldState KvRequest ℕ KvReply) × Leads kv (opening (alone_with false false)) plain_run plain_done w
plain_runs = (
  one false false p (sent_5 false false),
  from_opening false false plain_run plain_done (one false false p (sent_5 false false))
      (joined kv (one false false first_node []) one_run one_done (one false false p (sent_5 false false)) (to_reply false false)
      (At own_id (Mark 0) ∷ At own_id (Cool put_key) ∷ []) (Refused fault.NoPoints ∷ Refused fault.NoColdTable ∷ []) (one false false p (sent_5 false false)) (
        one false false p (sent_5 false false),
        inl (refused_at false false p (sent_5 false false) fault.NoPoints (node.mark_end (alone_with false false) 0 p) no_points),
        (one false false p (sent_5 false false), inl (refused_at false false p (sent_5 false false) fault.NoColdTable (node.cool_row (alone_with false false) put_key p) no_table), refl),
      )),
)
