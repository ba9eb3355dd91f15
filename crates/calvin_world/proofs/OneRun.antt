-- A request from its submission to its reply, in a world of one node.
use Rattle.std.proofs.Common.{◌≡◌, ℕ, suc, Bool, true, false, cond, ◌&&◌, List, [], ◌∷◌, ◌++◌, inl, Some, refl, sym, ap, ◌∙◌, subst}
use Rattle.std.specs.Prelude.{◌==◌, nat_le}
use Rattle.std.specs.FinMap.{get, insert, empty, get-empty, len, retain_keys}
use Rattle.std.proofs.lemmas.Option.{none-some}
use Rattle.calvin_types.specs.declared.place.Place.{Place}
use Rattle.calvin_types.specs.Deeds.{Does}
use Rattle.calvin_types.specs.Keys.{key_cmp}
use Rattle.calvin_types.specs.Places.{place_cmp, slot_cmp}
use Rattle.calvin_types.proofs.ExactMaps.{insert_here}
use Rattle.calvin_types.proofs.PlaceOrder.{place_total, place_exact}
use Rattle.calvin_types.proofs.SlotMaps.{get_here}
use Rattle.calvin_app.specs.Kv.{kv}
use Rattle.calvin_app.specs.declared.answer.Answer.TheVariants as answer
use Rattle.calvin_app.specs.declared.kv.KvRequest.{KvRequest}
use Rattle.calvin_app.specs.declared.kv.KvReply.{KvReply}
use Rattle.calvin_app.specs.declared.kv.KvReply.TheVariants as kv_reply
use Rattle.calvin_app.specs.Rows.{overwritten}
use Rattle.calvin_app.specs.Serial.{answer_on, writes_on}
use Rattle.calvin_synod.specs.Roles.{proposal_cmp}
use Rattle.calvin_order.specs.Configs.{Config}
use Rattle.calvin_order.specs.Merged.{Batch}
use Rattle.calvin_sched.specs.declared.phase.Phase.TheVariants as phase
use Rattle.calvin_sched.specs.Scheduling.{Turn, new_turn, turn_at, turn_done, is_before, is_done, local_writes}
use Rattle.calvin_sched.specs.Standing.{stands, none_done_from, greatest_below}
use Rattle.calvin_sched.specs.Steps as sched
use Rattle.calvin_sched.proofs.Readiness.{none_kept}
use Rattle.calvin_node_packets.specs.declared.packet.Address.TheVariants.{AtClient}
use Rattle.calvin_node_packets.specs.declared.packet.Content.TheVariants.{Replies}
use Rattle.calvin_node_acts.specs.Acting as node
use Rattle.calvin_node_acts.specs.declared.act.Act.TheVariants.{Submit, Close, Merge}
use Rattle.calvin_world.specs.declared.event.Event.{Event}
use Rattle.calvin_world.specs.declared.event.Event.TheVariants.{At}
use Rattle.calvin_world.specs.declared.event.Outcome.{Outcome}
use Rattle.calvin_world.specs.WorkedCases.{alone_with, alone, own_id, first_place, put_key, put, deciding, done_times, ordering, running, one_run, one_done, RanOne}
use Rattle.calvin_world.specs.Worlds.{WorldState, Leads, opening}
use Rattle.calvin_bench.proofs.Insertions.{insert_each}
use Rattle.calvin_world.proofs.Alone.{first_node, one, opening_is, joined, done_at, merges}
use Rattle.calvin_world.proofs.OneSlot.{Node, Sent, KvDeed, slot_of, agreed, IsFree, with_all, decides}
use Rattle.calvin_world.proofs.OneRequest.{Turns, here, locked, begun, beginning, done_turns, finished, reply, begins, finishes}

abbrev pub batch : Batch KvRequest
batch = put ∷ []

-- of a map with one entry nothing passes that the entry doesn't
pub of_one : (p : Place → Bool) → (q : Place) (x : Turn KvRequest ℕ) → p q ≡ false → (len (retain_keys (insert (empty {R = place_cmp}) q x) p) == 0) ≡ true
of_one p q x none = none_kept (insert empty q x) p (insert_each place_total place_exact (λ n y. p n ≡ false) empty q x none (λ n y h. absurd (none-some y (sym (get-empty place_cmp n) ∙ h))))

abbrev pub x_1 : Node
x_1 = record first_node { sequencer = record { opening = 0; queue = batch; closed = []; decided = []; held_back = [] } }

abbrev pub x_2 : Node
x_2 = record first_node { sequencer = record { opening = 0; queue = []; closed = (0, batch) ∷ []; decided = []; held_back = [] } }

module _ (points cold : Bool) where
  abbrev c : Config
  c = alone_with points cold

  -- its batch is held, and merged
  abbrev pub x_7 : Node
  x_7 = agreed points cold x_2 0 batch

  abbrev pub x_8 : Node
  x_8 = record x_7 { merged_epochs = 1; due = first_place ∷ []; pending = (first_place, put) ∷ [] }

  -- it is locked, begun and finished
  abbrev admitting : Node
  admitting = record x_8 { pending = []; scheduler = record x_8.scheduler { last = Some first_place } }

  abbrev pub x_9 : Node
  x_9 = locked points cold admitting empty first_place 1 5

  abbrev pub x_10 : Node
  x_10 = beginning points cold admitting empty first_place 1 5

  abbrev pub x_11 : Node
  x_11 = finished points cold admitting empty first_place 1 5

  abbrev pub turns_11 : Turns
  turns_11 = done_turns points cold admitting empty first_place 1 5

  abbrev pub sent_4 : List Sent
  sent_4 = with_all points cold x_2 0 batch [] 0

  abbrev pub sent_5 : List Sent
  sent_5 = sent_4 ++ reply points cold admitting empty first_place 1 5 ∷ []

  pub free : IsFree points cold x_2 0 batch
  free = record {
    round = refl;
    closed = refl;
    unheld = get-empty slot_cmp (slot_of 0);
    unrecorded = get-empty slot_cmp (slot_of 0);
    ungiven = get-empty slot_cmp (slot_of 0);
    uncounted = get-empty proposal_cmp (record { slot = slot_of 0; ballot = record { round = 1; replica = 0 } });
    alike = refl;
    not_less = refl;
  }

  pub ready : sched.is_ready here x_9.scheduler first_place put ≡ true
  ready = of_one (λ n. is_before n first_place && sched.blocks here (turn_at x_9.scheduler n) put) first_place (new_turn put) refl

  pub merging : ◌≡◌ {A = KvDeed} (node.merge c x_7) (Does x_8 [])
  merging = merges points cold x_7 0 batch (get_here empty (slot_of 0) batch)

  pub locking : ◌≡◌ {A = KvDeed} (node.lock c x_8) (Does x_9 [])
  locking = refl

  -- up to the batch, and then to the reply
  pub to_batch : Leads kv (one points cold first_node []) (ordering put 0 0) (done_times 8) (one points cold x_8 sent_4)
  to_batch = joined kv (one points cold first_node []) (At own_id (Submit put) ∷ At own_id Close ∷ []) (done_times 2) (one points cold x_2 [])
      (one points cold x_1 [], inl (done_at points cold first_node x_1 [] [] (node.submit put first_node) refl), (one points cold x_2 [], inl (done_at points cold x_1 x_2 [] [] (node.close c x_1) refl), refl))
      (deciding 0 0 ++ At own_id Merge ∷ []) (done_times 6) (one points cold x_8 sent_4)
      (joined kv (one points cold x_2 []) (deciding 0 0) (done_times 5) (one points cold x_7 sent_4) (decides points cold x_2 0 batch [] 0 free refl refl refl refl)
      (At own_id Merge ∷ []) (done_times 1) (one points cold x_8 sent_4) (one points cold x_8 sent_4, inl (done_at points cold x_7 x_8 sent_4 [] (node.merge c x_7) merging), refl))

  pub runs : Leads kv (one points cold x_8 sent_4) (running first_place) (done_times 3) (one points cold x_11 sent_5)
  runs = (
    one points cold x_9 sent_4,
    inl (done_at points cold x_8 x_9 sent_4 [] (node.lock c x_8) locking),
    (
      one points cold x_10 sent_4,
      inl (done_at points cold x_9 x_10 sent_4 [] (node.begin c first_place x_9) (begins points cold admitting empty first_place 1 5 ready)),
      (one points cold x_11 sent_5, inl (done_at points cold x_10 x_11 sent_4 (reply points cold admitting empty first_place 1 5 ∷ []) (node.finish kv c first_place x_10) (finishes points cold admitting empty first_place 1 5)), refl),
    ),
  )

  pub to_reply : Leads kv (one points cold first_node []) one_run one_done (one points cold x_11 sent_5)
  to_reply = joined kv (one points cold first_node []) (ordering put 0 0) (done_times 8) (one points cold x_8 sent_4) to_batch (running first_place) (done_times 3) (one points cold x_11 sent_5) runs

  -- the world from its opening on
  pub from_opening : (events : List (Event KvRequest)) (outcomes : List Outcome) (w : WorldState KvRequest ℕ KvReply) → Leads kv (one points cold first_node []) events outcomes w → Leads kv (opening c) events outcomes w
  from_opening events outcomes w leads = subst (λ (v : WorldState KvRequest ℕ KvReply). Leads kv v events outcomes w) (opening_is points cold) leads

  -- what the node says and holds
  pub ended_is : get turns_11 first_place ≡ Some (record (begun points cold admitting empty first_place 1 5) { phase = phase.Done })
  ended_is = insert_here place_cmp place_total place_exact x_10.scheduler.turns first_place (record (begun points cold admitting empty first_place 1 5) { phase = phase.Done })

  -- nothing of a later epoch is done
  pub none_later : none_done_from x_11.scheduler 1 ≡ true
  none_later = none_kept x_11.scheduler.turns later
      (insert_each place_total place_exact (λ q y. later q ≡ false) x_10.scheduler.turns first_place (record (begun points cold admitting empty first_place 1 5) { phase = phase.Done }) refl
      (insert_each place_total place_exact (λ q y. later q ≡ false) x_9.scheduler.turns first_place (begun points cold admitting empty first_place 1 5) refl
      (insert_each place_total place_exact (λ q y. later q ≡ false) empty first_place (new_turn put) refl (λ q y h. absurd (none-some y (sym (get-empty place_cmp q) ∙ h))))))
    where
      later : Place → Bool
      later q = nat_le 1 q.epoch && is_done x_11.scheduler q

  pub standing : stands x_11.scheduler 1 (first_place ∷ []) 1 ≡ true
  standing = λ i. (true && turn_done (ended_is i) && true) && none_later i

pub answers : answer_on kv put empty ≡ answer.Reply kv_reply.Done
unfolding answer_on
answers = refl

pub writes : overwritten (empty {X = ℕ} {R = key_cmp}) (local_writes here (writes_on kv put empty)) ≡ insert empty put_key 5
unfolding writes_on
writes = refl

pub one_runs : (w : WorldState KvRequest ℕ KvReply) × Leads kv (opening alone) one_run one_done w × RanOne w
one_runs = (
  one true true (x_11 true true) (sent_5 true true),
  from_opening true true one_run one_done (one true true (x_11 true true) (sent_5 true true)) (to_reply true true),
  record {
    node = x_11 true true;
    there = refl;
    stands = ap (λ b. cond b (Some 0) (greatest_below (λ e. stands (x_11 true true).scheduler 1 (first_place ∷ []) (suc e)) 0)) (standing true true);
    rows = writes;
    packets = refl;
    reply = ap (λ a. Some (record { from = own_id; to = AtClient 7; content = Replies first_place put.id 1 a })) answers;
  },
)
