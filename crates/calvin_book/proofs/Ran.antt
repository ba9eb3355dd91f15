-- What a submission was answered is what its request is answered on the rows just before its place.
--     found_in      the packet that is the first reply
--     answer_is      the answer of the serial run at a place
--     rows_through      the rows before a place, by a beginning of the order before it
--     ran_at      where an answered request stands, and on which rows it ran
use Rattle.std.proofs.Common.{◌≡◌, ℕ, suc, ◌-◌, ◌<◌, ◌⊎◌, inl, inr, Bool, true, false, ◌&&◌, cond, List, [], ◌∷◌, ◌++◌, map, drop, Option, Some, None, refl, sym, ap, subst, ◌∙◌, arith}
use Rattle.std.specs.Prelude.{◌==◌}
use Rattle.std.specs.FinMap.{empty}
use Rattle.std.specs.List.{Contains}
use Rattle.std.proofs.lemmas.Bool.{eqb-true}
use Rattle.calvin_types.specs.declared.place.Place.{Place}
use Rattle.calvin_types.specs.declared.place.RequestId.{RequestId}
use Rattle.calvin_types.specs.declared.txn.Txn.{Txn}
use Rattle.calvin_types.specs.Orders.{Order, StandsAt, Rises}
use Rattle.calvin_types.specs.Places.{IsBefore}
use Rattle.calvin_types.proofs.PlaceOrder.{not_before_itself, not_both}
use Rattle.calvin_app.specs.declared.answer.Answer.{Answer}
use Rattle.calvin_app.specs.Meaning.{Meaning, WritesWithin}
use Rattle.calvin_app.specs.Rows.{Rows}
use Rattle.calvin_app.specs.Serial.{answer_one, after_one, serial, rows_before, answers_by_place}
use Rattle.calvin_bench.proofs.Lists.{none_in, first_or_rest, first_in, rest_too, of_drop}
use Rattle.calvin_bench.proofs.SerialRows.{run_below, none_before}
use Rattle.calvin_order.specs.Configs.{Config, stretch, order}
use Rattle.calvin_order.specs.Merged.{Assignment}
use Rattle.calvin_order.proofs.Epochs.{stretch_stands, order_rises, stretch_on}
use Rattle.calvin_order.proofs.Places.{before_by_epoch}
use Rattle.calvin_node_packets.specs.declared.packet.Content.{Content}
use Rattle.calvin_node_packets.specs.declared.packet.Content.TheVariants.{Synod, Decided, AskBatch, Reads, AskReads, Warm, Replies}
use Rattle.calvin_node_packets.specs.declared.packet.Packet.{Packet}
use Rattle.calvin_world.specs.declared.event.Event.{Event}
use Rattle.calvin_world.specs.Promises.{IsChosenUpTo, rows_after}
use Rattle.calvin_world.specs.Worlds.{WorldState}
use Rattle.calvin_world.proofs.InCode.{reached_serial}
use Rattle.calvin_world.proofs.SettledLaws.{config_in_code}
use Rattle.calvin_book.specs.declared.receipt.Answered.{Answered}
use Rattle.calvin_book.specs.Replies.{reply_in, or_later, first_reply}
use Rattle.calvin_book.specs.Books.{Log, done_each, IsRun}
use Rattle.calvin_book.specs.Receipts.{sent_by, IsAnswered, IsOnly}
use Rattle.calvin_book.specs.Ran.{rows_at, RanAt}
use Rattle.calvin_book.proofs.Runs.{run_is, run_reached}
use Rattle.calvin_book.proofs.Told.{its_own}

-- ---- the packet

some_same : {X : Type 0} (x y : X) → Some x ≡ Some y → x ≡ y
some_same x y e = cc

and_three : (a b c : Bool) → (a && b && c) ≡ true → (a ≡ true) × (b ≡ true) × (c ≡ true)
and_three true true true e = (refl, refl, refl)
and_three true true false e = absurd (cc)
and_three true false true e = absurd (cc)
and_three true false false e = absurd (cc)
and_three false true true e = absurd (cc)
and_three false true false e = absurd (cc)
and_three false false true e = absurd (cc)
and_three false false false e = absurd (cc)

module _ {Args Row Reply : Type 0} (id : RequestId) (attempt : ℕ) where
  is_reply : (content : Content Args Row Reply) (q : Place) (answer : Answer Reply) → reply_in id attempt content ≡ Some (q, answer) → content ≡ Replies q id attempt answer
  is_reply (Synod message) q answer e = absurd (cc)
  is_reply (Decided slot batch) q answer e = absurd (cc)
  is_reply (AskBatch slot) q answer e = absurd (cc)
  is_reply (Reads p rows) q answer e = absurd (cc)
  is_reply (AskReads p) q answer e = absurd (cc)
  is_reply (Warm sets) q answer e = absurd (cc)
  is_reply (Replies p name tried given) q answer e = go (name.client == id.client && name.number == id.number && tried == attempt) refl e
    where
      go : (b : Bool) → (name.client == id.client && name.number == id.number && tried == attempt) ≡ b → cond {A = Option (Place × Answer Reply)} b (Some (p, given)) None ≡ Some (q, answer)
          → ◌≡◌ {A = Content Args Row Reply} (Replies p name tried given) (Replies q id attempt answer)
      go true names e =
          let all = and_three (name.client == id.client) (name.number == id.number) (tried == attempt) names in
          let same : ◌≡◌ {A = Place × Answer Reply} (p, given) (q, answer) = some_same (p, given) (q, answer) e in
          λ i. Replies (same i).0 (record { client = eqb-true name.client id.client all.0 i; number = eqb-true name.number id.number all.1 i }) (eqb-true tried attempt all.2 i) (same i).1
      go false names e = absurd (cc)

  pub found_in : (ps : List (Packet Args Row Reply)) (q : Place) (answer : Answer Reply) → first_reply id attempt ps ≡ Some (q, answer) → (p : Packet Args Row Reply) × Contains ps p × (p.content ≡ Replies q id attempt answer)
  found_in [] q answer e = absurd (cc)
  found_in (p ∷ ps) q answer e = go (reply_in id attempt p.content) refl e (found_in ps q answer)
    where
      go : (o : Option (Place × Answer Reply)) → reply_in id attempt p.content ≡ o → or_later o (first_reply id attempt ps) ≡ Some (q, answer)
          → (first_reply id attempt ps ≡ Some (q, answer) → (r : Packet Args Row Reply) × Contains ps r × (r.content ≡ Replies q id attempt answer))
          → (r : Packet Args Row Reply) × Contains (p ∷ ps) r × (r.content ≡ Replies q id attempt answer)
      go (Some r) is e rest = (p, first_in p ps, is_reply p.content q answer (is ∙ e))
      go None is e rest = let found = rest e in (found.0, rest_too p ps found.0 found.1, found.2)

-- ---- the serial run

module _ {Args Row Reply : Type 0} (m : Meaning Args Row Reply) where
  placed : (es : Order Args) (rows : Rows Row) (q : Place) (answer : Answer Reply) → Contains (answers_by_place m es rows) (q, answer) → (t : Txn Args) × StandsAt es q t
  placed [] rows q answer c = absurd (none_in (q, answer) c)
  placed (e ∷ es) rows q answer c = elim (first_or_rest (e.0, answer_one m e.1 rows) (answers_by_place m es (after_one m e.1 rows)) (q, answer) c) [
    | inl is ↦ (e.1, inl (ap (λ (x : Place × Answer Reply). x.0) is, refl))
    | inr rest ↦ let more = placed es (after_one m e.1 rows) q answer rest in (more.0, inr more.1)
  ]

  pub answer_is : (es : Order Args) → Rises es → (rows : Rows Row) (q : Place) (t : Txn Args) (answer : Answer Reply) → StandsAt es q t → Contains (answers_by_place m es rows) (q, answer) → answer ≡ answer_one m t (rows_before m es rows q)
  answer_is [] rises rows q t answer at c = absurd at
  answer_is (e ∷ es) rises rows q t answer at c = go (first_or_rest (e.0, answer_one m e.1 rows) (answers_by_place m es (after_one m e.1 rows)) (q, answer) c) at (answer_is es rises.1 (after_one m e.1 rows) q t answer)
    where
      none : e.0 ≡ q → (n : Place) (u : Txn Args) → StandsAt (e ∷ es) n u → IsBefore n q → ⊥
      none here n u (inl is) h = not_before_itself q (subst (λ x. IsBefore x q) (sym is.0 ∙ here) h)
      none here n u (inr st) h = not_both n q h (subst (λ x. IsBefore x n) here (rises.0 n u st))

      go : ◌≡◌ {A = Place × Answer Reply} (e.0, answer_one m e.1 rows) (q, answer) ⊎ Contains (answers_by_place m es (after_one m e.1 rows)) (q, answer) → StandsAt (e ∷ es) q t
          → (StandsAt es q t → Contains (answers_by_place m es (after_one m e.1 rows)) (q, answer) → answer ≡ answer_one m t (rows_before m es (after_one m e.1 rows) q))
          → answer ≡ answer_one m t (rows_before m (e ∷ es) rows q)
      go (inl is) (inl at) rest =
          ap (λ (x : Place × Answer Reply). x.1) (sym is) ∙ ap (λ u. answer_one m u rows) at.1
          ∙ ap (answer_one m t) (sym (none_before m (e ∷ es) rows q (none at.0)))
      go (inl is) (inr at) rest = absurd (not_before_itself q (subst (λ x. IsBefore x q) (ap (λ (x : Place × Answer Reply). x.0) is) (rises.0 q t at)))
      go (inr c) (inl at) rest = let other = placed es (after_one m e.1 rows) q answer c in absurd (not_before_itself q (subst (λ x. IsBefore x q) at.0 (rises.0 q other.0 other.1)))
      go (inr c) (inr at) rest = rest at c ∙ ap (answer_one m t) (sym (run_below m e es rows q (rises.0 q t at)))

  pub rows_through : (xs ys : Order Args) (rows : Rows Row) (q : Place) → ((n : Place) (t : Txn Args) → StandsAt xs n t → IsBefore n q) → rows_before m (xs ++ ys) rows q ≡ rows_before m ys (serial m (map (λ e. e.1) xs) rows).0 q
  rows_through [] ys rows q all = refl
  rows_through (e ∷ xs) ys rows q all = run_below m e (xs ++ ys) rows q (all e.0 e.1 (inl (refl, refl))) ∙ rows_through xs ys (after_one m e.1 rows) q (λ n t at. all n t (inr at))

  -- the rows before a place of a later epoch are those after the earlier epochs, changed by the others
  later_rows : (c : Config) (B : Assignment Args) (q : Place) (told : ℕ) → told < q.epoch → rows_at m c B q ≡ rows_before m (stretch c B (suc told) (q.epoch - told)) (rows_after m c B (suc told)) q
  later_rows c B q told less =
      ap (λ es. rows_before m es empty q) (stretch_on c B 0 (suc told) (q.epoch - told) (suc q.epoch) (suc told) (omega (arith, less)) (omega arith))
      ∙ rows_through (order c B (suc told)) (stretch c B (suc told) (q.epoch - told)) empty q
      (λ n t at. before_by_epoch n q (let h = (stretch_stands c B 0 (suc told) n t at).1 in omega (arith, h, less)))

-- ---- the answer of a submission

module _ {Args Row Reply : Type 0} (m : Meaning Args Row Reply) (law : WritesWithin m) (events : List (Event Args)) where
  abbrev LogOf : Config → Log Args
  LogOf k = record { config = k; events = events }

  abbrev Ran : Config → WorldState Args Row Reply → Type 0
  Ran k w = IsRun m k events w → (a : Answered Args Reply) (is : IsAnswered m (LogOf k) a) → IsOnly (LogOf k) a.submission → (B : Assignment Args) → IsChosenUpTo w B (suc is.place.epoch) → RanAt m k B a is.place

  -- what stands at the reply's place, with its id and attempt, is its request
  ran_by : (w : WorldState Args Row Reply) → IsRun m w.config events w → (a : Answered Args Reply) (is : IsAnswered m (LogOf w.config) a) → IsOnly (LogOf w.config) a.submission → (B : Assignment Args) → IsChosenUpTo w B (suc is.place.epoch)
      → Contains (answers_by_place m (order w.config B (suc is.place.epoch)) empty) (is.place, a.answer)
      → (t : Txn Args) → StandsAt (order w.config B (suc is.place.epoch)) is.place t → a.submission.txn.id ≡ t.id → a.submission.txn.attempt ≡ t.attempt → RanAt m w.config B a is.place
  ran_by w run a is only B chosen answers t stood same_id same_attempt =
      let s = a.submission in
      let q = is.place in
      let own = its_own m law events w.config w run s is.submitted only B (suc q.epoch) chosen q t stood (sym same_id) (sym same_attempt) in
      let stands : StandsAt (order w.config B (suc q.epoch)) q s.txn = subst (λ u. StandsAt (order w.config B (suc q.epoch)) q u) own.0 stood in
      record {
        stands = stands;
        answer = answer_is m (order w.config B (suc q.epoch)) (order_rises w.config B (suc q.epoch)) empty q s.txn a.answer stands answers;
        told = λ told told_is. let less = own.1 told told_is in (less, later_rows m w.config B q told less);
      }

  ran_here : (w : WorldState Args Row Reply) → Ran w.config w
  ran_here w run a is only B chosen =
      let txn = a.submission.txn in
      let n = sent_by m (LogOf w.config) a.submission.number in
      let packets_are = ap (λ (v : WorldState Args Row Reply). v.packets) (run_is m w.config events w run) in
      let found = found_in txn.id txn.attempt (drop n w.packets) is.place a.answer (ap (λ ps. first_reply txn.id txn.attempt (drop n ps)) packets_are ∙ is.reply) in
      let replied = (reached_serial m law w (run_reached m events w run)).replies found.0 (of_drop n w.packets found.0 found.1) is.place txn.id txn.attempt a.answer found.2 B chosen in
      ran_by w run a is only B chosen replied.0 replied.1 replied.2 replied.3 replied.4

  pub ran_at : (c : Config) (w : WorldState Args Row Reply) → Ran c w
  ran_at c w run = subst (λ (k : Config). Ran k w) (config_in_code m law c events (done_each events) w run) (ran_here w) run
