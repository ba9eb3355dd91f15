-- One partition over the order: what every step keeps, and what it gives.
--     Keeps      the invariant. Of the store it says StoreKeeps
--     opened_keeps, admit_keeps, begin_keeps, receive_keeps, finish_keeps      it holds at the start, and each step keeps it
--     finish_answers      what a request answers is the serial run's answer
--     rows_standing      the rows of a node that stands
use Rattle.std.proofs.Common.{◌≡◌, ◌≢◌, ℕ, Bool, true, false, cond, List, ◌∷◌, ◌⊎◌, inl, inr, refl, sym, ap, subst, ◌∙◌, Option, Some, None}
use Rattle.std.specs.Ordering.{nat_cmp}
use Rattle.std.specs.Cmp.{nat_cmp_total}
use Rattle.std.proofs.lemmas.Bool.{eq-eqb, or_left}
use Rattle.std.specs.Option.{unwrap_or}
use Rattle.std.specs.FinMap.{nat_cmp-IsAntisymmetric, empty, get, insert, get-empty}
use Rattle.calvin_app.specs.Meaning.{Meaning, WritesWithin}
use Rattle.calvin_app.specs.Rows.{Rows, view, part}
use Rattle.calvin_app.specs.Serial.{answer_on, writes_on, answer_one, rows_before}
use Rattle.calvin_app.specs.declared.answer.Answer.{Answer}
use Rattle.calvin_bench.specs.Turns.{Writes, Uses, ConflictsHere, HasTurn, IsDone, IsReady, IsCollected, Begins, Receives, Marks, Finishes, Stands, AllBefore, TakesMap, TakesPoint, Takes}
use Rattle.calvin_sched.specs.Scheduling.{local_writes, Turn, Scheduling, with_turn, with_store, new_turn, opened, piece, whole_view}
use Rattle.calvin_sched.specs.Steps.{admitted, begun_turn, with_rows}
use Rattle.calvin_sched.specs.declared.phase.Phase.{Phase}
use Rattle.calvin_sched.specs.declared.phase.Phase.TheVariants.{Waiting, Begun, Done}
use Rattle.calvin_types.specs.Keys.{has, partition_of}
use Rattle.calvin_types.specs.Orders.{Order, StandsAt, Rises, from_place}
use Rattle.calvin_types.specs.Participants.{Site, is_local, local_keys, has_local_key, is_active}
use Rattle.calvin_types.specs.Places.{place_cmp, IsBefore}
use Rattle.calvin_types.specs.declared.key.Key.{Key}
use Rattle.calvin_types.specs.declared.place.Place.{Place}
use Rattle.calvin_types.specs.declared.txn.Txn.{Txn}
use Rattle.calvin_types.proofs.PlaceOrder.{place_total, place_exact, not_before_itself, not_both}
use Rattle.calvin_bench.proofs.Placing.{places, earlier, same_place, later, before_trans}
use Rattle.calvin_bench.proofs.KeyRows.{same_rows}
use Rattle.calvin_bench.proofs.Insertions.{insert_each, insert_cases}
use Rattle.calvin_sched.proofs.Gathering.{local_has, get-gathered}
use Rattle.calvin_bench.proofs.LocalKeys.{has_local, any_local, write_uses, read_uses, conflict_local, is_there}
use Rattle.calvin_bench.proofs.FromPlace.{from_place_stands, stands_from_place, from_place_rises}
use Rattle.calvin_types.proofs.ExactMaps.{insert_here}
use Rattle.calvin_app.proofs.Views.{get-view}
use Rattle.calvin_app.specs.Stores.{Point, Store, put_at, marked, closed_upto}
use Rattle.calvin_bench.proofs.SerialRows.{only_one}
use Rattle.calvin_bench.proofs.Versions.{Every, Upto, Cut, StoreKeeps, version_standing, store_opened, store_same, store_put, store_marked, store_stirred, store_closed}

module _ {Args Row Reply : Type 0} (m : Meaning Args Row Reply) (order : Order Args) (start : Rows Row) (site : Site) where
  abbrev pub history : Place → Rows Row
  history q = rows_before m order start q

  -- what partition p is to serve of the request t at n
  abbrev pub due : ℕ → Place → Txn Args → Rows Row
  due p n t = view (history n) (local_keys (record { partitions = site.partitions; partition = p }) t.sets.reads)

  -- of the writers of k exactly those before q are done
  abbrev pub CutAt : Scheduling Args Row → Key → Place → Type 0
  CutAt s k q = Cut order Every (IsDone s) k q

  pub record Keeps (pending : Order Args) (s : Scheduling Args Row) : Type 0 where
    -- admitted requests stand in the order, those to admit come after them, and each is one or the other
    pub known : (n : Place) (j : Turn Args Row) → HasTurn s n j → StandsAt order n j.request × (IsBefore n s.opened_from → ⊥)
    pub to_come : (n : Place) (t : Txn Args) → StandsAt pending n t → StandsAt order n t × (IsBefore n s.opened_from → ⊥)
    pub rising : Rises pending
    pub ahead : (n : Place) (j : Turn Args Row) → HasTurn s n j → (q : Place) (t : Txn Args) → StandsAt pending q t → IsBefore n q
    pub seen : (n : Place) (t : Txn Args) → StandsAt order n t → (IsBefore n s.opened_from → ⊥) → has_local_key site t ≡ true → StandsAt pending n t ⊎ ((j : Turn Args Row) × HasTurn s n j)
    -- what began has all earlier conflicting requests done
    pub locked : (n : Place) (j : Turn Args Row) → HasTurn s n j → j.phase ≢ Waiting → (p : Place) (t : Txn Args) → StandsAt order p t → IsBefore p n → ConflictsHere site t j.request → IsDone s p
    pub stored : StoreKeeps m order start site (IsDone s) s.store
    pub served : (n : Place) (j : Turn Args Row) → HasTurn s n j → j.phase ≢ Waiting → j.served ≡ due site.partition n j.request
    pub came : (n : Place) (j : Turn Args Row) → HasTurn s n j → (from : ℕ) (rows : Rows Row) → get j.came from ≡ Some rows → rows ≡ due from n j.request
    -- what began and isn't done is run here
    pub runs : (n : Place) (j : Turn Args Row) → HasTurn s n j → j.phase ≡ Begun → is_active site j.request ≡ true

  module _ (law : WritesWithin m) (rises : Rises order) where
    -- the rows at a node's opening
    pub opened_keeps : (q : Place) → Keeps (from_place q order) (opened q (part site.partitions site.partition (history q)))
    opened_keeps q = record {
      known = λ n j has. absurd (nothing j (sym (get-empty place_cmp n) ∙ has));
      to_come = from_place_stands q order;
      rising = from_place_rises q order rises;
      ahead = λ n j has. absurd (nothing j (sym (get-empty place_cmp n) ∙ has));
      seen = λ n t at h l. inl (stands_from_place q order n t at h);
      locked = λ n j has. absurd (nothing j (sym (get-empty place_cmp n) ∙ has));
      stored = store_opened m order start site law rises q (IsDone s) (λ n h. inl h) done_before;
      served = λ n j has. absurd (nothing j (sym (get-empty place_cmp n) ∙ has));
      came = λ n j has. absurd (nothing j (sym (get-empty place_cmp n) ∙ has));
      runs = λ n j has. absurd (nothing j (sym (get-empty place_cmp n) ∙ has));
    }
      where
        nothing : (j : Turn Args Row) → None ≡ Some j → ⊥
        nothing j e = cc

        s : Scheduling Args Row
        s = opened q (part site.partitions site.partition (history q))

        done_before : (n : Place) → IsDone s n → IsBefore n q
        done_before n (inl h) = h
        done_before n (inr (j, has, d)) = absurd (nothing j (sym (get-empty place_cmp n) ∙ has))

    undone : (pending : Order Args) (s : Scheduling Args Row) → Keeps pending s → (n : Place) (j : Turn Args Row) → HasTurn s n j → j.phase ≢ Done → IsDone s n → ⊥
    undone pending s keeps n j has d (inl h) = (keeps.known n j has).1 h
    undone pending s keeps n j has d (inr (x, too, e)) = let is : x ≡ j = cc in d (ap (λ y. y.phase) (sym is) ∙ e)

    -- a request at its turn: what it uses is cut just at its place
    at_turn : (pending : Order Args) (s : Scheduling Args Row) → Keeps pending s → (n : Place) (j : Turn Args Row) → HasTurn s n j → j.phase ≢ Done
        → ((p : Place) (t : Txn Args) → StandsAt order p t → IsBefore p n → ConflictsHere site t j.request → IsDone s p)
        → (k : Key) → is_local site k ≡ true → Uses j.request k → CutAt s k n
    at_turn pending s keeps n j has d free k l uses = record {
      within = λ p h. tt;
      below = λ p t at w h. free p t at h (k, l, inl (w, uses));
      above = λ p t at w every done. elim (places p n) [
        | earlier h ↦ h
        | same_place e ↦ absurd (undone pending s keeps n j has d (subst (IsDone s) e done))
        | later h ↦ absurd (undone pending s keeps n j has d (overtaken p t at w h done))
      ];
    }
      where
        overtaken : (p : Place) (t : Txn Args) → StandsAt order p t → Writes t k → IsBefore n p → IsDone s p → IsDone s n
        overtaken p t at w h (inl before) = inl (before_trans n p s.opened_from h before)
        overtaken p t at w h (inr (x, too, e)) =
            let is : t ≡ x.request = only_one order rises p t x.request at (keeps.known p x too).0 in
            keeps.locked p x too (λ g. let both = sym g ∙ e in cc) n j.request (keeps.known n j has).0 h (k, l, inr (uses, subst (λ u. Writes u k) is w))

    -- the entry at n becomes another: what every step comes down to
    module _ (pending rest : Order Args) (s : Scheduling Args Row) (keeps : Keeps pending s) (n : Place) (j : Turn Args Row) (store : Store Row)
        (not_done : IsDone s n → ⊥) (stands : StandsAt order n j.request) (from_opening : IsBefore n s.opened_from → ⊥) where
      abbrev changed : Scheduling Args Row
      changed = record s { turns = insert s.turns n j; store = store }

      stays_done : (p : Place) → IsDone s p → IsDone changed p
      stays_done p (inl h) = inl h
      stays_done p (inr (x, has, d)) = elim (insert_cases place_total place_exact s.turns n j p) [
        | inl e ↦ absurd (not_done (subst (IsDone s) e (inr (x, has, d))))
        | inr e ↦ inr (x, e ∙ has, d)
      ]

      was_done : (p : Place) → IsDone changed p → IsDone s p ⊎ ((p ≡ n) × (j.phase ≡ Done))
      was_done p (inl h) = inl (inl h)
      was_done p (inr (x, has, d)) =
          let P : Place → Turn Args Row → Type 0 = λ p x. x.phase ≡ Done → IsDone s p ⊎ ((p ≡ n) × (j.phase ≡ Done)) in
          insert_each place_total place_exact P s.turns n j (λ d. inr (refl, d)) (λ q y h d. inl (inr (y, h, d))) p x has d

      -- where it is not done by a write here, the store stays
      still_stored : ((k : Key) → is_local site k ≡ true → j.phase ≡ Done → Writes j.request k → ⊥) → store ≡ s.store → StoreKeeps m order start site (IsDone changed) store
      still_stored not_written same = subst (StoreKeeps m order start site (IsDone changed)) (sym same) (store_same m order start site law rises (IsDone s) (IsDone changed) stays_done
          (λ k l p t at w d. elim (was_done p d) [
            | inl done ↦ done
            | inr e ↦ absurd (not_written k l e.1 (subst (λ u. Writes u k) (only_one order rises n t j.request (subst (λ x. StandsAt order x t) e.0 at) stands) w))
          ])
          s.store keeps.stored)

      keeps_changed : ((q : Place) (t : Txn Args) → StandsAt pending q t → StandsAt rest q t ⊎ (q ≡ n))
          → ((q : Place) (t : Txn Args) → StandsAt rest q t → StandsAt pending q t × IsBefore n q) → Rises rest
          → (j.phase ≢ Waiting → (p : Place) (t : Txn Args) → StandsAt order p t → IsBefore p n → ConflictsHere site t j.request → IsDone s p)
          → StoreKeeps m order start site (IsDone changed) store
          → (j.phase ≢ Waiting → j.served ≡ due site.partition n j.request)
          → ((from : ℕ) (rows : Rows Row) → get j.came from ≡ Some rows → rows ≡ due from n j.request)
          → (j.phase ≡ Begun → is_active site j.request ≡ true)
          → Keeps rest changed
      keeps_changed split part_of rest_rises free stored served came runs = record {
        known = insert_each place_total place_exact (λ p x. StandsAt order p x.request × (IsBefore p s.opened_from → ⊥)) s.turns n j (stands, from_opening) keeps.known;
        to_come = λ q t at. keeps.to_come q t (part_of q t at).0;
        rising = rest_rises;
        ahead = insert_each place_total place_exact (λ p x. (q : Place) (t : Txn Args) → StandsAt rest q t → IsBefore p q) s.turns n j
            (λ q t at. (part_of q t at).1) (λ p x has q t at. keeps.ahead p x has q t (part_of q t at).0);
        seen = λ p t at h l. elim (keeps.seen p t at h l) [
          | inl waits ↦ elim (split p t waits) [
            | inl still ↦ inl still
            | inr e ↦ inr (j, ap (get changed.turns) e ∙ insert_here place_cmp place_total place_exact s.turns n j)
          ]
          | inr (x, has) ↦ elim (insert_cases place_total place_exact s.turns n j p) [
            | inl e ↦ inr (j, ap (get changed.turns) e ∙ insert_here place_cmp place_total place_exact s.turns n j)
            | inr e ↦ inr (x, e ∙ has)
          ]
        ];
        locked = insert_each place_total place_exact (λ p x. x.phase ≢ Waiting → (q : Place) (t : Txn Args) → StandsAt order q t → IsBefore q p → ConflictsHere site t x.request → IsDone changed q) s.turns n j
            (λ w q t at h c. stays_done q (free w q t at h c)) (λ p x has w q t at h c. stays_done q (keeps.locked p x has w q t at h c));
        stored = stored;
        served = insert_each place_total place_exact (λ p x. x.phase ≢ Waiting → x.served ≡ due site.partition p x.request) s.turns n j served keeps.served;
        came = insert_each place_total place_exact (λ p x. (from : ℕ) (rows : Rows Row) → get x.came from ≡ Some rows → rows ≡ due from p x.request) s.turns n j came keeps.came;
        runs = insert_each place_total place_exact (λ p x. x.phase ≡ Begun → is_active site x.request ≡ true) s.turns n j runs keeps.runs;
      }

    -- ---- the steps

    -- the last place that was admitted doesn't matter
    passed_on : (pending : Order Args) (s : Scheduling Args Row) (last : Option Place) → Keeps pending s → Keeps pending (record s { last = last })
    passed_on pending s last keeps = record {
      known = keeps.known;
      to_come = keeps.to_come;
      rising = keeps.rising;
      ahead = keeps.ahead;
      seen = keeps.seen;
      locked = keeps.locked;
      stored = store_same m order start site law rises (IsDone s) (IsDone (record s { last = last })) (λ p d. d) (λ k l p t at w d. d) s.store keeps.stored;
      served = keeps.served;
      came = keeps.came;
      runs = keeps.runs;
    }

    -- the order's next request is admitted or passed over
    pub admit_keeps : (q : Place) (t : Txn Args) (rest : Order Args) (s : Scheduling Args Row) → Keeps ((q, t) ∷ rest) s → Keeps rest (admitted site s q t)
    admit_keeps q t rest s keeps = passed_on rest (cond (has_local_key site t) (with_turn s q (new_turn t)) s) (Some q) (go (has_local_key site t) refl)
      where
        at : StandsAt order q t × (IsBefore q s.opened_from → ⊥)
        at = keeps.to_come q t (inl (refl, refl))

        not_done : IsDone s q → ⊥
        not_done (inl h) = at.1 h
        not_done (inr (x, has, d)) = not_before_itself q (keeps.ahead q x has q t (inl (refl, refl)))

        split : (p : Place) (u : Txn Args) → StandsAt ((q, t) ∷ rest) p u → StandsAt rest p u ⊎ (p ≡ q)
        split p u (inl here) = inr (sym here.0)
        split p u (inr at) = inl at

        never : ◌≡◌ {A = Phase} Waiting Done → ⊥
        never e = cc

        unbegun : ◌≡◌ {A = Phase} Waiting Begun → ⊥
        unbegun e = cc

        go : (b : Bool) → has_local_key site t ≡ b → Keeps rest (cond b (with_turn s q (new_turn t)) s)
        go true l = keeps_changed ((q, t) ∷ rest) rest s keeps q (new_turn t) s.store not_done at.0 at.1
            split (λ p u h. (inr h, keeps.rising.0 p u h)) keeps.rising.1
            (λ w. absurd (w refl))
            (still_stored ((q, t) ∷ rest) rest s keeps q (new_turn t) s.store not_done at.0 at.1 (λ k l d. absurd (never d)) refl)
            (λ w. absurd (w refl))
            (λ from rows h. let none = get-empty {X = Rows Row} nat_cmp from in absurd (cc))
            (λ b. absurd (unbegun b))
        go false l = record {
          known = keeps.known;
          to_come = λ p u h. keeps.to_come p u (inr h);
          rising = keeps.rising.1;
          ahead = λ p x has r u h. keeps.ahead p x has r u (inr h);
          seen = λ p u at h here. passed p u here (keeps.seen p u at h here);
          locked = keeps.locked;
          stored = keeps.stored;
          served = keeps.served;
          came = keeps.came;
          runs = keeps.runs;
        }
          where
            passed : (p : Place) (u : Txn Args) → has_local_key site u ≡ true → StandsAt ((q, t) ∷ rest) p u ⊎ ((j : Turn Args Row) × HasTurn s p j) → StandsAt rest p u ⊎ ((j : Turn Args Row) × HasTurn s p j)
            passed p u here (inl (inl same)) = let is = ap (has_local_key site) same.1 in absurd (cc)
            passed p u here (inl (inr h)) = inl h
            passed p u here (inr x) = inr x

    module _ (pending : Order Args) (s : Scheduling Args Row) (keeps : Keeps pending s) where
      -- the rows of a partition at its part of these keys, each cut at q
      view_at_cut : (keys : List Key) (q : Place) → ((k : Key) → is_local site k ≡ true → has keys k ≡ true → CutAt s k q) → view s.store.map (local_keys site keys) ≡ view (history q) (local_keys site keys)
      view_at_cut keys q cut = same_rows _ _ (λ k. get-view s.store.map (local_keys site keys) k ∙ go k (has (local_keys site keys) k) refl ∙ sym (get-view (history q) (local_keys site keys) k))
        where
          go : (k : Key) (b : Bool) → has (local_keys site keys) k ≡ b → cond b (get s.store.map k) None ≡ cond b (get (history q) k) None
          go k true h = let both = local_has site keys k h in keeps.stored.now.at_cut k q both.0 (cut k both.0 both.1)
          go k false h = refl

      -- a place that is ready has all earlier conflicting requests done
      ready_free : (n : Place) (j : Turn Args Row) → HasTurn s n j → IsReady site s n j.request
          → (p : Place) (t : Txn Args) → StandsAt order p t → IsBefore p n → ConflictsHere site t j.request → IsDone s p
      ready_free n j has ready p t at h c = elim (places p s.opened_from) [
        | earlier before ↦ inl before
        | same_place e ↦ open_one (λ g. not_before_itself p (subst (λ x. IsBefore p x) (sym e) g))
        | later after ↦ open_one (λ g. not_both p s.opened_from g after)
      ]
        where
          with_phase : (x : Turn Args Row) → HasTurn s p x → (f : Phase) → x.phase ≡ f → (x.phase ≢ Done → ⊥) → IsDone s p
          with_phase x hasx Waiting e running = absurd (running (λ d. let both = sym e ∙ d in cc))
          with_phase x hasx Begun e running = absurd (running (λ d. let both = sym e ∙ d in cc))
          with_phase x hasx Done e running = inr (x, hasx, e)

          open_one : (IsBefore p s.opened_from → ⊥) → IsDone s p
          open_one upon = elim (keeps.seen p t at upon (conflict_local site t j.request c)) [
            | inl waits ↦ absurd (not_both n p (keeps.ahead n j has p t waits) h)
            | inr (x, hasx) ↦ with_phase x hasx x.phase refl (λ d. ready p x hasx d h (subst (λ u. ConflictsHere site u j.request) (only_one order rises p t x.request at (keeps.known p x hasx).0) c))
          ]

      pub begin_keeps : (n : Place) (new : Scheduling Args Row) → Begins site s n new → Keeps pending new
      begin_keeps n new b = subst (Keeps pending) (sym b.now) (
          keeps_changed pending pending s keeps n x s.store not_done stands.0 stands.1
          (λ q t at. inl at) (λ q t at. (at, keeps.ahead n j b.has_turn q t at)) keeps.rising
          (λ w. free)
          (still_stored pending pending s keeps n x s.store not_done stands.0 stands.1 passive refl)
          (λ w. view_at_cut j.request.sets.reads n (λ k l r. at_turn pending s keeps n j b.has_turn waiting free k l (read_uses j.request k r)))
          (keeps.came n j b.has_turn)
          (runs (is_active site j.request) refl))
        where
          j : Turn Args Row
          j = b.turn

          x : Turn Args Row
          x = begun_turn site s.store.map j

          waiting : j.phase ≢ Done
          waiting d = let both = sym b.waits ∙ d in cc

          not_done : IsDone s n → ⊥
          not_done = undone pending s keeps n j b.has_turn waiting

          stands : StandsAt order n j.request × (IsBefore n s.opened_from → ⊥)
          stands = keeps.known n j b.has_turn

          free : (p : Place) (t : Txn Args) → StandsAt order p t → IsBefore p n → ConflictsHere site t j.request → IsDone s p
          free = ready_free n j b.has_turn b.ready

          runs : (a : Bool) → is_active site j.request ≡ a → ◌≡◌ {A = Phase} (cond a Begun Done) Begun → is_active site j.request ≡ true
          runs true is e = is
          runs false is e = absurd (let both : ◌≡◌ {A = Phase} Done Begun = e in cc)

          passive : (k : Key) → is_local site k ≡ true → x.phase ≡ Done → Writes j.request k → ⊥
          passive k l d w = go (is_active site j.request) (or_left _ _ (any_local site j.request.sets.writes k l w)) d
            where
              go : (a : Bool) → a ≡ true → ◌≡◌ {A = Phase} (cond a Begun Done) Done → ⊥
              go true e d = cc
              go false e d = cc

      pub receive_keeps : (n : Place) (from : ℕ) (rows : Rows Row) (new : Scheduling Args Row) → Receives site s n from rows new
          → ((t : Txn Args) → StandsAt order n t → rows ≡ due from n t) → Keeps pending new
      receive_keeps n from rows new b is = subst (Keeps pending) (sym b.now) (
          keeps_changed pending pending s keeps n x s.store not_done stands.0 stands.1
          (λ q t at. inl at) (λ q t at. (at, keeps.ahead n j b.has_turn q t at)) keeps.rising
          (keeps.locked n j b.has_turn)
          (still_stored pending pending s keeps n x s.store not_done stands.0 stands.1 (λ k l d. absurd (b.not_done d)) refl)
          (keeps.served n j b.has_turn)
          (insert_each nat_cmp_total nat_cmp-IsAntisymmetric (λ p r. r ≡ due p n j.request) j.came from rows (is j.request stands.0) (keeps.came n j b.has_turn))
          (keeps.runs n j b.has_turn))
        where
          j : Turn Args Row
          j = b.turn

          x : Turn Args Row
          x = with_rows from rows j

          not_done : IsDone s n → ⊥
          not_done = undone pending s keeps n j b.has_turn b.not_done

          stands : StandsAt order n j.request × (IsBefore n s.opened_from → ⊥)
          stands = keeps.known n j b.has_turn

      -- the whole view is that of the serial rows just before the place
      pub whole_view_is : (n : Place) (j : Turn Args Row) → HasTurn s n j → j.phase ≢ Waiting → IsCollected site j → whole_view site j ≡ view (history n) j.request.sets.reads
      whole_view_is n j has_turn begun collected = same_rows _ _ (λ k. get-gathered (piece site j) j.request.sets.reads k ∙ go k (has j.request.sets.reads k) refl ∙ sym (get-view (history n) j.request.sets.reads k))
        where
          reads : List Key
          reads = j.request.sets.reads

          at_key : (k : Key) → has reads k ≡ true → (b : Bool) → is_local site k ≡ b → get (cond b j.served (unwrap_or (get j.came (partition_of site.partitions k)) empty)) k ≡ get (history n) k
          at_key k r true l =
              ap (λ rows. get rows k) (keeps.served n j has_turn begun) ∙ get-view (history n) (local_keys site reads) k
              ∙ ap (λ b. cond b (get (history n) k) None) (has_local site reads k l r)
          at_key k r false l =
              let from = partition_of site.partitions k in
              let there = is_there (get j.came from) (collected k r l) in
              let other : Site = record { partitions = site.partitions; partition = from } in
              ap (λ o. get (unwrap_or o empty) k) there.1
              ∙ ap (λ rows. get rows k) (keeps.came n j has_turn from there.0 there.1) ∙ get-view (history n) (local_keys other reads) k
              ∙ ap (λ b. cond b (get (history n) k) None) (has_local other reads k (eq-eqb from from refl) r)

          go : (k : Key) (b : Bool) → has reads k ≡ b → cond b (get (piece site j k) k) None ≡ cond b (get (history n) k) None
          go k true r = at_key k r (is_local site k) refl
          go k false r = refl

      module _ (n : Place) (answer : Answer Reply) (new : Scheduling Args Row) (b : Finishes m site s n answer new) where
        started : b.turn.phase ≢ Waiting
        started w = let both = sym w ∙ b.begun in cc

        pub finish_answers : StandsAt order n b.turn.request × (answer ≡ answer_one m b.turn.request (history n))
        finish_answers = ((keeps.known n b.turn b.has_turn).0, b.answers ∙ ap (answer_on m b.turn.request) (whole_view_is n b.turn b.has_turn started b.collected))

        pub finish_keeps : Keeps pending new
        finish_keeps = subst (Keeps pending) (sym b.now) (
            keeps_changed pending pending s keeps n x store not_done stands.0 stands.1
            (λ q t at. inl at) (λ q t at. (at, keeps.ahead n j b.has_turn q t at)) keeps.rising
            (λ w. free)
            (store_put m order start site law rises (IsDone s) (IsDone after) n j.request (whole_view site j) stands.0
            (stays_done pending pending s keeps n x store not_done stands.0 stands.1)
            (λ p d. elim (was_done pending pending s keeps n x store not_done stands.0 stands.1 p d) [ inl h ↦ inl h | inr e ↦ inr e.0 ])
            (inr (x, insert_here place_cmp place_total place_exact s.turns n x, refl))
            turn (whole_view_is n j b.has_turn started b.collected) s.store keeps.stored)
            (λ w. keeps.served n j b.has_turn started)
            (keeps.came n j b.has_turn)
            (λ e. absurd (ended e)))
          where
            j : Turn Args Row
            j = b.turn

            x : Turn Args Row
            x = record j { phase = Done }

            store : Store Row
            store = put_at n (local_writes site (writes_on m j.request (whole_view site j))) s.store

            ended : ◌≡◌ {A = Phase} Done Begun → ⊥
            ended e = cc

            running : j.phase ≢ Done
            running d = let both = sym d ∙ b.begun in cc

            not_done : IsDone s n → ⊥
            not_done = undone pending s keeps n j b.has_turn running

            stands : StandsAt order n j.request × (IsBefore n s.opened_from → ⊥)
            stands = keeps.known n j b.has_turn

            free : (p : Place) (t : Txn Args) → StandsAt order p t → IsBefore p n → ConflictsHere site t j.request → IsDone s p
            free = keeps.locked n j b.has_turn started

            turn : (k : Key) → is_local site k ≡ true → Writes j.request k → CutAt s k n
            turn k l w = at_turn pending s keeps n j b.has_turn running free k l (write_uses j.request k w)

            after : Scheduling Args Row
            after = changed pending pending s keeps n x store not_done stands.0 stands.1

      -- a node that stands at q has its part of the serial rows before q
      pub rows_standing : (q : Place) → Stands site order s q → s.store.map ≡ part site.partitions site.partition (history q)
      rows_standing q at = version_standing m order start site Every (IsDone s) q (λ n h. tt)
          (λ k l n t stands w h. at.all_before n t stands h (any_local site _ k l (write_uses t k w)))
          (λ n i done. at.none_later n done) s.store.map keeps.stored.now

      -- the store alone changes
      stored_keeps : (store : Store Row) → StoreKeeps m order start site (IsDone s) store → Keeps pending (with_store s store)
      stored_keeps store stored = record {
        known = keeps.known;
        to_come = keeps.to_come;
        rising = keeps.rising;
        ahead = keeps.ahead;
        seen = keeps.seen;
        locked = keeps.locked;
        stored = stored;
        served = keeps.served;
        came = keeps.came;
        runs = keeps.runs;
      }

      pub mark_keeps : (q : Place) (new : Scheduling Args Row) → Marks s q new → Keeps pending new
      mark_keeps q new b = subst (Keeps pending) (sym b.now) (stored_keeps (marked q s.store) (store_marked m order start site law rises (IsDone s) q b.none_later s.store keeps.stored))

      pub stir_keeps : (store : Store Row) → store.map ≡ s.store.map → store.point ≡ s.store.point → Keeps pending (with_store s store)
      stir_keeps store same_map same_point = stored_keeps store (store_stirred m order start site law rises (IsDone s) s.store store same_map same_point keeps.stored)

      -- the rows of an open point, once all before it is done
      pub rows_at_point : (p : Point Row) → s.store.point ≡ Some p → AllBefore site order s p.at → p.rows ≡ part site.partitions site.partition (history p.at)
      rows_at_point p is_open all_before = version_standing m order start site (Upto p.at) (IsDone s) p.at (λ n h. h)
          (λ k l n t stands w h. all_before n t stands h (any_local site _ k l (write_uses t k w)))
          (λ n i done. i) p.rows (keeps.stored.point p is_open)

      -- a snapshot
      module _ (q : Place) (rows : Rows Row) (new : Scheduling Args Row) (b : Takes site order s q rows new) where
        pub takes_right : rows ≡ part site.partitions site.partition (history q)
        takes_right = go b.takes
          where
            go : TakesMap site order s q rows ⊎ TakesPoint site order s q rows → rows ≡ part site.partitions site.partition (history q)
            go (inl c) = c.taken ∙ rows_standing q c.stands
            go (inr c) = c.taken ∙ rows_at_point c.point c.is_open (subst (AllBefore site order s) (sym c.is_at) c.all_before) ∙ ap (λ p. part site.partitions site.partition (history p)) c.is_at

        pub takes_keeps : Keeps pending new
        takes_keeps = subst (Keeps pending) (sym b.now) (stored_keeps (closed_upto q s.store) (store_closed m order start site law rises (IsDone s) q s.store keeps.stored))

        pub takes_opened : new.opened_from ≡ s.opened_from
        takes_opened = ap (λ x. x.opened_from) b.now

        pub takes_done : (n : Place) → IsDone new n → IsDone s n
        takes_done n done = subst (λ x. IsDone x n) b.now done

        pub takes_all_before : AllBefore site order s q
        takes_all_before = elim b.takes [ inl c ↦ c.stands.all_before | inr c ↦ c.all_before ]
