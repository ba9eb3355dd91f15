-- What is kept of merged and done epochs stays true at each step.
use Rattle.std.proofs.Common.{◌≡◌, ◌≢◌, ℕ, suc, ◌+◌, ◌<◌, ◌≤◌, ◌^◌, max, Bool, true, false, not, ◌||◌, ◌⊎◌, inl, inr, List, [], ◌++◌, Option, Some, None, refl, sym, ap, subst, ◌∙◌, arith}
use Rattle.std.proofs.lemmas.Bool.{false≢true, or_right, cases_lt}
use Rattle.std.proofs.lemmas.List.Elements.{filter-append}
use Rattle.std.proofs.lemmas.Option.{none-some, same_Some}
use Rattle.std.specs.Prelude.{◌==◌}
use Rattle.std.specs.Ordering.{is_lt, ordering_reverse}
use Rattle.std.specs.declared.cmp.Ordering.{Ordering}
use Rattle.std.specs.declared.cmp.Ordering.TheVariants.{Less, Equal, Greater}
use Rattle.std.specs.List.{filter, list_all}
use Rattle.std.specs.FinMap.{FinMap, get, insert, empty, get-empty}
use Rattle.calvin_types.specs.declared.place.Place.{Place}
use Rattle.calvin_types.specs.Orders.{Order}
use Rattle.calvin_types.specs.Participants.{Site}
use Rattle.calvin_types.specs.Places.{place_cmp, IsBefore}
use Rattle.calvin_types.proofs.PlaceOrder.{place_total, place_exact, not_before_itself}
use Rattle.calvin_types.proofs.ExactMaps.{same_or_not, insert_here, insert_other}
use Rattle.calvin_app.specs.Stores.{Store}
use Rattle.calvin_order.specs.Merged.{end_of}
use Rattle.calvin_sched.specs.Keeping.{Kept, turns_of, scheduling_of}
use Rattle.calvin_sched.specs.Scheduling.{Turn, Scheduling, is_before, is_past, is_finished, is_done, turn_done}
use Rattle.calvin_sched.specs.Progress.{left, done_at, from_left, passes_first, IsProgress}
use Rattle.calvin_sched.specs.Seating.{IsPastAll}
use Rattle.calvin_sched.proofs.DueLists.{left_of_from, left_of_left, left_same, first_of_from, climbs_from, climbs_more, places_of_epoch}
use Rattle.calvin_sched.specs.Standing.{local_places}
use Rattle.calvin_sched.proofs.Keepers.{less_of, put_turn, turn_kept}

module _ {Args Row : Type 0} where
  -- a place is done, by what is admitted
  abbrev pub done_by : ℕ → FinMap {K = Place} place_cmp (Turn Args Row) → Place → Bool
  done_by opened turns q = is_before q (end_of opened) || turn_done (get turns q)

  -- nothing is admitted
  pub at_first : (opened : ℕ) (turns : FinMap {K = Place} place_cmp (Turn Args Row)) → turns ≡ empty → (merged done : ℕ) → merged ≤ 2 ^ 64 → done ≡ 0 → (due : List Place) → due ≡ [] → IsProgress opened None turns merged done due
  at_first opened turns none merged done few no_bound due nothing = subst (IsProgress opened None turns merged done) (sym nothing) (subst (λ t. IsProgress opened None t merged done []) (sym none) (record {
    counted = few;
    upto = λ q x there. absurd (none-some x (sym (get-empty place_cmp q) ∙ there));
    below = λ q x there. absurd (none-some x (sym (get-empty place_cmp q) ∙ there));
    reached = λ some. absurd (omega (arith, some, no_bound));
    first = refl;
    climbs = omega arith;
  }))

  finished_there : (o : Option (Turn Args Row)) → turn_done o ≡ true → (x : Turn Args Row) × (o ≡ Some x) × (is_finished x.phase ≡ true)
  finished_there None h = absurd (false≢true h)
  finished_there (Some x) h = (x, refl, h)

module _ {Args Row : Type 0} (opened : ℕ) (last : Option Place) (turns : FinMap {K = Place} place_cmp (Turn Args Row)) (merged done : ℕ) (due : List Place) (is : IsProgress opened last turns merged done due) where
  -- epochs that are merged
  pub merges : (more : List Place) → merged < 2 ^ 64 → list_all (λ q. q.epoch == merged) more ≡ true → IsProgress opened last turns (suc merged) done (from_left (done_by opened turns) (due ++ more))
  merges more fits all = record {
    counted = omega (arith, fits);
    upto = is.upto;
    below = is.below;
    reached = is.reached;
    first = first_of_from (done_by opened turns) (due ++ more);
    climbs = climbs_from (done_by opened turns) 0 (suc merged) (due ++ more) (climbs_more 0 merged due more is.climbs all);
  }

  -- a later place is passed over
  later_last : (q : Place) → is_past last q ≡ true → (n : Place) → is_past last n ≡ false → is_before q n ≡ false
  later_last q past n upto = go last past upto (is_before q n) refl
    where
      go : (o : Option Place) → is_past o q ≡ true → is_past o n ≡ false → (b : Bool) → is_before q n ≡ b → b ≡ false
      go None p u b e = absurd (false≢true (sym u))
      go (Some a) p u false e = refl
      go (Some a) p u true e = absurd (false≢true (sym u ∙ ap is_lt (place_total.trans a q n (less_of (place_cmp a q) p) (less_of (place_cmp q n) e))))

  pub passes : (q : Place) → is_past last q ≡ true → IsProgress opened (Some q) turns merged done due
  passes q past = record { counted = is.counted; upto = λ n x there. later_last q past n (is.upto n x there); below = is.below; reached = is.reached; first = is.first; climbs = is.climbs }

  -- nothing is at a later place
  pub nothing_past : (q : Place) → is_past last q ≡ true → turn_done (get turns q) ≡ false
  nothing_past q past = go (get turns q) refl
    where
      go : (o : Option (Turn Args Row)) → get turns q ≡ o → turn_done o ≡ false
      go None e = refl
      go (Some x) e = absurd (false≢true (sym (is.upto q x e) ∙ past))

  module _ (q : Place) (y : Turn Args Row) where
    abbrev next : FinMap {K = Place} place_cmp (Turn Args Row)
    next = insert turns q y

    here : get next q ≡ Some y
    here = insert_here place_cmp place_total place_exact turns q y

    other : (n : Place) → n ≢ q → get next n ≡ get turns n
    other n far = insert_other place_cmp place_total place_exact turns q y n far

    -- ---- a place stays done or not

    module _ (same : is_finished y.phase ≡ turn_done (get turns q)) where
      pub done_same : (n : Place) → done_by opened turns n ≡ done_by opened next n
      done_same n = go (same_or_not place_cmp place_total place_exact n q)
        where
          go : (n ≡ q) ⊎ (n ≢ q) → done_by opened turns n ≡ done_by opened next n
          go (inl at) = ap (λ b. is_before n (end_of opened) || b) (ap (λ m. turn_done (get turns m)) at ∙ sym same ∙ ap turn_done (sym here) ∙ ap (λ m. turn_done (get next m)) (sym at))
          go (inr far) = ap (λ o. is_before n (end_of opened) || turn_done o) (sym (other n far))

      pub steps : (final : Option Place) → is_past final q ≡ false → ((n : Place) → is_past last n ≡ false → is_past final n ≡ false) → IsProgress opened final next merged done due
      steps final upto others = record {
        counted = is.counted;
        upto = λ n x there. by_place n x there (same_or_not place_cmp place_total place_exact n q);
        below = λ n x there fin. below_at n x there fin (same_or_not place_cmp place_total place_exact n q);
        reached = λ some. let w = is.reached some in reached_at w.0 w.1 w.2 w.3 w.4 (same_or_not place_cmp place_total place_exact w.0 q);
        first = subst (λ p. passes_first p due ≡ false) (λ i n. done_same n i) is.first;
        climbs = is.climbs;
      }
        where
          by_place : (n : Place) (x : Turn Args Row) → get next n ≡ Some x → (n ≡ q) ⊎ (n ≢ q) → is_past final n ≡ false
          by_place n x there (inl at) = ap (is_past final) at ∙ upto
          by_place n x there (inr far) = others n (is.upto n x (sym (other n far) ∙ there))

          below_at : (n : Place) (x : Turn Args Row) → get next n ≡ Some x → is_finished x.phase ≡ true → (n ≡ q) ⊎ (n ≢ q) → n.epoch < done
          below_at n x there fin (inl at) =
              let it = same_Some y x (sym here ∙ ap (get next) (sym at) ∙ there) in
              let old = finished_there (get turns q) (sym same ∙ ap (λ (z : Turn Args Row). is_finished z.phase) it ∙ fin) in
              subst (λ m. m.epoch < done) (sym at) (is.below q old.0 old.1 old.2)
          below_at n x there fin (inr far) = is.below n x (sym (other n far) ∙ there) fin

          reached_at : (n : Place) (x : Turn Args Row) → get turns n ≡ Some x → is_finished x.phase ≡ true → n.epoch + 1 ≡ done → (n ≡ q) ⊎ (n ≢ q)
              → (m : Place) × (z : Turn Args Row) × (get next m ≡ Some z) × (is_finished z.phase ≡ true) × (m.epoch + 1 ≡ done)
          reached_at n x there fin at (inl is_q) = (q, y, here, same ∙ ap (λ m. turn_done (get turns m)) (sym is_q) ∙ ap turn_done there ∙ fin, ap (λ m. m.epoch + 1) (sym is_q) ∙ at)
          reached_at n x there fin at (inr far) = (n, x, other n far ∙ there, fin, at)

    -- ---- a place is done

    module _ (finished : is_finished y.phase ≡ true) where
      pub done_more : (n : Place) → done_by opened turns n ≡ true → done_by opened next n ≡ true
      done_more n h = go (same_or_not place_cmp place_total place_exact n q)
        where
          go : (n ≡ q) ⊎ (n ≢ q) → done_by opened next n ≡ true
          go (inl at) = or_right (is_before n (end_of opened)) (turn_done (get next n)) (ap (λ m. turn_done (get next m)) at ∙ ap turn_done here ∙ finished)
          go (inr far) = ap (λ o. is_before n (end_of opened) || turn_done o) (other n far) ∙ h

      pub ends : is_past last q ≡ false → (bound : ℕ) → bound ≡ max done (q.epoch + 1) → IsProgress opened last next merged bound (from_left (done_by opened next) due)
      ends upto bound grown = record {
        counted = is.counted;
        upto = λ n x there. by_place n x there (same_or_not place_cmp place_total place_exact n q);
        below = λ n x there fin. below_at n x there fin (same_or_not place_cmp place_total place_exact n q);
        reached = λ some. by_bound some (cases_lt (q.epoch + 1) done);
        first = first_of_from (done_by opened next) due;
        climbs = climbs_from (done_by opened next) 0 merged due is.climbs;
      }
        where
          by_place : (n : Place) (x : Turn Args Row) → get next n ≡ Some x → (n ≡ q) ⊎ (n ≢ q) → is_past last n ≡ false
          by_place n x there (inl at) = ap (is_past last) at ∙ upto
          by_place n x there (inr far) = is.upto n x (sym (other n far) ∙ there)

          below_at : (n : Place) (x : Turn Args Row) → get next n ≡ Some x → is_finished x.phase ≡ true → (n ≡ q) ⊎ (n ≢ q) → n.epoch < bound
          below_at n x there fin (inl at) = let same : n.epoch ≡ q.epoch = ap (λ m. m.epoch) at in omega (arith, same, grown)
          below_at n x there fin (inr far) = omega (arith, grown, is.below n x (sym (other n far) ∙ there) fin)

          Reached : Type 0
          Reached = (m : Place) × (z : Turn Args Row) × (get next m ≡ Some z) × (is_finished z.phase ≡ true) × (m.epoch + 1 ≡ bound)

          old_one : (n : Place) (x : Turn Args Row) → get turns n ≡ Some x → is_finished x.phase ≡ true → n.epoch + 1 ≡ bound → (n ≡ q) ⊎ (n ≢ q) → Reached
          old_one n x there fin at (inl is_q) = (q, y, here, finished, ap (λ m. m.epoch + 1) (sym is_q) ∙ at)
          old_one n x there fin at (inr far) = (n, x, other n far ∙ there, fin, at)

          by_bound : 0 < bound → (q.epoch + 1 < done) ⊎ (done ≤ q.epoch + 1) → Reached
          by_bound some (inl less) =
              let w = is.reached (omega (arith, less)) in
              old_one w.0 w.1 w.2 w.3 (omega (arith, less, grown, w.4)) (same_or_not place_cmp place_total place_exact w.0 q)
          by_bound some (inr most) = (q, y, here, finished, omega (arith, most, grown))

  -- ---- a later place is admitted

  module _ (q : Place) (y : Turn Args Row) (past : is_past last q ≡ true) (waits : is_finished y.phase ≡ false) where
    pub admits_same : (n : Place) → done_by opened turns n ≡ done_by opened (insert turns q y) n
    admits_same = done_same q y (waits ∙ sym (nothing_past q past))

    not_itself : is_before q q ≡ false
    not_itself = go (is_before q q) refl
      where
        go : (b : Bool) → is_before q q ≡ b → b ≡ false
        go false e = refl
        go true e = absurd (not_before_itself q (less_of (place_cmp q q) e))

    pub admits : IsProgress opened (Some q) (insert turns q y) merged done due
    admits = steps q y (waits ∙ sym (nothing_past q past)) (Some q) not_itself (later_last q past)

-- ---- the same by what is kept

-- a place past the last one is past all that are admitted
module _ {Args Row : Type 0} (opened : ℕ) (last : Option Place) (kept : FinMap {K = Place} place_cmp (Kept Args Row)) (merged done : ℕ) (due : List Place) (is : IsProgress opened last (turns_of kept) merged done due) where
  pub past_admitted : (q : Place) → is_past last q ≡ true → IsPastAll q kept
  past_admitted q past n k found = go last past (is.upto n k.turn (turn_kept kept n k found))
    where
      by_order : (a : Place) → IsBefore a q → (o : Ordering) → place_cmp a n ≡ o → is_lt o ≡ false → IsBefore n q
      by_order a before Less e u = absurd (false≢true (sym u))
      by_order a before Equal e u = subst (λ p. IsBefore p q) (place_exact a n e) before
      by_order a before Greater e u = place_total.trans n a q (place_total.antisymm n a ∙ ap ordering_reverse e) before

      go : (o : Option Place) → is_past o q ≡ true → is_past o n ≡ false → IsBefore n q
      go None p u = absurd (false≢true (sym u))
      go (Some a) p u = by_order a (less_of (place_cmp a q) p) (place_cmp a n) refl u

module _ {Args Row : Type 0} (opened : ℕ) (last : Option Place) (kept : FinMap {K = Place} place_cmp (Kept Args Row)) (merged done : ℕ) (due : List Place) (is : IsProgress opened last (turns_of kept) merged done due)
    (q : Place) (next : Kept Args Row) (after : FinMap {K = Place} place_cmp (Kept Args Row)) (put : after ≡ insert kept q next) where
  turns_after : turns_of after ≡ insert (turns_of kept) q next.turn
  turns_after = ap turns_of put ∙ put_turn kept q next

  module _ (past : is_past last q ≡ true) (waits : is_finished next.turn.phase ≡ false) where
    pub progress_admitted : IsProgress opened (Some q) (turns_of after) merged done due
    progress_admitted = subst (λ t. IsProgress opened (Some q) t merged done due) (sym turns_after) (admits opened last (turns_of kept) merged done due is q next.turn past waits)

    pub left_admitted : (store : Store Row) → left (scheduling_of opened (Some q) after store) due ≡ left (scheduling_of opened last kept store) due
    left_admitted store = sym (left_same (done_by opened (turns_of kept)) (done_by opened (turns_of after)) (λ n. admits_same opened last (turns_of kept) merged done due is q next.turn past waits n ∙ ap (λ t. done_by opened t n) (sym turns_after)) due)

  module _ (k : Kept Args Row) (found : get kept q ≡ Some k) where
    there : get (turns_of kept) q ≡ Some k.turn
    there = turn_kept kept q k found

    module _ (same : is_finished next.turn.phase ≡ is_finished k.turn.phase) where
      same_there : is_finished next.turn.phase ≡ turn_done (get (turns_of kept) q)
      same_there = same ∙ sym (ap turn_done there)

      pub progress_stepped : IsProgress opened last (turns_of after) merged done due
      progress_stepped = subst (λ t. IsProgress opened last t merged done due) (sym turns_after) (steps opened last (turns_of kept) merged done due is q next.turn same_there last (is.upto q k.turn there) (λ n h. h))

      pub left_stepped : (store : Store Row) → left (scheduling_of opened last after store) due ≡ left (scheduling_of opened last kept store) due
      left_stepped store = sym (left_same (done_by opened (turns_of kept)) (done_by opened (turns_of after)) (λ n. done_same opened last (turns_of kept) merged done due is q next.turn same_there n ∙ ap (λ t. done_by opened t n) (sym turns_after)) due)

    module _ (finished : is_finished next.turn.phase ≡ true) (count bound : ℕ) (rest : List Place) (counted : count ≡ merged) (grown : bound ≡ max done (q.epoch + 1)) (dropped : rest ≡ from_left (done_at opened after) due) where
      pub progress_ended : IsProgress opened last (turns_of after) count bound rest
      progress_ended =
          subst (λ m. IsProgress opened last (turns_of after) m bound rest) (sym counted)
          (subst (IsProgress opened last (turns_of after) merged bound) (sym dropped)
          (subst (λ t. IsProgress opened last t merged bound (from_left (done_by opened t) due)) (sym turns_after)
          (ends opened last (turns_of kept) merged done due is q next.turn finished (is.upto q k.turn there) bound grown)))

      pub left_ended : (store written : Store Row) → left (scheduling_of opened last after written) rest ≡ left (scheduling_of opened last after written) (left (scheduling_of opened last kept store) due)
      left_ended store written =
          ap (filter (λ n. not (done_by opened (turns_of after) n))) dropped ∙ left_of_from (done_by opened (turns_of after)) due
          ∙ sym (left_of_left (done_by opened (turns_of kept)) (done_by opened (turns_of after)) (λ n h. ap (λ t. done_by opened t n) turns_after ∙ done_more opened last (turns_of kept) merged done due is q next.turn finished n h) due)

-- the next epoch is merged
module _ {Args Row : Type 0} (opened : ℕ) (last : Option Place) (kept : FinMap {K = Place} place_cmp (Kept Args Row)) (merged done : ℕ) (due : List Place) (is : IsProgress opened last (turns_of kept) merged done due)
    (here : Site) (order : Order Args) (epoch : ℕ) (next : epoch ≡ merged) (fits : epoch < 2 ^ 64) (all : list_all (λ e. e.0.epoch == epoch) order ≡ true) (count bound : ℕ) (more rest : List Place)
    (counted : count ≡ epoch + 1) (unchanged : bound ≡ done) (put : more ≡ due ++ local_places here order) (dropped : rest ≡ from_left (done_at opened kept) more) where
  rest_is : rest ≡ from_left (done_at opened kept) (due ++ local_places here order)
  rest_is = dropped ∙ ap (from_left (done_at opened kept)) put

  pub count_is : count ≡ suc merged
  count_is = omega (arith, counted, next)

  pub progress_merged : IsProgress opened last (turns_of kept) count bound rest
  progress_merged =
      subst (λ m. IsProgress opened last (turns_of kept) m bound rest) (sym count_is)
      (subst (λ b. IsProgress opened last (turns_of kept) (suc merged) b rest) (sym unchanged)
      (subst (IsProgress opened last (turns_of kept) (suc merged) done) (sym rest_is)
      (merges opened last (turns_of kept) merged done due is (local_places here order) (omega (arith, fits, next)) (subst (λ n. list_all (λ q. q.epoch == n) (local_places here order) ≡ true) next (places_of_epoch here epoch order all)))))

  pub left_merged : (store : Store Row) → left (scheduling_of opened last kept store) rest ≡ left (scheduling_of opened last kept store) due ++ left (scheduling_of opened last kept store) (local_places here order)
  left_merged store =
      ap (filter (λ q. not (done_at opened kept q))) rest_is ∙ left_of_from (done_at opened kept) (due ++ local_places here order)
      ∙ filter-append (λ q. not (done_at opened kept q)) due (local_places here order)

-- nothing more is done: no more is dropped
pub left_again : {Args Row : Type 0} (s : Scheduling Args Row) (due : List Place) → left s due ≡ left s (left s due)
left_again s due = sym (left_of_left (is_done s) (is_done s) (λ q h. h) due)
