-- An order whose places rise, index by index, and how a scheduler is told it, epoch after epoch.
use Rattle.std.proofs.Common.{◌≡◌, ℕ, zero, suc, ◌+◌, ◌-◌, ◌<◌, ◌≤◌, ◌==◌, Bool, true, false, cond, ◌&&◌, ◌||◌, ◌⊎◌, inl, inr, List, [], ◌∷◌, ◌++◌, length, take, drop, Some, Ok, Err, refl, sym, ap, subst, ◌∙◌, arith}
use Rattle.std.specs.Prelude.{slice_get, slice_range, not}
use Rattle.std.specs.List.{list_all}
use Rattle.std.specs.FinMap.{empty, get, get-empty}
use Rattle.std.proofs.Math.Seq.{take-add}
use Rattle.std.specs.Ordering.{is_lt}
use Rattle.std.proofs.lemmas.Bool.{cases_lt, eq-eqb, false≢true}
use Rattle.std.proofs.lemmas.List.{take_all}
use Rattle.std.proofs.lemmas.Option.{slice_get_within, slice_get-get_or}
use Rattle.calvin_types.specs.declared.fault.Fault.{Fault}
use Rattle.calvin_types.specs.declared.fault.Fault.TheVariants as fault
use Rattle.calvin_types.specs.declared.place.Place.{Place}
use Rattle.calvin_types.specs.declared.txn.Txn.{Txn}
use Rattle.calvin_types.specs.Deeds.{Refuses, Does, Did}
use Rattle.calvin_types.specs.Orders.{Order, Rises, StandsAt}
use Rattle.calvin_types.specs.Participants.{Site}
use Rattle.calvin_types.specs.Places.{IsBefore, place_cmp}
use Rattle.calvin_order.specs.Merged.{end_of}
use Rattle.calvin_order.proofs.Places.{before_epoch, before_end, is_lt_false}
use Rattle.calvin_sched.specs.Keeping.{Scheduled}
use Rattle.calvin_sched.specs.Progress.{left, merge}
use Rattle.calvin_sched.specs.Scheduling.{opened, is_before, is_done, turn_done}
use Rattle.calvin_sched.specs.Standing.{local_places}
use Rattle.calvin_sched.proofs.Readiness.{both_true}
use Rattle.calvin_bench.specs.Replicas.{epochs_of}
use Rattle.calvin_bench.specs.Telling.{EndsAt, told_upto}
use Rattle.calvin_bench.proofs.Placing.{before_trans}
use Rattle.calvin_bench.proofs.Standing.{local_joined}

module _ {Args : Type 0} where
  -- ---- rising places by their indices

  pub at_stands : (es : Order Args) (i : ℕ) (e : Place × Txn Args) → slice_get es i ≡ Some e → StandsAt es e.0 e.1
  at_stands [] i e h = absurd (cc)
  at_stands (a ∷ es) zero e h = let is : a ≡ e = cc in inl (ap (λ (x : Place × Txn Args). x.0) is, ap (λ (x : Place × Txn Args). x.1) is)
  at_stands (a ∷ es) (suc i) e h = inr (at_stands es i e h)

  pub rises_at : (es : Order Args) → Rises es → (i j : ℕ) (a b : Place × Txn Args) → i < j → slice_get es i ≡ Some a → slice_get es j ≡ Some b → IsBefore a.0 b.0
  rises_at [] rises i j a b less h k = absurd (cc)
  rises_at (x ∷ es) rises i zero a b less h k = absurd (omega arith)
  rises_at (x ∷ es) rises zero (suc j) a b less h k = let is : x ≡ a = cc in subst (λ (y : Place × Txn Args). IsBefore y.0 b.0) is (rises.0 b.0 b.1 (at_stands es j b k))
  rises_at (x ∷ es) rises (suc i) (suc j) a b less h k = rises_at es rises.1 i j a b (omega (arith, less)) h k

  -- each place is before the next one
  abbrev pub NextRises : Order Args → ℕ → Type 0
  NextRises es n = (k : ℕ) (a b : Place × Txn Args) → suc k < n → slice_get es k ≡ Some a → slice_get es (suc k) ≡ Some b → IsBefore a.0 b.0

  first_before : (e f : Place × Txn Args) (es : Order Args) → IsBefore e.0 f.0 → Rises (f ∷ es) → (q : Place) (t : Txn Args) → StandsAt (f ∷ es) q t → IsBefore e.0 q
  first_before e f es here rest q t (inl is) = subst (λ p. IsBefore e.0 p) is.0 here
  first_before e f es here rest q t (inr more) = before_trans e.0 f.0 q here (rest.0 q t more)

  pub rises_by : (es : Order Args) → NextRises es (length es) → Rises es
  rises_by [] next = tt
  rises_by (e ∷ []) next = (λ q t at. absurd at, tt)
  rises_by (e ∷ f ∷ es) next =
      let rest = rises_by (f ∷ es) (λ k a b less h g. next (suc k) a b (omega (arith, less)) h g) in
      (λ q t at. first_before e f es (next 0 e f (omega arith) refl refl) rest q t at, rest)

  -- one index more
  pub next_rises : (es : Order Args) (i j : ℕ) (a b : Place × Txn Args) → i ≡ suc j → slice_get es j ≡ Some a → slice_get es i ≡ Some b → IsBefore a.0 b.0 → NextRises es i → NextRises es (i + 1)
  next_rises es i j a b is there here before each k c d less h g = go (cases_lt (suc k) i)
    where
      go : (suc k < i) ⊎ (i ≤ suc k) → IsBefore c.0 d.0
      go (inl early) = each k c d early h g
      go (inr late) =
          let same : k ≡ j = omega (arith, late, less, is) in
          let next : suc k ≡ i = omega (arith, late, less) in
          let first : Some a ≡ Some c = sym there ∙ ap (slice_get es) (sym same) ∙ h in
          let second : Some b ≡ Some d = sym here ∙ ap (slice_get es) (sym next) ∙ g in
          let one : a ≡ c = cc in
          let other : b ≡ d = cc in
          subst (λ (y : (Place × Txn Args) × (Place × Txn Args)). IsBefore y.0.0 y.1.0) (λ i. (one i, other i)) before

  -- ---- epochs

  epoch_in : (es : Order Args) (i : ℕ) (e : Place × Txn Args) → slice_get es i ≡ Some e → e.0.epoch < epochs_of es
  epoch_in [] i e h = absurd (cc)
  epoch_in (a ∷ es) zero e h = let is : a ≡ e = cc in omega (arith, ap (λ (x : Place × Txn Args). x.0.epoch) is)
  epoch_in (a ∷ es) (suc i) e h = omega (arith, epoch_in es i e h)

  epochs_most : (es : Order Args) (n : ℕ) → ((i : ℕ) (e : Place × Txn Args) → slice_get es i ≡ Some e → e.0.epoch < n) → epochs_of es ≤ n
  epochs_most [] n each = omega arith
  epochs_most (a ∷ es) n each = omega (arith, each 0 a refl, epochs_most es n (λ i e h. each (suc i) e h))

  module _ (es : Order Args) (rises : Rises es) (last : Place × Txn Args) (at_last : slice_get es (length es - 1) ≡ Some last) where
    -- no epoch is later than the last one
    not_later : (i : ℕ) (e : Place × Txn Args) → slice_get es i ≡ Some e → e.0.epoch < suc last.0.epoch
    not_later i e h = go (cases_lt i (length es - 1))
      where
        go : (i < length es - 1) ⊎ (length es - 1 ≤ i) → e.0.epoch < suc last.0.epoch
        go (inl early) = let h = before_epoch e.0 last.0 (rises_at es rises i (length es - 1) e last early h at_last) in omega (arith, h)
        go (inr late) =
            let within = slice_get_within es i e h in
            let same : i ≡ length es - 1 = omega (arith, late, within) in
            let both : Some e ≡ Some last = sym h ∙ ap (slice_get es) same ∙ at_last in
            let one : e ≡ last = cc in
            omega (arith, ap (λ (x : Place × Txn Args). x.0.epoch) one)

    pub epochs_are : epochs_of es ≡ suc last.0.epoch
    epochs_are = let up = epochs_most es (suc last.0.epoch) not_later in let down = epoch_in es (length es - 1) last at_last in omega (arith, up, down)

    pub ends_last : (at : ℕ) → EndsAt es (suc last.0.epoch) at → take at es ≡ es
    ends_last at ends = take_all at es (go (cases_lt at (length es)))
      where
        go : (at < length es) ⊎ (length es ≤ at) → length es ≤ at
        go (inr past) = past
        go (inl early) =
            let here = slice_get-get_or es at last early in
            let more = ends.rest at _ (omega arith) here in
            let less = not_later at _ here in
            omega (arith, more, less)

  pub ends_first : (es : Order Args) → EndsAt es 0 0
  ends_first es = record { within = omega arith; below = λ i e less h. absurd (omega (arith, less)); rest = λ i e up h. omega arith }

  -- the requests of one more epoch end at an index
  pub ends_next : (es : Order Args) → Rises es → (n at end : ℕ) → EndsAt es n at → at ≤ end → end ≤ length es
      → ((i : ℕ) (e : Place × Txn Args) → at ≤ i → i < end → slice_get es i ≡ Some e → e.0.epoch ≡ n)
      → ((e : Place × Txn Args) → slice_get es end ≡ Some e → e.0.epoch ≡ n → ⊥)
      → EndsAt es (suc n) end
  ends_next es rises n at end ends after within same other = record {
    within = within;
    below = λ i e less h. below i e less h (cases_lt i at);
    rest = rest;
  }
    where
      below : (i : ℕ) (e : Place × Txn Args) → i < end → slice_get es i ≡ Some e → (i < at) ⊎ (at ≤ i) → e.0.epoch < suc n
      below i e less h (inl early) = omega (arith, ends.below i e early h)
      below i e less h (inr late) = omega (arith, same i e late less h)

      first : (e : Place × Txn Args) → slice_get es end ≡ Some e → suc n ≤ e.0.epoch
      first e h = go (cases_lt n e.0.epoch)
        where
          go : (n < e.0.epoch) ⊎ (e.0.epoch ≤ n) → suc n ≤ e.0.epoch
          go (inl up) = omega (arith, up)
          go (inr down) = let up = ends.rest end e after h in absurd (other e h (omega (arith, up, down)))

      rest : (i : ℕ) (e : Place × Txn Args) → end ≤ i → slice_get es i ≡ Some e → suc n ≤ e.0.epoch
      rest i e late h = go (cases_lt end i)
        where
          go : (end < i) ⊎ (i ≤ end) → suc n ≤ e.0.epoch
          go (inl less) =
              let here = slice_get-get_or es end e (let w = slice_get_within es i e h in omega (arith, w, less)) in
              let up = first _ here in
              let on = before_epoch _ e.0 (rises_at es rises end i _ e less here h) in
              omega (arith, up, on)
          go (inr more) = let same : i ≡ end = omega (arith, late, more) in first e (ap (slice_get es) (sym same) ∙ h)

  -- ---- what the requests of an epoch are

  all_by_index : (p : Place × Txn Args → Bool) (es : Order Args) → ((i : ℕ) (e : Place × Txn Args) → slice_get es i ≡ Some e → p e ≡ true) → list_all p es ≡ true
  all_by_index p [] each = refl
  all_by_index p (a ∷ es) each = both_true (p a) (list_all p es) (each 0 a refl) (all_by_index p es (λ i e h. each (suc i) e h))

  get_taken : (es : Order Args) (n i : ℕ) (e : Place × Txn Args) → slice_get (take n es) i ≡ Some e → (i < n) × (slice_get es i ≡ Some e)
  get_taken es zero i e h = absurd (cc)
  get_taken [] (suc n) i e h = absurd (cc)
  get_taken (a ∷ es) (suc n) zero e h = (omega arith, h)
  get_taken (a ∷ es) (suc n) (suc i) e h = let more = get_taken es n i e h in (omega (arith, more.0), more.1)

  get_dropped : (es : Order Args) (n i : ℕ) (e : Place × Txn Args) → slice_get (drop n es) i ≡ Some e → slice_get es (n + i) ≡ Some e
  get_dropped es zero i e h = ap (slice_get es) (omega arith) ∙ h
  get_dropped [] (suc n) i e h = absurd (cc)
  get_dropped (a ∷ es) (suc n) i e h = let next : suc n + i ≡ suc (n + i) = omega arith in ap (slice_get (a ∷ es)) next ∙ get_dropped es n i e h

  of_epoch : (es : Order Args) (n at end : ℕ) → EndsAt es n at → EndsAt es (suc n) end → list_all (λ (e : Place × Txn Args). e.0.epoch == n) (slice_range es at end) ≡ true
  of_epoch es n at end low high = all_by_index (λ (e : Place × Txn Args). e.0.epoch == n) (slice_range es at end) each
    where
      each : (i : ℕ) (e : Place × Txn Args) → slice_get (slice_range es at end) i ≡ Some e → (e.0.epoch == n) ≡ true
      each i e h =
          let taken = get_taken (drop at es) (end - at) i e h in
          let there = get_dropped es at i e taken.1 in
          let up = low.rest (at + i) e (omega arith) there in
          let down = high.below (at + i) e (let less = taken.0 in omega (arith, less)) there in
          let is : e.0.epoch ≡ n = omega (arith, up, down) in
          eq-eqb e.0.epoch n is

  joined : (es : Order Args) (at end : ℕ) → at ≤ end → take at es ++ slice_range es at end ≡ take end es
  joined es at end less = sym (take-add at (end - at) es) ∙ ap (λ n. take n es) (omega (arith, less))

module _ (Args Row : Type 0) where
  not_done : (q : Place) → is_done (opened {Args = Args} {Row = Row} (end_of 0) empty) q ≡ false
  not_done q = ap (λ b. b || turn_done (get (opened {Args = Args} {Row = Row} (end_of 0) empty).turns q)) early ∙ none
    where
      early : is_before q (end_of 0) ≡ false
      early = is_lt_false (place_cmp q (end_of 0)) (λ h. let less = before_end q 0 h in absurd (omega (arith, less)))

      none : turn_done (get (opened {Args = Args} {Row = Row} (end_of 0) empty).turns q) ≡ false
      none = ap turn_done (get-empty place_cmp q)

  all_left : (due : List Place) → left (opened {Args = Args} {Row = Row} (end_of 0) empty) due ≡ due
  all_left [] = refl
  all_left (q ∷ due) =
      let rest = left (opened {Args = Args} {Row = Row} (end_of 0) empty) due in
      ap (λ b. cond (not b) (q ∷ rest) rest) (not_done q) ∙ ap (λ ds. q ∷ ds) (all_left due)

module _ {Args Row : Type 0} where
  module _ (here : Site) (es : Order Args) (n at end : ℕ) (low : EndsAt es n at) (high : EndsAt es (suc n) end) (after : at ≤ end) where
    abbrev next : Scheduled Args Row
    next = record { here = here; scheduling = opened (end_of 0) empty; room = 0; merged = suc n; due = local_places here (take at es) ++ left (opened {Args = Args} {Row = Row} (end_of 0) empty) (local_places here (slice_range es at end)); due_room = 0 }

    next_is : next ≡ told_upto here es end (suc n)
    next_is =
        let due : local_places here (take at es) ++ left (opened {Args = Args} {Row = Row} (end_of 0) empty) (local_places here (slice_range es at end)) ≡ local_places here (take end es) =
        ap (λ ds. local_places here (take at es) ++ ds) (all_left Args Row (local_places here (slice_range es at end)))
        ∙ sym (local_joined here (take at es) (slice_range es at end)) ∙ ap (local_places here) (joined es at end after) in
        λ i. record { here = here; scheduling = opened (end_of 0) empty; room = 0; merged = suc n; due = due i; due_room = 0 }

    merges : merge n (slice_range es at end) (told_upto {Row = Row} here es at n) ≡ Does next tt
    merges = λ i. cond (test i) (Does next tt) (Refuses fault.AdmittedOutOfOrder)
      where
        test : ((n == n) && list_all (λ (e : Place × Txn Args). e.0.epoch == n) (slice_range es at end)) ≡ true
        test = both_true (n == n) (list_all (λ (e : Place × Txn Args). e.0.epoch == n) (slice_range es at end)) (eq-eqb n n refl) (of_epoch es n at end low high)

    -- the scheduler is told
    pub told_next : (grows : Bool) (out : Unit {0}) (old new : Scheduled Args Row) → old ≡ told_upto here es at n → Did grows (Ok out) (merge n (slice_range es at end) old) old new → new ≡ told_upto here es end (suc n)
    told_next grows out old new is did =
        let d = subst (λ (s : Scheduled Args Row). Did grows (Ok out) (merge n (slice_range es at end) s) s new) is did in
        let e = subst (λ x. Did grows (Ok out) x (told_upto here es at n) new) merges d in e.1 ∙ next_is

    pub told_refused : (grows : Bool) (f : Fault) (old new : Scheduled Args Row) → old ≡ told_upto here es at n → Did grows (Err f) (merge n (slice_range es at end) old) old new → f ≡ fault.OutOfMemory
    told_refused grows f old new is did =
        let d = subst (λ (s : Scheduled Args Row). Did grows (Err f) (merge n (slice_range es at end) s) s new) is did in
        let e = subst (λ x. Did grows (Err f) x (told_upto here es at n) new) merges d in e.1

-- a place that isn't before the next one
pub not_rising : {Args : Type 0} (es : Order Args) → Rises es → (i j : ℕ) (a b : Place × Txn Args) → i ≡ suc j → slice_get es j ≡ Some a → slice_get es i ≡ Some b → is_before a.0 b.0 ≡ false → ⊥
not_rising es rises i j a b is there here not = let less : j < i = omega (arith, is) in let h = rises_at es rises j i a b less there here in false≢true (sym not ∙ ap is_lt h)

module _ {Args : Type 0} (es : Order Args) (n : ℕ) where
  pub other_epoch : (i : ℕ) (a : Place × Txn Args) → slice_get es i ≡ Some a → (a.0.epoch ≡ n → ⊥) → (e : Place × Txn Args) → slice_get es i ≡ Some e → e.0.epoch ≡ n → ⊥
  other_epoch i a there not e h same = let both : Some a ≡ Some e = sym there ∙ h in let one : a ≡ e = cc in not (ap (λ (x : Place × Txn Args). x.0.epoch) one ∙ same)

  -- one more is of the epoch
  pub of_epoch_more : (at i : ℕ) (a : Place × Txn Args) → slice_get es i ≡ Some a → a.0.epoch ≡ n → ((k : ℕ) (e : Place × Txn Args) → at ≤ k → k < i → slice_get es k ≡ Some e → e.0.epoch ≡ n)
      → (k : ℕ) (e : Place × Txn Args) → at ≤ k → k < i + 1 → slice_get es k ≡ Some e → e.0.epoch ≡ n
  of_epoch_more at i a there is each k e low high h = go (cases_lt k i)
    where
      go : (k < i) ⊎ (i ≤ k) → e.0.epoch ≡ n
      go (inl early) = each k e low early h
      go (inr late) =
          let same : k ≡ i = omega (arith, late, high) in
          let both : Some a ≡ Some e = sym there ∙ ap (slice_get es) (sym same) ∙ h in
          let one : a ≡ e = cc in
          sym (ap (λ (x : Place × Txn Args). x.0.epoch) one) ∙ is

module _ {Args Row : Type 0} where
  pub told_here : (s : Scheduled Args Row) (here : Site) (es : Order Args) (at n : ℕ) → s ≡ told_upto here es at n → s.here ≡ here
  told_here s here es at n is = ap (λ (s : Scheduled Args Row). s.here) is

  -- all of a scheduler that was told everything
  pub told_all : (es : Order Args) → Rises es → (last : Place × Txn Args) → slice_get es (length es - 1) ≡ Some last → (old : Scheduled Args Row) → old ≡ told_upto old.here es 0 0 → (at : ℕ) → EndsAt es (suc last.0.epoch) at
      → (new : Scheduled Args Row) → new ≡ told_upto old.here es at (suc last.0.epoch) → new ≡ record old { merged = epochs_of es; due = local_places old.here es }
  told_all es rises last there old untold at ends new told =
      let count : suc last.0.epoch ≡ epochs_of es = sym (epochs_are es rises last there) in
      let due : local_places old.here (take at es) ≡ local_places old.here es = ap (local_places old.here) (ends_last es rises last there at ends) in
      told ∙ (λ i. record { here = old.here; scheduling = (sym untold i).scheduling; room = (sym untold i).room; merged = count i; due = due i; due_room = (sym untold i).due_room })
