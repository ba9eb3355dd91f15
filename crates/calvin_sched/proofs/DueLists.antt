-- Lists of places that are due: what is dropped of them, and their epochs.
use Rattle.std.proofs.Common.{◌≡◌, ℕ, suc, ◌+◌, ◌≤◌, ◌<◌, Bool, true, false, cond, not, ◌&&◌, ◌||◌, List, [], ◌∷◌, ◌++◌, length, length-append, take, drop, Option, Some, None, slice_get, refl, sym, ap, subst, ◌∙◌, arith}
use Rattle.std.proofs.lemmas.Bool.{false≢true, and_parts, or_left, or_right, eqb-true}
use Rattle.std.proofs.lemmas.List.{append-nil, map-append, take-append-drop}
use Rattle.std.proofs.lemmas.List.Elements.{filter-append}
use Rattle.std.specs.Prelude.{◌==◌, map}
use Rattle.std.specs.List.{filter, list_all, list_any}
use Rattle.std.specs.Option.{option_to_list}
use Rattle.calvin_types.specs.declared.place.Place.{Place}
use Rattle.calvin_types.specs.declared.txn.Txn.{Txn}
use Rattle.calvin_types.specs.Orders.{Order}
use Rattle.calvin_types.specs.Participants.{Site, has_local_key}
use Rattle.calvin_types.proofs.Fews.{take_at}
use Rattle.calvin_sched.specs.Standing.{local_places}
use Rattle.calvin_sched.specs.Progress.{from_left, passes_first, Climbs}

module _ (p : Place → Bool) where
  -- what is dropped is done
  pub left_of_from : (qs : List Place) → filter (λ q. not (p q)) (from_left p qs) ≡ filter (λ q. not (p q)) qs
  left_of_from [] = refl
  left_of_from (q ∷ qs) = go (p q) refl (left_of_from qs)
    where
      go : (b : Bool) → p q ≡ b → filter (λ r. not (p r)) (from_left p qs) ≡ filter (λ r. not (p r)) qs → filter (λ r. not (p r)) (cond b (from_left p qs) (q ∷ qs)) ≡ filter (λ r. not (p r)) (q ∷ qs)
      go true e rest = rest ∙ sym (ap (λ b. cond (not b) (q ∷ filter (λ r. not (p r)) qs) (filter (λ r. not (p r)) qs)) e)
      go false e rest = refl

  -- what passes more is left of no more
  pub left_of_left : (r : Place → Bool) → ((q : Place) → p q ≡ true → r q ≡ true) → (qs : List Place) → filter (λ q. not (r q)) (filter (λ q. not (p q)) qs) ≡ filter (λ q. not (r q)) qs
  left_of_left r more [] = refl
  left_of_left r more (q ∷ qs) = go (p q) refl (left_of_left r more qs)
    where
      go : (b : Bool) → p q ≡ b → filter (λ n. not (r n)) (filter (λ n. not (p n)) qs) ≡ filter (λ n. not (r n)) qs
          → filter (λ n. not (r n)) (cond (not b) (q ∷ filter (λ n. not (p n)) qs) (filter (λ n. not (p n)) qs)) ≡ filter (λ n. not (r n)) (q ∷ qs)
      go true e rest = rest ∙ sym (ap (λ b. cond (not b) (q ∷ filter (λ n. not (r n)) qs) (filter (λ n. not (r n)) qs)) (more q e))
      go false e rest = ap (λ l. cond (not (r q)) (q ∷ l) l) rest

  pub left_same : (r : Place → Bool) → ((q : Place) → p q ≡ r q) → (qs : List Place) → filter (λ q. not (p q)) qs ≡ filter (λ q. not (r q)) qs
  left_same r same qs = λ i. filter (λ q. not (same q i)) qs

  -- the first one isn't done
  pub first_of_from : (qs : List Place) → passes_first p (from_left p qs) ≡ false
  first_of_from [] = refl
  first_of_from (q ∷ qs) = go (p q) refl (first_of_from qs)
    where
      go : (b : Bool) → p q ≡ b → passes_first p (from_left p qs) ≡ false → passes_first p (cond b (from_left p qs) (q ∷ qs)) ≡ false
      go true e rest = rest
      go false e rest = e

  -- nothing goes where the first one isn't done; and the same where it is
  pub none_goes : (qs : List Place) → passes_first p qs ≡ false → from_left p qs ≡ qs
  none_goes [] h = refl
  none_goes (q ∷ qs) h = ap (λ b. cond b (from_left p qs) (q ∷ qs)) h

  pub first_goes : (q : Place) (qs : List Place) → p q ≡ true → from_left p (q ∷ qs) ≡ from_left p qs
  first_goes q qs h = ap (λ b. cond b (from_left p qs) (q ∷ qs)) h

  -- the first one is taken out, as it is done
  pub popped : (o : Option Place) (xs ys : List Place) → xs ≡ option_to_list o ++ ys → passes_first p xs ≡ true → from_left p ys ≡ from_left p xs
  popped None xs ys e h = ap (from_left p) (sym e)
  popped (Some q) xs ys e h = sym (ap (from_left p) e ∙ first_goes q ys (sym (ap (passes_first p) e) ∙ h))

  pub some_first : (xs : List Place) → passes_first p xs ≡ true → 0 < length xs
  some_first [] h = absurd (false≢true h)
  some_first (q ∷ xs) h = omega arith

pub climbs_high : (low high : ℕ) (qs : List Place) → Climbs low high qs → low ≤ high
climbs_high low high [] c = c
climbs_high low high (q ∷ qs) c = omega (arith, c.0, climbs_high q.epoch high qs c.1)

-- a lower bound may be lower, and the first one may go
pub climbs_lower : (low less high : ℕ) (qs : List Place) → less ≤ low → Climbs low high qs → Climbs less high qs
climbs_lower low less high [] le c = omega (arith, le, c)
climbs_lower low less high (q ∷ qs) le c = (omega (arith, le, c.0), c.1)

pub climbs_from : (p : Place → Bool) (low high : ℕ) (qs : List Place) → Climbs low high qs → Climbs low high (from_left p qs)
climbs_from p low high [] c = c
climbs_from p low high (q ∷ qs) c = go (p q) (climbs_from p q.epoch high qs c.1)
  where
    go : (b : Bool) → Climbs q.epoch high (from_left p qs) → Climbs low high (cond b (from_left p qs) (q ∷ qs))
    go true rest = climbs_lower q.epoch low high (from_left p qs) c.0 rest
    go false rest = c

-- places of the next epoch follow
pub climbs_next : (low high : ℕ) (qs : List Place) → low ≤ high → list_all (λ q. q.epoch == high) qs ≡ true → Climbs low (suc high) qs
climbs_next low high [] le all = omega (arith, le)
climbs_next low high (q ∷ qs) le all =
    let both = and_parts (q.epoch == high) (list_all (λ q. q.epoch == high) qs) all in
    let at : q.epoch ≡ high = eqb-true q.epoch high both.0 in
    (omega (arith, le, at), climbs_next q.epoch high qs (omega (arith, at)) both.1)

pub climbs_more : (low high : ℕ) (qs more : List Place) → Climbs low high qs → list_all (λ q. q.epoch == high) more ≡ true → Climbs low (suc high) (qs ++ more)
climbs_more low high [] more c all = climbs_next low high more c all
climbs_more low high (q ∷ qs) more c all = (c.0, climbs_more q.epoch high qs more c.1 all)

module _ {Args : Type 0} (here : Site) where
  -- the places of one request more
  places_more : (order : Order Args) (i : ℕ) (e : Place × Txn Args) → slice_get order i ≡ Some e → local_places here (take (i + 1) order) ≡ local_places here (take i order) ++ local_places here (e ∷ [])
  places_more order i e at =
      ap (local_places here) (take_at order i e at) ∙ ap (map (λ f. f.0)) (filter-append (λ f. has_local_key here f.1) (take i order) (e ∷ []))
      ∙ map-append (λ f. f.0) (filter (λ f. has_local_key here f.1) (take i order)) (filter (λ f. has_local_key here f.1) (e ∷ []))

  pub places_kept : (order : Order Args) (i : ℕ) (e : Place × Txn Args) → slice_get order i ≡ Some e → has_local_key here e.1 ≡ true → local_places here (take (i + 1) order) ≡ local_places here (take i order) ++ e.0 ∷ []
  places_kept order i e at h = places_more order i e at ∙ ap (λ b. local_places here (take i order) ++ map (λ (f : Place × Txn Args). f.0) (cond b (e ∷ []) [])) h

  pub places_passed : (order : Order Args) (i : ℕ) (e : Place × Txn Args) → slice_get order i ≡ Some e → has_local_key here e.1 ≡ false → local_places here (take (i + 1) order) ≡ local_places here (take i order)
  places_passed order i e at h = places_more order i e at ∙ ap (λ b. local_places here (take i order) ++ map (λ (f : Place × Txn Args). f.0) (cond b (e ∷ []) [])) h ∙ append-nil (local_places here (take i order))

  -- the places of the first ones are no more than those of all
  pub fewer_places : (order : Order Args) (i : ℕ) → length (local_places here (take i order)) ≤ length (local_places here order)
  fewer_places order i =
      let all : local_places here order ≡ local_places here (take i order) ++ local_places here (drop i order) =
      ap (local_places here) (sym (take-append-drop i order)) ∙ ap (map (λ f. f.0)) (filter-append (λ f. has_local_key here f.1) (take i order) (drop i order))
      ∙ map-append (λ f. f.0) (filter (λ f. has_local_key here f.1) (take i order)) (filter (λ f. has_local_key here f.1) (drop i order)) in
      omega (arith, ap length all, length-append (local_places here (take i order)) (local_places here (drop i order)))

  -- there are no more than requests
  pub places_at_most : (order : Order Args) → length (local_places here order) ≤ length order
  places_at_most [] = omega arith
  places_at_most (e ∷ order) = go (has_local_key here e.1) (places_at_most order)
    where
      go : (b : Bool) → length (local_places here order) ≤ length order
          → length (map (λ (f : Place × Txn Args). f.0) (cond b (e ∷ filter (λ f. has_local_key here f.1) order) (filter (λ f. has_local_key here f.1) order))) ≤ length (e ∷ order)
      go true le = omega (arith, le)
      go false le = omega (arith, le)

  -- there are some where a request has a key here
  pub some_local : (order : Order Args) → 0 < length (local_places here order) → list_any (λ e. has_local_key here e.1) order ≡ true
  some_local [] h = absurd (omega (arith, h))
  some_local (e ∷ order) h = go (has_local_key here e.1) refl (some_local order)
    where
      go : (b : Bool) → has_local_key here e.1 ≡ b → (0 < length (local_places here order) → list_any (λ f. has_local_key here f.1) order ≡ true) → (has_local_key here e.1 || list_any (λ f. has_local_key here f.1) order) ≡ true
      go true is rest = or_left (has_local_key here e.1) (list_any (λ f. has_local_key here f.1) order) is
      go false is rest = or_right (has_local_key here e.1) (list_any (λ f. has_local_key here f.1) order)
          (rest (subst (λ b. 0 < length (map (λ (f : Place × Txn Args). f.0) (cond b (e ∷ filter (λ f. has_local_key here f.1) order) (filter (λ f. has_local_key here f.1) order)))) is h))

  -- the places of requests of one epoch are of that epoch
  pub places_of_epoch : (epoch : ℕ) (order : Order Args) → list_all (λ e. e.0.epoch == epoch) order ≡ true → list_all (λ q. q.epoch == epoch) (local_places here order) ≡ true
  places_of_epoch epoch [] all = refl
  places_of_epoch epoch (e ∷ order) all = let both = and_parts (e.0.epoch == epoch) (list_all (λ f. f.0.epoch == epoch) order) all in go (has_local_key here e.1) both.0 (places_of_epoch epoch order both.1)
    where
      go : (b : Bool) → (e.0.epoch == epoch) ≡ true → list_all (λ q. q.epoch == epoch) (local_places here order) ≡ true
          → list_all (λ q. q.epoch == epoch) (map (λ (f : Place × Txn Args). f.0) (cond b (e ∷ filter (λ f. has_local_key here f.1) order) (filter (λ f. has_local_key here f.1) order))) ≡ true
      go true first rest = ap (λ b. b && list_all (λ q. q.epoch == epoch) (local_places here order)) first ∙ rest
      go false first rest = rest
