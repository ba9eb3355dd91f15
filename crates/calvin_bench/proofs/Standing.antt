-- What the test of standing says.
use Rattle.std.proofs.Common.{◌≡◌, ℕ, ◌≤◌, ◌<◌, Bool, true, false, cond, ◌&&◌, ◌||◌, inl, inr, ◌⊎◌, List, [], ◌∷◌, ◌++◌, Option, Some, None, refl, sym, ap, subst, ◌∙◌, arith, map}
use Rattle.std.specs.Prelude.{nat_le}
use Rattle.std.specs.List.{Contains, list_all, filter}
use Rattle.std.specs.FinMap.{get}
use Rattle.std.proofs.lemmas.Bool.{false≢true, or_cases, or_right, and_parts, cases_lt}
use Rattle.calvin_types.specs.declared.place.Place.{Place}
use Rattle.calvin_types.specs.declared.txn.Txn.{Txn}
use Rattle.calvin_types.specs.Orders.{Order, StandsAt}
use Rattle.calvin_types.specs.Participants.{Site, has_local_key}
use Rattle.calvin_types.specs.Places.{place_cmp, IsBefore}
use Rattle.calvin_order.proofs.Places.{before_end}
use Rattle.calvin_sched.specs.declared.phase.Phase.{Phase}
use Rattle.calvin_sched.specs.declared.phase.Phase.TheVariants.{Waiting, Begun, Done}
use Rattle.calvin_sched.specs.Scheduling.{Turn, Scheduling, is_before, is_finished, turn_done, turn_at, is_done}
use Rattle.calvin_sched.specs.Standing.{local_places, none_done_from, all_done, stands}
use Rattle.calvin_sched.proofs.Readiness.{none_passes, both_true}
use Rattle.calvin_bench.specs.Turns.{IsDone}
use Rattle.calvin_bench.proofs.Placing.{is_lt_true}
use Rattle.calvin_bench.proofs.Lists.{none_in, first_or_rest, rest_too, first_in}

-- what passes for all of a list passes for each
pub all_in : {X : Type 0} (p : X → Bool) (xs : List X) (x : X) → list_all p xs ≡ true → Contains xs x → p x ≡ true
all_in p [] x all c = absurd (none_in x c)
all_in p (a ∷ xs) x all c =
    let both = and_parts (p a) (list_all p xs) all in
    elim (first_or_rest a xs x c) [ inl is ↦ ap p (sym is) ∙ both.0 | inr more ↦ all_in p xs x both.1 more ]

-- a request with a key here has its place among the local ones
pub local_in : {Args : Type 0} (here : Site) (order : Order Args) (q : Place) (t : Txn Args) → StandsAt order q t → has_local_key here t ≡ true → Contains (local_places here order) q
local_in here [] q t at local = absurd at
local_in {Args} here (e ∷ es) q t at local = go (has_local_key here e.1) refl at (λ at. local_in here es q t at local)
  where
    go : (b : Bool) → has_local_key here e.1 ≡ b → StandsAt (e ∷ es) q t → (StandsAt es q t → Contains (local_places here es) q) → Contains (map (λ (e : Place × Txn Args). e.0) (cond b (e ∷ filter (λ e. has_local_key here e.1) es) (filter (λ e. has_local_key here e.1) es))) q
    go true l (inl same) rest = subst (λ p. Contains (e.0 ∷ local_places here es) p) same.0 (first_in e.0 (local_places here es))
    go true l (inr more) rest = rest_too e.0 (local_places here es) q (rest more)
    go false l (inl same) rest = absurd (false≢true (sym l ∙ ap (has_local_key here) same.1 ∙ local))
    go false l (inr more) rest = rest more

-- the local places of two orders, one after the other
pub local_joined : {Args : Type 0} (here : Site) (xs ys : Order Args) → local_places here (xs ++ ys) ≡ local_places here xs ++ local_places here ys
local_joined here [] ys = refl
local_joined {Args} here (e ∷ xs) ys = go (has_local_key here e.1) (local_joined here xs ys)
  where
    go : (b : Bool) → local_places here (xs ++ ys) ≡ local_places here xs ++ local_places here ys → map (λ (e : Place × Txn Args). e.0) (cond b (e ∷ filter (λ e. has_local_key here e.1) (xs ++ ys)) (filter (λ e. has_local_key here e.1) (xs ++ ys))) ≡ map (λ (e : Place × Txn Args). e.0) (cond b (e ∷ filter (λ e. has_local_key here e.1) xs) (filter (λ e. has_local_key here e.1) xs)) ++ local_places here ys
    go true rest = ap (λ ps. e.0 ∷ ps) rest
    go false rest = rest

nat_le_is : (a b : ℕ) → nat_le a b ≡ true → a ≤ b
nat_le_is a b h = grind arith

nat_le_not : (a b : ℕ) → b < a → nat_le a b ≡ false
nat_le_not a b h = grind arith

le_nat_le : (a b : ℕ) → a ≤ b → nat_le a b ≡ true
le_nat_le a b h = grind arith

module _ {Args Row : Type 0} (s : Scheduling Args Row) where
  pub done_is : (q : Place) → is_done s q ≡ true → IsDone s q
  done_is q h = elim (or_cases (is_before q s.opened_from) (turn_done (turn_at s q)) h) [
    | inl before ↦ inl (is_lt_true (place_cmp q s.opened_from) before)
    | inr done ↦ inr (by_turn (turn_at s q) refl done)
  ]
    where
      by_phase : (f : Phase) → is_finished f ≡ true → f ≡ Done
      by_phase Waiting d = absurd (false≢true d)
      by_phase Begun d = absurd (false≢true d)
      by_phase Done d = refl

      by_turn : (o : Option (Turn Args Row)) → turn_at s q ≡ o → turn_done o ≡ true → (x : Turn Args Row) × (get s.turns q ≡ Some x) × (x.phase ≡ Done)
      by_turn None is d = absurd (false≢true d)
      by_turn (Some x) is d = (x, is, by_phase x.phase d)

  pub is_done_of : (q : Place) (x : Turn Args Row) → get s.turns q ≡ Some x → x.phase ≡ Done → is_done s q ≡ true
  is_done_of q x has d = or_right (is_before q s.opened_from) (turn_done (turn_at s q)) (ap turn_done has ∙ ap is_finished d)

  pub record StandsHere (merged : ℕ) (due : List Place) (n : ℕ) : Type 0 where
    pub merged_all : n ≤ merged
    pub not_older : s.opened_from.epoch ≤ n
    pub done_before : (q : Place) → Contains due q → q.epoch < n → IsDone s q
    pub none_later : s.opened_from.n ≡ 0 → (q : Place) → IsDone s q → q.epoch < n

  -- the first n epochs are merged and done
  pub record DoneHere (merged : ℕ) (due : List Place) (n : ℕ) : Type 0 where
    pub merged_all : n ≤ merged
    pub done_before : (q : Place) → Contains due q → q.epoch < n → IsDone s q

  done_early : (due : List Place) (n : ℕ) → list_all (λ q. nat_le n q.epoch || is_done s q) due ≡ true → (q : Place) → Contains due q → q.epoch < n → IsDone s q
  done_early due n all q c early = done_is q (ap (λ b. b || is_done s q) (sym (nat_le_not n q.epoch early)) ∙ all_in (λ q. nat_le n q.epoch || is_done s q) due q all c)

  pub done_all : (merged : ℕ) (due : List Place) (n : ℕ) → all_done s merged due n ≡ true → DoneHere merged due n
  done_all merged due n h = let both = and_parts (nat_le n merged) (list_all (λ q. nat_le n q.epoch || is_done s q) due) h in record { merged_all = nat_le_is n merged both.0; done_before = done_early due n both.1 }

  -- nothing is done of a later epoch
  pub all_earlier : (n : ℕ) → nat_le s.opened_from.epoch n ≡ true → s.opened_from.n ≡ 0 → none_done_from s n ≡ true → (q : Place) → IsDone s q → q.epoch < n
  all_earlier n upto end none q (inl first) = let older = nat_le_is s.opened_from.epoch n upto in let less = before_end q s.opened_from.epoch (subst (λ k. IsBefore q (record { epoch = s.opened_from.epoch; n = k })) end first) in omega (arith, less, older)
  all_earlier n upto end none q (inr (x, has, d)) = go (cases_lt q.epoch n)
    where
      go : (q.epoch < n) ⊎ (n ≤ q.epoch) → q.epoch < n
      go (inl less) = less
      go (inr up) = absurd (false≢true (sym (none_passes s.turns (λ q. nat_le n q.epoch && is_done s q) none q x has) ∙ both_true (nat_le n q.epoch) (is_done s q) (le_nat_le n q.epoch up) (is_done_of q x has d)))

  pub stands_is : (merged : ℕ) (due : List Place) (n : ℕ) → stands s merged due n ≡ true → StandsHere merged due n
  stands_is merged due n h =
      let in_time = list_all (λ q. nat_le n q.epoch || is_done s q) due in
      let three = and_parts ((nat_le n merged && nat_le s.opened_from.epoch n) && in_time) (none_done_from s n) h in
      let two = and_parts (nat_le n merged && nat_le s.opened_from.epoch n) in_time three.0 in
      let one = and_parts (nat_le n merged) (nat_le s.opened_from.epoch n) two.0 in
      record {
        merged_all = nat_le_is n merged one.0;
        not_older = nat_le_is s.opened_from.epoch n one.1;
        done_before = done_early due n two.1;
        none_later = λ end. all_earlier n one.1 end three.1;
      }
