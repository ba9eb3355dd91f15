-- At the end of which epochs a scheduler stands, by what it keeps.
use Rattle.std.proofs.Common.{◌≡◌, ℕ, zero, suc, ◌+◌, ◌≤◌, ◌<◌, Bool, true, false, cond, not, ◌&&◌, ◌||◌, ◌⊎◌, inl, inr, List, [], ◌∷◌, Option, Some, None, refl, sym, ap, ◌∙◌, arith}
use Rattle.std.proofs.lemmas.Bool.{false≢true, and_parts, or_cases, or_left, or_right, le-leb, leb-true, ltb-true, ltb-false}
use Rattle.std.specs.Prelude.{◌==◌, nat_le, nat_lt}
use Rattle.std.specs.Cmp.{both_ways}
use Rattle.std.specs.List.{list_all}
use Rattle.std.specs.declared.cmp.Ordering.TheVariants.{Less, Equal, Greater}
use Rattle.std.specs.Ordering.{is_lt, ordering_then}
use Rattle.std.specs.FinMap.{FinMap, get}
use Rattle.calvin_types.specs.declared.place.Place.{Place}
use Rattle.calvin_types.specs.Places.{place_cmp}
use Rattle.calvin_app.specs.Stores.{Store}
use Rattle.calvin_order.specs.Merged.{end_of}
use Rattle.calvin_sched.specs.Scheduling.{Turn, Scheduling, is_before, is_done, turn_done}
use Rattle.calvin_sched.specs.Standing.{stands, stands_at, all_done, none_done_from, greatest_below}
use Rattle.calvin_sched.specs.Keeping.{Kept, turns_of, scheduling_of}
use Rattle.calvin_sched.specs.Progress.{left, passes_first, end_of_due, Climbs, IsProgress}
use Rattle.calvin_sched.proofs.DueLists.{climbs_high}
use Rattle.calvin_sched.proofs.Readiness.{none_passes, none_kept, both_true}

-- ---- the greatest number below a bound that passes

pub none_below : (p : ℕ → Bool) (n : ℕ) → ((k : ℕ) → k < n → p k ≡ false) → greatest_below p n ≡ None
none_below p zero none = refl
none_below p (suc n) none = ap (λ b. cond b (Some n) (greatest_below p n)) (none n (omega arith)) ∙ none_below p n (λ k less. none k (omega (arith, less)))

pub greatest_is : (p : ℕ → Bool) (n k : ℕ) → k < n → p k ≡ true → ((j : ℕ) → k < j → j < n → p j ≡ false) → greatest_below p n ≡ Some k
greatest_is p zero k less is none = absurd (omega (arith, less))
greatest_is p (suc n) k less is none = by_last (p n) refl (λ below. greatest_is p n k below is (λ j past far. none j past (omega (arith, far))))
  where
    by_last : (b : Bool) → p n ≡ b → (k < n → greatest_below p n ≡ Some k) → cond (p n) (Some n) (greatest_below p n) ≡ Some k
    by_last true e rest =
        let not_past : k < n → ⊥ = λ past. false≢true (sym (none n past (omega arith)) ∙ e) in
        let same : n ≡ k = omega (arith, less, not_past) in
        ap (λ b. cond b (Some n) (greatest_below p n)) e ∙ ap Some same
    by_last false e rest =
        let far : n ≡ k → ⊥ = λ same. false≢true (sym e ∙ ap p same ∙ is) in
        ap (λ b. cond b (Some n) (greatest_below p n)) e ∙ rest (omega (arith, less, far))

-- ---- places of earlier epochs

by_tests : (b d f e : Bool) → is_lt (ordering_then (cond b Less (cond d Equal Greater)) (cond f Less (cond e Equal Greater))) ≡ true → (b ≡ true) ⊎ (f ≡ true)
by_tests true d f e h = inl refl
by_tests false true true e h = inr refl
by_tests false true false true h = absurd (false≢true h)
by_tests false true false false h = absurd (false≢true h)
by_tests false false f e h = absurd (false≢true h)

-- a place before the end of some epochs is of one of them
before_end : (q : Place) (n : ℕ) → is_before q (end_of n) ≡ true → q.epoch < n
before_end q n h = elim (by_tests (nat_lt q.epoch n) (q.epoch == n) (nat_lt q.n 0) (q.n == 0) h) [
  | inl less ↦ ltb-true q.epoch n less
  | inr none ↦ absurd (omega (arith, ltb-true q.n 0 none))
]

module _ {Args Row : Type 0} (opened : ℕ) (last : Option Place) (kept : FinMap {K = Place} place_cmp (Kept Args Row)) (store : Store Row) (merged done : ℕ) (due : List Place)
    (is : IsProgress opened last (turns_of kept) merged done due) where
  abbrev s : Scheduling Args Row
  s = scheduling_of opened last kept store

  abbrev tested : ℕ → Place → Bool
  tested n q = nat_le n q.epoch || is_done s q

  undone_from : (n : ℕ) → opened ≤ n → done ≤ n → (q : Place) (x : Turn Args Row) → get s.turns q ≡ Some x → (nat_le n q.epoch && is_done s q) ≡ false
  undone_from n le most q x there = go (nat_le n q.epoch && is_done s q) refl
    where
      go : (b : Bool) → (nat_le n q.epoch && is_done s q) ≡ b → b ≡ false
      go false e = refl
      go true e =
          let both = and_parts (nat_le n q.epoch) (is_done s q) e in
          let late : n ≤ q.epoch = leb-true n q.epoch both.0 in
          elim (or_cases (is_before q s.opened_from) (turn_done (get s.turns q)) both.1) [
            | inl early ↦ absurd (omega (arith, late, le, before_end q opened early))
            | inr finished ↦ absurd (omega (arith, late, most, is.below q x there (ap turn_done (sym there) ∙ finished)))
          ]

  bound_of : (n : ℕ) → none_done_from s n ≡ true → done ≤ n
  bound_of n none = go (nat_lt n done) refl
    where
      go : (b : Bool) → nat_lt n done ≡ b → done ≤ n
      go false e = ltb-false n done e
      go true e =
          let less : n < done = ltb-true n done e in
          let some = is.reached (omega (arith, less)) in
          let finished : is_done s some.0 ≡ true = or_right (is_before some.0 s.opened_from) (turn_done (get s.turns some.0)) (ap turn_done some.2 ∙ some.3) in
          absurd (false≢true (sym (none_passes s.turns (λ q. nat_le n q.epoch && is_done s q) none some.0 some.1 some.2) ∙ both_true (nat_le n some.0.epoch) (is_done s some.0) (le-leb n some.0.epoch (omega (arith, less, some.4))) finished))

  -- what isn't done of later places is of no earlier epoch
  later : (n low : ℕ) (qs : List Place) → n ≤ low → Climbs low merged qs → list_all (tested n) (left s qs) ≡ true
  later n low [] le c = refl
  later n low (q ∷ qs) le c = go (is_done s q) (later n q.epoch qs (omega (arith, le, c.0)) c.1)
    where
      go : (b : Bool) → list_all (tested n) (left s qs) ≡ true → list_all (tested n) (cond (not b) (q ∷ left s qs) (left s qs)) ≡ true
      go true rest = rest
      go false rest = both_true (tested n q) (list_all (tested n) (left s qs)) (or_left (nat_le n q.epoch) (is_done s q) (le-leb n q.epoch (omega (arith, le, c.0)))) rest

  -- where the first place isn't done, all that isn't done is from its epoch on
  up_to_first : (n : ℕ) (qs : List Place) → passes_first (is_done s) qs ≡ false → list_all (tested n) (left s qs) ≡ true → n ≤ merged → n ≤ end_of_due merged qs
  up_to_first n [] first all le = le
  up_to_first n (q ∷ qs) first all le =
      let parts = and_parts (tested n q) (list_all (tested n) (left s qs)) (sym (ap (λ b. list_all (tested n) (cond (not b) (q ∷ left s qs) (left s qs))) first) ∙ all) in
      elim (or_cases (nat_le n q.epoch) (is_done s q) parts.0) [
        | inl upto ↦ leb-true n q.epoch upto
        | inr finished ↦ absurd (false≢true (sym first ∙ finished))
      ]

  pub end_merged : end_of_due merged due ≤ merged
  end_merged = go due is.climbs
    where
      go : (qs : List Place) → Climbs 0 merged qs → end_of_due merged qs ≤ merged
      go [] c = omega arith
      go (q ∷ qs) c = climbs_high q.epoch merged qs c.1

  none_later : (n : ℕ) → n ≤ end_of_due merged due → list_all (tested n) (left s due) ≡ true
  none_later n le = go due is.climbs le
    where
      go : (qs : List Place) → Climbs 0 merged qs → n ≤ end_of_due merged qs → list_all (tested n) (left s qs) ≡ true
      go [] c le = refl
      go (q ∷ qs) c le = later n n (q ∷ qs) (omega arith) (le, c.1)

  stands_of : (n : ℕ) → stands s merged (left s due) n ≡ true → (opened ≤ n) × (done ≤ n) × (n ≤ end_of_due merged due)
  stands_of n h =
      let d = and_parts ((nat_le n merged && nat_le opened n) && list_all (tested n) (left s due)) (none_done_from s n) h in
      let c = and_parts (nat_le n merged && nat_le opened n) (list_all (tested n) (left s due)) d.0 in
      let b = and_parts (nat_le n merged) (nat_le opened n) c.0 in
      (leb-true opened n b.1, bound_of n d.1, up_to_first n due is.first c.1 (leb-true n merged b.0))

  stands_there : (n : ℕ) → opened ≤ n → done ≤ n → n ≤ end_of_due merged due → stands s merged (left s due) n ≡ true
  stands_there n le most upto =
      both_true ((nat_le n merged && nat_le opened n) && list_all (tested n) (left s due)) (none_done_from s n)
      (both_true (nat_le n merged && nat_le opened n) (list_all (tested n) (left s due))
      (both_true (nat_le n merged) (nat_le opened n) (le-leb n merged (omega (arith, upto, end_merged))) (le-leb opened n le))
      (none_later n upto))
      (none_kept (turns_of kept) (λ q. nat_le n q.epoch && is_done s q) (λ q x there. undone_from n le most q x there))

  -- whether it stands at the end of so many epochs, whether these are done, and whether nothing later is
  pub stands_is : (n : ℕ) → stands s merged (left s due) n ≡ (nat_le n (end_of_due merged due) && (nat_le opened n && nat_le done n))
  stands_is n = both_ways _ _
      (λ h. let met = stands_of n h in both_true (nat_le n (end_of_due merged due)) (nat_le opened n && nat_le done n) (le-leb n (end_of_due merged due) met.2) (both_true (nat_le opened n) (nat_le done n) (le-leb opened n met.0) (le-leb done n met.1)))
      (λ h.
      let p = and_parts (nat_le n (end_of_due merged due)) (nat_le opened n && nat_le done n) h in
      let q = and_parts (nat_le opened n) (nat_le done n) p.1 in
      stands_there n (leb-true opened n q.0) (leb-true done n q.1) (leb-true n (end_of_due merged due) p.0))

  pub all_done_is : (n : ℕ) → all_done s merged (left s due) n ≡ nat_le n (end_of_due merged due)
  all_done_is n = both_ways _ _
      (λ h. let p = and_parts (nat_le n merged) (list_all (tested n) (left s due)) h in le-leb n (end_of_due merged due) (up_to_first n due is.first p.1 (leb-true n merged p.0)))
      (λ h.
      let upto = leb-true n (end_of_due merged due) h in
      both_true (nat_le n merged) (list_all (tested n) (left s due)) (le-leb n merged (omega (arith, upto, end_merged))) (none_later n upto))

  pub none_later_is : (n : ℕ) → (none_done_from s n && nat_le opened n) ≡ (nat_le opened n && nat_le done n)
  none_later_is n = both_ways _ _
      (λ h. let p = and_parts (none_done_from s n) (nat_le opened n) h in both_true (nat_le opened n) (nat_le done n) p.1 (le-leb done n (bound_of n p.0)))
      (λ h.
      let p = and_parts (nat_le opened n) (nat_le done n) h in
      both_true (none_done_from s n) (nat_le opened n)
      (none_kept (turns_of kept) (λ q. nat_le n q.epoch && is_done s q) (λ q x there. undone_from n (leb-true opened n p.0) (leb-true done n p.1) q x there)) p.0)

  -- the answer where it stands nowhere, and where it stands
  pub stands_nowhere : (end_of_due merged due ≡ 0) ⊎ ((end_of_due merged due < opened) ⊎ (end_of_due merged due < done)) → stands_at s merged (left s due) ≡ None
  stands_nowhere why = none_below (λ e. stands s merged (left s due) (suc e)) merged (λ k less. go k (stands s merged (left s due) (suc k)) refl)
    where
      go : (k : ℕ) (b : Bool) → stands s merged (left s due) (suc k) ≡ b → b ≡ false
      go k false e = refl
      go k true e = let met = stands_of (suc k) e in elim why [
        | inl none ↦ absurd (omega (arith, none, met.2))
        | inr (inl early) ↦ absurd (omega (arith, early, met.0, met.2))
        | inr (inr late) ↦ absurd (omega (arith, late, met.1, met.2))
      ]

  pub stands_here : (e : ℕ) → e + 1 ≡ end_of_due merged due → opened ≤ end_of_due merged due → done ≤ end_of_due merged due → stands_at s merged (left s due) ≡ Some e
  stands_here e at le most =
      greatest_is (λ e. stands s merged (left s due) (suc e)) merged e (omega (arith, at, end_merged)) (stands_there (suc e) (omega (arith, at, le)) (omega (arith, at, most)) (omega (arith, at)))
      (λ j past below. go j past (stands s merged (left s due) (suc j)) refl)
    where
      go : (j : ℕ) → e < j → (b : Bool) → stands s merged (left s due) (suc j) ≡ b → b ≡ false
      go j past false is = refl
      go j past true is = absurd (omega (arith, past, at, (stands_of (suc j) is).2))

-- what is done doesn't matter
module _ {Args Row : Type 0} (s : Scheduling Args Row) (merged : ℕ) where
  pub all_left : (n : ℕ) (qs : List Place) → list_all (λ q. nat_le n q.epoch || is_done s q) (left s qs) ≡ list_all (λ q. nat_le n q.epoch || is_done s q) qs
  all_left n [] = refl
  all_left n (q ∷ qs) = go (is_done s q) refl (all_left n qs)
    where
      go : (b : Bool) → is_done s q ≡ b → list_all (λ r. nat_le n r.epoch || is_done s r) (left s qs) ≡ list_all (λ r. nat_le n r.epoch || is_done s r) qs
          → list_all (λ r. nat_le n r.epoch || is_done s r) (cond (not b) (q ∷ left s qs) (left s qs)) ≡ list_all (λ r. nat_le n r.epoch || is_done s r) (q ∷ qs)
      go true e rest = rest ∙ sym (ap (λ b. b && list_all (λ r. nat_le n r.epoch || is_done s r) qs) (or_right (nat_le n q.epoch) (is_done s q) e))
      go false e rest = ap (λ b. (nat_le n q.epoch || is_done s q) && b) rest

  pub stands_left : (due : List Place) (n : ℕ) → stands s merged (left s due) n ≡ stands s merged due n
  stands_left due n = ap (λ b. ((nat_le n merged && nat_le s.opened_from.epoch n) && b) && none_done_from s n) (all_left n due)

  pub stands_at_left : (due : List Place) → stands_at s merged (left s due) ≡ stands_at s merged due
  stands_at_left due = λ i. greatest_below (λ e. stands_left due (suc e) i) merged
