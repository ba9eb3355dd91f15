-- The ready places in order, after a place was added, waits for less, or was taken out.
use Rattle.std.proofs.Common.{◌≡◌, ◌≢◌, ◌↔◌, ℕ, zero, suc, ◌<◌, ◌≤◌, Bool, true, false, cond, inl, inr, List, [], ◌∷◌, ◌++◌, length, slice_get, Option, MatchOption, Some, None, refl, sym, ap, subst, ◌∙◌, arith}
use Rattle.std.proofs.Math.Nat.{eq-or-lt_of_le}
use Rattle.std.proofs.lemmas.Bool.{false≢true, cases_lt}
use Rattle.std.proofs.lemmas.Option.{none-some, same_Some, slice_get_within}
use Rattle.calvin_types.specs.declared.place.Place.{Place}
use Rattle.calvin_types.specs.Places.{IsBefore}
use Rattle.calvin_types.proofs.PlaceOrder.{not_before_itself, not_both}
use Rattle.calvin_lock.specs.declared.unreleased.Pending.{Pending}
use Rattle.calvin_lock.specs.Ready.{IsPast}
use Rattle.calvin_lock.specs.Queues.{equal_places}
use Rattle.calvin_lock.specs.Unreleased.{Among, Rises, SplitsAt, IsNumberOf, pending_at, IsReadyIn, IsReadyAt, IsFirstReadyIn}
use Rattle.calvin_lock.proofs.PlaceTests.{places_exact, places_self}
use Rattle.calvin_lock.proofs.RisingPlaces.{among_stands, rises_at}

-- a ready place waits for nothing
pub ready_waits_none : (es : List (Place × Pending)) (q : Place) (p : Pending) → pending_at es q ≡ Some p → IsReadyIn es q → p.waits ≡ 0
ready_waits_none es q p found ready = ap (λ (r : Pending). r.waits) (same_Some p ready.0 (sym found ∙ ready.1)) ∙ ready.2

-- where a place stands that is ready
pub ready_at : (xs : List Place) (es : List (Place × Pending)) (i : ℕ) (q : Place) → slice_get xs i ≡ Some q → IsReadyAt xs es i ↔ IsReadyIn es q
ready_at xs es i q at = (λ ready. subst (λ o. MatchOption o ⊥ (IsReadyIn es)) at ready, λ ready. subst (λ o. MatchOption o ⊥ (IsReadyIn es)) (sym at) ready)

ready_stands : (xs : List Place) (es : List (Place × Pending)) (i : ℕ) → IsReadyAt xs es i → (q : Place) × (slice_get xs i ≡ Some q) × IsReadyIn es q
ready_stands xs es i ready = go (slice_get xs i) refl ready
  where
    go : (o : Option Place) → slice_get xs i ≡ o → MatchOption o ⊥ (IsReadyIn es) → (q : Place) × (slice_get xs i ≡ Some q) × IsReadyIn es q
    go None is none = absurd none
    go (Some q) is there = (q, is, there)

pub ready_within : (xs : List Place) (es : List (Place × Pending)) (i : ℕ) → IsReadyAt xs es i → i < length xs
ready_within xs es i ready = let at = ready_stands xs es i ready in slice_get_within xs i at.0 at.1

-- where one place's entry alone is another, or gone
module _ (es now : List (Place × Pending)) (q : Place) (entry : Option Pending) (updated : (x : Place) → pending_at now x ≡ cond (equal_places q x) entry (pending_at es x)) where
  other : (x : Place) → equal_places q x ≡ false → pending_at now x ≡ pending_at es x
  other x is = updated x ∙ ap (λ b. cond b entry (pending_at es x)) is

  pub entry_now : pending_at now q ≡ entry
  entry_now = updated q ∙ ap (λ b. cond b entry (pending_at es q)) (places_self q)

  other_ready : (x : Place) → equal_places q x ≡ false → IsReadyIn es x ↔ IsReadyIn now x
  other_ready x is = (λ ready. (ready.0, other x is ∙ ready.1, ready.2), λ ready. (ready.0, sym (other x is) ∙ ready.1, ready.2))

  -- each other place is marked as before
  pub marked_now : (xs : List Place) (old new : ℕ → Bool) → ((k : ℕ) → (old k ≡ true) ↔ IsReadyAt xs es k) → ((k : ℕ) → ¬ (slice_get xs k ≡ Some q) → new k ≡ old k)
      → ((k : ℕ) → slice_get xs k ≡ Some q → (new k ≡ true) ↔ IsReadyIn now q) → (k : ℕ) → (new k ≡ true) ↔ IsReadyAt xs now k
  marked_now xs old new was others here k = go (slice_get xs k) refl
    where
      kept : ¬ (slice_get xs k ≡ Some q) → (new k ≡ true) ↔ IsReadyAt xs es k
      kept apart = (λ marked. (was k).0 (sym (others k apart) ∙ marked), λ ready. others k apart ∙ (was k).1 ready)

      go : (o : Option Place) → slice_get xs k ≡ o → (new k ≡ true) ↔ MatchOption o ⊥ (IsReadyIn now)
      go None is =
          let same = kept (λ there. none-some q (sym is ∙ there)) in
          (λ marked. subst (λ o. MatchOption o ⊥ (IsReadyIn es)) is (same.0 marked), λ none. absurd none)
      go (Some x) is = at (equal_places q x) refl
        where
          at : (b : Bool) → equal_places q x ≡ b → (new k ≡ true) ↔ IsReadyIn now x
          at true equal = subst (λ y. (new k ≡ true) ↔ IsReadyIn now y) (places_exact q x equal) (here k (is ∙ ap Some (sym (places_exact q x equal))))
          at false equal =
              let same = kept (λ there. false≢true (sym equal ∙ ap (equal_places q) (same_Some x q (sym is ∙ there)) ∙ places_self q)) in
              (λ marked. (other_ready x equal).0 ((ready_at xs es k x is).0 (same.0 marked)), λ ready. same.1 ((ready_at xs es k x is).1 ((other_ready x equal).1 ready)))

  -- where the place stands, and nowhere else, its mark may change
  pub marked_at : (xs : List Place) (n : ℕ) → IsNumberOf xs q n → (old new : ℕ → Bool) → ((k : ℕ) → (old k ≡ true) ↔ IsReadyAt xs es k) → ((k : ℕ) → k ≢ n → new k ≡ old k)
      → (new n ≡ true) ↔ IsReadyIn now q → (k : ℕ) → (new k ≡ true) ↔ IsReadyAt xs now k
  marked_at xs n number old new was others here = marked_now xs old new was (λ k apart. others k (λ same. apart (ap (slice_get xs) same ∙ number.0)))
      (λ k there. subst (λ j. (new j ≡ true) ↔ IsReadyIn now q) (sym (number.1 k there)) here)

  pub listed_now : (xs : List Place) → ((p : Pending) → entry ≡ Some p → Among xs q) → ((x : Place) (p : Pending) → pending_at es x ≡ Some p → Among xs x) → (x : Place) (p : Pending) → pending_at now x ≡ Some p → Among xs x
  listed_now xs mine old x p found = go (equal_places q x) refl
    where
      go : (b : Bool) → equal_places q x ≡ b → Among xs x
      go true is =
          let same = places_exact q x is in
          subst (Among xs) same (mine p (sym entry_now ∙ ap (pending_at now) same ∙ found))
      go false is = old x p (sym (other x is) ∙ found)

contrary : (b : Bool) → b ≡ true → b ≡ false → ⊥
contrary b marked none = absurd (cc)

-- a mark that isn't there, of a place that isn't ready
pub neither : {b : Bool} {P : Type 0} → b ≡ false → ¬ P → (b ≡ true) ↔ P
neither none unready = (λ marked. absurd (cc), λ ready. absurd (unready ready))

-- one more that isn't ready yet
ready_pushed : (xs : List Place) (es : List (Place × Pending)) (q : Place) → pending_at es q ≡ None → (k : ℕ) → IsReadyAt (xs ++ q ∷ []) es k ↔ IsReadyAt xs es k
ready_pushed [] es q none zero = (λ ready. absurd (none-some ready.0 (sym none ∙ ready.1)), λ ready. absurd ready)
ready_pushed [] es q none (suc k) = (λ ready. ready, λ ready. ready)
ready_pushed (x ∷ xs) es q none zero = (λ ready. ready, λ ready. ready)
ready_pushed (x ∷ xs) es q none (suc k) = ready_pushed xs es q none k

pub marked_pushed : (xs : List Place) (es : List (Place × Pending)) (q : Place) → pending_at es q ≡ None → (mark : ℕ → Bool) → ((k : ℕ) → (mark k ≡ true) ↔ IsReadyAt xs es k) → (k : ℕ) → (mark k ≡ true) ↔ IsReadyAt (xs ++ q ∷ []) es k
marked_pushed xs es q none mark was k =
    let same = ready_pushed xs es q none k in
    (λ marked. same.1 ((was k).0 marked), λ ready. (was k).1 (same.0 ready))

-- ---- the least ready place past another

module _ (es : List (Place × Pending)) (xs : List Place) (mark : ℕ → Bool) (rises : Rises xs)
    (listed : (q : Place) (p : Pending) → pending_at es q ≡ Some p → Among xs q) (marked : (k : ℕ) → (mark k ≡ true) ↔ IsReadyAt xs es k)
    (after : Option Place) (from : ℕ) (past : (k : ℕ) (p : Place) → slice_get xs k ≡ Some p → (from ≤ k) ↔ IsPast after p) where
  stands : (q : Place) → IsReadyIn es q → (k : ℕ) × (slice_get xs k ≡ Some q) × (mark k ≡ true)
  stands q ready =
      let at = among_stands xs q (listed q ready.0 ready.1) in
      (at.0, at.1, (marked at.0).1 ((ready_at xs es at.0 q at.1).1 ready))

  pub first_none : ((k : ℕ) → from ≤ k → mark k ≡ false) → IsFirstReadyIn es after None
  first_none none q beyond ready =
      let at = stands q ready in
      absurd (contrary _ at.2 (none at.0 ((past at.0 q at.1).1 beyond)))

  pub first_some : (j : ℕ) (p : Place) → slice_get xs j ≡ Some p → from ≤ j → mark j ≡ true → ((k : ℕ) → from ≤ k → k < j → mark k ≡ false) → IsFirstReadyIn es after (Some p)
  first_some j p here at some none = (
    (past j p here).0 at,
    (ready_at xs es j p here).0 ((marked j).0 some),
    λ q beyond ready before.
        let there = stands q ready in
        elim (cases_lt there.0 j) [
          | inl early ↦ absurd (contrary _ there.2 (none there.0 ((past there.0 q there.1).1 beyond) early))
          | inr late ↦ elim (eq-or-lt_of_le late) [
            | inl same ↦ not_before_itself q (subst (IsBefore q) (same_Some p q (sym here ∙ ap (slice_get xs) same ∙ there.1)) before)
            | inr less ↦ not_both q p before (rises_at xs rises j there.0 p q here there.1 less)
          ]
        ],
  )

-- which places are past another, by where they stand
pub past_split : (after : Option Place) (xs : List Place) (from i : ℕ) (q : Place) → after ≡ Some q → from ≡ i → SplitsAt xs q i → (k : ℕ) (p : Place) → slice_get xs k ≡ Some p → (from ≤ k) ↔ IsPast after p
past_split after xs from i q is same split k p at = subst (λ o. (from ≤ k) ↔ IsPast o p) (sym is) (
  λ most. split.back k p at (omega (arith, most, same)),
  λ before. elim (cases_lt k from) [
    | inl less ↦ absurd (split.front k p at (omega (arith, less, same)) before)
    | inr most ↦ most
  ],
)

pub past_none : (after : Option Place) (xs : List Place) (from : ℕ) → after ≡ None → from ≡ 0 → (k : ℕ) (p : Place) → slice_get xs k ≡ Some p → (from ≤ k) ↔ IsPast after p
past_none after xs from is start k p at = subst (λ o. (from ≤ k) ↔ IsPast o p) (sym is) (λ most. tt, λ any. omega (arith, start))
