-- The unreleased places, each with its keys and the number of those that it waits for; and the places that were requested,
-- in order, of which those that are ready are marked. The notion is of this project.
--     Among places q      q is one of these places
--     Rises places      each place is before all that follow it
--     SplitsAt places q i      the first i places aren't past q, and the others are
--     IsNumberOf places q i      q stands at i among these places, and nowhere else
--     pending_at es q      what is kept of the place q
--     IsReadyIn es q      the place q waits for no key
--     IsReadyAt places es i      a place stands at i, and waits for no key
--     with_fewer p      a place that waits for one key less
--     AreMarked m places es      of these places those that wait for no key are marked, by where they stand, and nothing else is
--     IsUnreleased u      the unreleased places are among those in order, of which the ready ones are marked
--     HasPlace u      there is room for one more place
--     IsUpTo u last      none of the places in order is past the last one
--     WaitsFor count es      each place waits for as many keys as a function says
--     IsFirstReadyIn es after answer      the answer is the least place past another that waits for no key, or none where there is none
use Rattle.std.specs.Prelude.{◌≡◌, ◌↔◌, ◌⊎◌, ℕ, ◌-◌, ◌<◌, ◌≤◌, true, List, [], ◌∷◌, length, slice_get, vec_len, vec_capacity, Option, MatchOption, Some}
use Rattle.std.specs.Map.{lookup}
use Rattle.indexmap.specs.IndexMap.{spare}
use Rattle.calvin_types.specs.declared.place.Place.{Place}
use Rattle.calvin_types.specs.Places.{IsBefore}
use Rattle.calvin_lock.specs.Ready.{IsPast}
use Rattle.calvin_lock.specs.Queues.{equal_places}
use Rattle.calvin_lock.specs.Marks.{is_marked, AreMarks}
use Rattle.calvin_lock.specs.declared.marks.Marks.{Marks}
use Rattle.calvin_lock.specs.declared.unreleased.Pending.{Pending}
use Rattle.calvin_lock.specs.declared.unreleased.Unreleased.{Unreleased}

abbrev pub Among : List Place → Place → Type 0
Among [] q = ⊥
Among (p ∷ places) q = (p ≡ q) ⊎ Among places q

abbrev pub Rises : List Place → Type 0
Rises [] = Unit {0}
Rises (p ∷ places) = ((q : Place) → Among places q → IsBefore p q) × Rises places

pub record SplitsAt (places : List Place) (q : Place) (i : ℕ) : Type 0 where
  pub front : (k : ℕ) (p : Place) → slice_get places k ≡ Some p → k < i → ¬ IsBefore q p
  pub back : (k : ℕ) (p : Place) → slice_get places k ≡ Some p → i ≤ k → IsBefore q p
  pub within : i ≤ length places

abbrev pub IsNumberOf : List Place → Place → ℕ → Type 0
IsNumberOf places q i = (slice_get places i ≡ Some q) × ((k : ℕ) → slice_get places k ≡ Some q → k ≡ i)

abbrev pub pending_at : List (Place × Pending) → Place → Option Pending
pending_at es q = lookup (equal_places q) es

abbrev pub IsReadyIn : List (Place × Pending) → Place → Type 0
IsReadyIn es q = (p : Pending) × (pending_at es q ≡ Some p) × (p.waits ≡ 0)

abbrev pub with_fewer : Pending → Pending
with_fewer p = record { sets = p.sets; waits = p.waits - 1; near = p.near }

abbrev pub IsReadyAt : List Place → List (Place × Pending) → ℕ → Type 0
IsReadyAt places es i = MatchOption (slice_get places i) ⊥ (IsReadyIn es)

abbrev pub AreMarked : Marks → List Place → List (Place × Pending) → Type 0
AreMarked m places es = (i : ℕ) → (is_marked m i ≡ true) ↔ IsReadyAt places es i

pub record IsUnreleased (u : Unreleased) : Type 0 where
  pub rises : Rises u.order.items
  pub listed : (q : Place) (p : Pending) → pending_at u.places.entries q ≡ Some p → Among u.order.items q
  pub kept : AreMarks u.marks
  pub fits : length u.order.items ≤ u.marks.leaves
  pub marked : AreMarked u.marks u.order.items u.places.entries

abbrev pub HasPlace : Unreleased → Type 0
HasPlace u = (0 < spare u.places) × (vec_len u.order < vec_capacity u.order) × (vec_len u.order < u.marks.leaves)

abbrev pub IsUpTo : Unreleased → Option Place → Type 0
IsUpTo u last = (q : Place) → Among u.order.items q → ¬ IsPast last q

abbrev pub IsFirstReadyIn : List (Place × Pending) → Option Place → Option Place → Type 0
IsFirstReadyIn es after answer = MatchOption answer ((q : Place) → IsPast after q → ¬ IsReadyIn es q)
    (λ p. IsPast after p × IsReadyIn es p × ((q : Place) → IsPast after q → IsReadyIn es q → ¬ IsBefore q p))

abbrev pub WaitsFor : (Place → ℕ) → List (Place × Pending) → Type 0
WaitsFor count es = (q : Place) (p : Pending) → pending_at es q ≡ Some p → p.waits ≡ count q
