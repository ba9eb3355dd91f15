-- A list of requests in the order of their places (Thomson et al. 2012, section 3.2: locks are requested in the agreed
-- order). The list is of this project: the plainest lock manager keeps one.
--     UpTo last requests      no request is at a place past the last one
--     IsInOrder requests last      the places rise, up to the last one requested
--     IsAt requests q i      the request of the place q has i before it
--     IsFree requests i      no earlier request of the list conflicts with the one that has i before it
use Rattle.std.specs.Prelude.{◌≡◌, ℕ, ◌<◌, T, List, [], ◌∷◌, Option, Some, slice_get}
use Rattle.std.specs.FinMap.{is_sorted}
use Rattle.calvin_types.specs.declared.key_set.Sets.{Sets}
use Rattle.calvin_types.specs.declared.place.Place.{Place}
use Rattle.calvin_types.specs.Places.{place_cmp}
use Rattle.calvin_lock.specs.Ready.{IsPast, Conflict}

abbrev pub UpTo : Option Place → List (Place × Sets) → Type 0
UpTo last [] = Unit {0}
UpTo last (e ∷ es) = (¬ IsPast last e.0) × UpTo last es

pub record IsInOrder (requests : List (Place × Sets)) (last : Option Place) : Type 0 where
  pub rising : T (is_sorted place_cmp requests)
  pub up_to : UpTo last requests

abbrev pub IsAt : List (Place × Sets) → Place → ℕ → Type 0
IsAt requests q i = (h : Sets) × (slice_get requests i ≡ Some (q, h))

abbrev pub IsFree : List (Place × Sets) → ℕ → Type 0
IsFree requests i = (j : ℕ) (e f : Place × Sets) → j < i → slice_get requests j ≡ Some e → slice_get requests i ≡ Some f → ¬ Conflict e.1 f.1
