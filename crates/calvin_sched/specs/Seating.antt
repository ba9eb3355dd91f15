-- Admitted requests by place, kept as a list in which the places rise.
--     rising seats      the places rise
--     seated seats      the map that they show
--     IsAt place seats i      the place stands there after i others
--     IsPastAll place kept      the place comes after all places of a map
use Rattle.std.specs.Prelude.{◌≡◌, ℕ, List, T, Some, slice_get}
use Rattle.std.specs.Option.{ForSome}
use Rattle.std.specs.FinMap as map
use Rattle.calvin_types.specs.declared.place.Place.{Place}
use Rattle.calvin_types.specs.Places.{place_cmp, IsBefore}

module _ {X : Type 0} where
  abbrev pub rising : List (Place × X) → Type 0
  rising seats = T (map.is_sorted place_cmp seats)

  abbrev pub seated : List (Place × X) → map.FinMap place_cmp X
  seated seats = map.from_sorted seats

  abbrev pub IsAt : Place → List (Place × X) → ℕ → Type 0
  IsAt place seats i = (x : X) × (slice_get seats i ≡ Some (place, x))

  abbrev pub IsPastAll : Place → map.FinMap place_cmp X → Type 0
  IsPastAll place kept = (q : Place) → ForSome (map.get kept q) (λ x. IsBefore q place)
