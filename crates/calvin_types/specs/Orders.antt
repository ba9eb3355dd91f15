-- An order: requests at places that rise (Thomson et al. 2012, section 3.1: one global order of requests).
--     Order Args      requests, each with its place
--     StandsAt order q t      the request t stands at the place q
--     Rises order      each place is before all that follow it
--     before order q      the requests of the order at places before q
--     from_place q order      the order from the place q on
use Rattle.std.specs.Prelude.{◌≡◌, not, ◌⊎◌, List, [], ◌∷◌, map}
use Rattle.std.specs.Ordering.{is_lt}
use Rattle.std.specs.List.{filter}
use Rattle.calvin_types.specs.declared.place.Place.{Place}
use Rattle.calvin_types.specs.declared.txn.Txn.{Txn}
use Rattle.calvin_types.specs.Places.{place_cmp, IsBefore}

abbrev pub Order : Type 0 → Type 0
Order Args = List (Place × Txn Args)

abbrev pub StandsAt : {Args : Type 0} → Order Args → Place → Txn Args → Type 0
StandsAt [] q t = ⊥
StandsAt (e ∷ es) q t = ((e.0 ≡ q) × (e.1 ≡ t)) ⊎ StandsAt es q t

abbrev pub Rises : {Args : Type 0} → Order Args → Type 0
Rises [] = Unit {0}
Rises {Args} (e ∷ es) = ((q : Place) (t : Txn Args) → StandsAt es q t → IsBefore e.0 q) × Rises es

abbrev pub before : {Args : Type 0} → Order Args → Place → List (Txn Args)
before order q = map (λ e. e.1) (filter (λ e. is_lt (place_cmp e.0 q)) order)

abbrev pub from_place : {Args : Type 0} → Place → Order Args → Order Args
from_place q order = filter (λ e. not (is_lt (place_cmp e.0 q))) order
