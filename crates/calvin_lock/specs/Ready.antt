-- Who may go ahead (Thomson et al. 2012, section 3: the two rules of deterministic locking).
--     Requested      the unreleased requests by place, each with the keys that it reads and writes
--     Conflict g h      one writes a key that the other reads or writes
--     IsReady r q      the place q is requested and unreleased in r, and no earlier one of r conflicts with it on a key
--     IsPast a q      the place q is greater than the place a, where there is one
--     IsFirstReady r after answer      the answer is the least ready place past another, or none where there is none
--     IsOldest r q      the place q is the least one of r
use Rattle.std.specs.Prelude.{◌≡◌, true, ◌⊎◌, ◌++◌, Option, Some, None, IsSome, MatchOption}
use Rattle.std.specs.FinMap.{FinMap, get}
use Rattle.calvin_types.specs.declared.key.Key.{Key}
use Rattle.calvin_types.specs.declared.key_set.Sets.{Sets}
use Rattle.calvin_types.specs.declared.place.Place.{Place}
use Rattle.calvin_types.specs.Keys.{has}
use Rattle.calvin_types.specs.Places.{place_cmp, IsBefore}

abbrev pub Requested : Type 0
Requested = FinMap {K = Place} place_cmp Sets

abbrev pub Conflict : Sets → Sets → Type 0
Conflict g h = (k : Key) × ((has g.writes k ≡ true) × (has (h.reads ++ h.writes) k ≡ true) ⊎ (has (g.reads ++ g.writes) k ≡ true) × (has h.writes k ≡ true))

abbrev pub IsReady : Requested → Place → Type 0
IsReady r q = (h : Sets) × (get r q ≡ Some h) × ((n : Place) (g : Sets) → get r n ≡ Some g → IsBefore n q → ¬ Conflict g h)

abbrev pub IsPast : Option Place → Place → Type 0
IsPast None q = Unit {0}
IsPast (Some a) q = IsBefore a q

abbrev pub IsFirstReady : Requested → Option Place → Option Place → Type 0
IsFirstReady r after answer = MatchOption answer ((q : Place) → IsPast after q → ¬ IsReady r q)
    (λ p. IsPast after p × IsReady r p × ((q : Place) → IsPast after q → IsReady r q → ¬ IsBefore q p))

abbrev pub IsOldest : Requested → Place → Type 0
IsOldest r q = IsSome (get r q) × ((n : Place) → IsSome (get r n) → ¬ IsBefore n q)
