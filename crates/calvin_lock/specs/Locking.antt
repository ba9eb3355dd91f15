-- What a lock manager keeps, and what each call makes of it (Thomson et al. 2012, section 3.2: locks are requested in the
-- agreed order).
--     Locking      the unreleased requests, and the last place requested
--     no_locks      nothing was requested
--     IsNoKey reads writes      no key is asked for
--     with_request q sets l      l with one more request, the last one
--     without q l      l with the request of q released
--     IsUpToLast l      no requested place is past the last one
use Rattle.std.specs.Prelude.{◌≡◌, List, [], Option, Some, None, IsSome}
use Rattle.std.specs.FinMap.{empty, get, insert, remove}
use Rattle.calvin_types.specs.declared.key.Key.{Key}
use Rattle.calvin_types.specs.declared.key_set.Sets.{Sets}
use Rattle.calvin_types.specs.declared.place.Place.{Place}
use Rattle.calvin_lock.specs.Ready.{Requested, IsPast}

-- what a lock manager keeps
pub record Locking : Type 0 where
  -- the unreleased requests
  pub requested : Requested
  -- the last place requested, released or not
  pub last : Option Place

abbrev pub no_locks : Locking
no_locks = record { requested = empty; last = None }

abbrev pub IsNoKey : List Key → List Key → Type 0
IsNoKey reads writes = (reads ≡ []) × (writes ≡ [])

abbrev pub with_request : Place → Sets → Locking → Locking
with_request q sets l = record { requested = insert l.requested q sets; last = Some q }

abbrev pub without : Place → Locking → Locking
without q l = record l { requested = remove l.requested q }

abbrev pub IsUpToLast : Locking → Type 0
IsUpToLast l = (q : Place) → IsSome (get l.requested q) → ¬ IsPast l.last q
