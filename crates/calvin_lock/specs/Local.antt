-- The locks of one partition: each partition keeps those of the keys that it stores (Thomson et al. 2012, section 3).
-- No call of a lock manager names these: a scheduler does, and proofs/LocalLocks ties them to its lock manager's words.
--     local_sets site g      those of the keys that the site stores
--     ConflictAt site g h      one writes a key stored at the site that the other reads or writes
--     IsReadyAt site unreleased q h      no earlier unreleased place conflicts at the site with the place q, whose keys are h
--     IsLockedAs site unreleased r      the requests of r are just the unreleased places, each with its keys of the site
use Rattle.std.specs.Prelude.{◌≡◌, true, ◌⊎◌, ◌++◌, Option, Some}
use Rattle.std.specs.Option.{option_map}
use Rattle.std.specs.FinMap.{get}
use Rattle.calvin_types.specs.declared.key.Key.{Key}
use Rattle.calvin_types.specs.declared.key_set.Sets.{Sets}
use Rattle.calvin_types.specs.declared.place.Place.{Place}
use Rattle.calvin_types.specs.Keys.{has}
use Rattle.calvin_types.specs.Participants.{Site, is_local, local_keys}
use Rattle.calvin_types.specs.Places.{IsBefore}
use Rattle.calvin_lock.specs.Ready.{Requested}

abbrev pub local_sets : Site → Sets → Sets
local_sets site g = record { reads = local_keys site g.reads; writes = local_keys site g.writes }

abbrev pub ConflictAt : Site → Sets → Sets → Type 0
ConflictAt site g h = (k : Key) × (is_local site k ≡ true)
    × ((has g.writes k ≡ true) × (has (h.reads ++ h.writes) k ≡ true) ⊎ (has (g.reads ++ g.writes) k ≡ true) × (has h.writes k ≡ true))

abbrev pub IsReadyAt : Site → (Place → Option Sets) → Place → Sets → Type 0
IsReadyAt site unreleased q h = (n : Place) (g : Sets) → unreleased n ≡ Some g → IsBefore n q → ¬ ConflictAt site g h

abbrev pub IsLockedAs : Site → (Place → Option Sets) → Requested → Type 0
IsLockedAs site unreleased r = (q : Place) → get r q ≡ option_map (local_sets site) (unreleased q)
