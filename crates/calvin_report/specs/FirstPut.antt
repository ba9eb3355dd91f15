-- For the code: entries in order take a value at a key that has none.
use Rattle.std.specs.Prelude.{if◌then◌else◌, List, is_some}
use Rattle.std.specs.FinMap.Entries.{put, find}
use Rattle.calvin_types.specs.declared.place.Place.{Place}
use Rattle.calvin_types.specs.Places.{place_cmp}

-- a value at a place, unless there is one
abbrev pub put_first : {X : Type 0} → Place → X → List (Place × X) → List (Place × X)
put_first q x es = if is_some (find place_cmp q es) then es else put place_cmp q x es
