-- What a keeper knows of the rows of its partition (Thomson et al. 2012, sections 3, 4 and 5). A keeper that holds all
-- rows in memory and opens no point has `loaded rows`. Points are for a keeper that is copied while requests go on, cold
-- keys for one that moves rows to a second, cold table (section 4: rows on disk). What a key reads is the same whether it is
-- cold or not.
use Rattle.std.specs.Prelude.{Bool, ◌&&◌, not, List, Option, Some, None, is_some, if◌then◌else◌}
use Rattle.std.specs.FinMap.{empty, get, insert, retain_keys}
use Rattle.std.specs.FinSet.{FinSet}
use Rattle.std.specs.Ordering.{is_lt}
use Rattle.calvin_types.specs.declared.key.Key.{Key}
use Rattle.calvin_types.specs.declared.place.Place.{Place}
use Rattle.calvin_types.specs.Keys.{key_cmp, has}
use Rattle.calvin_types.specs.Places.{place_cmp}
use Rattle.calvin_app.specs.Rows.{Rows, overwritten}
use Rattle.calvin_app.specs.Writing.{keys_of}

-- a virtual point of consistency: a place, and the rows that the requests before it leave
pub record Point (Row : Type 0) : Type 0 where
  pub at : Place
  pub rows : Rows Row

-- the row of each key, the point that is open, and the keys whose row lies in the cold table
pub record Store (Row : Type 0) : Type 0 where
  pub map : Rows Row
  pub point : Option (Point Row)
  pub cold : FinSet {K = Key} key_cmp

-- these keys, but for some
abbrev pub without : FinSet {K = Key} key_cmp → List Key → FinSet {K = Key} key_cmp
without cold keys = retain_keys cold (λ k. not (has keys k))

module _ {Row : Type 0} where
  -- a store that is opened on rows: no point is open, and no row is cold
  abbrev pub loaded : Rows Row → Store Row
  loaded rows = record { map = rows; point = None; cold = empty }

  -- a point takes the writes of the places before it
  abbrev pub put_point : Place → List (Key × Row) → Option (Point Row) → Option (Point Row)
  put_point q writes None = None
  put_point q writes (Some p) = Some (record p { rows = if is_lt (place_cmp q p.at) then overwritten p.rows writes else p.rows })

  -- what the request at a place wrote is put: a key that is written isn't cold any more
  abbrev pub put_at : Place → List (Key × Row) → Store Row → Store Row
  put_at q writes store = record { map = overwritten store.map writes; point = put_point q writes store.point; cold = without store.cold (keys_of writes) }

  -- a point is opened at a place, with the rows that are there
  abbrev pub marked : Place → Store Row → Store Row
  marked q store = record store { point = Some (record { at = q; rows = store.map }) }

  -- a point stays open where it is after a place
  abbrev pub left_after : Place → Option (Point Row) → Option (Point Row)
  left_after q None = None
  left_after q (Some p) = if is_lt (place_cmp q p.at) then Some p else None

  -- a point that isn't after the place is closed
  abbrev pub closed_upto : Place → Store Row → Store Row
  closed_upto q store = record store { point = left_after q store.point }

  -- whether a key has a row that isn't cold, which can be made cold
  abbrev pub is_hot : Store Row → Key → Bool
  is_hot store k = is_some (get store.map k) && not (is_some (get store.cold k))

  -- the rows of these keys come back from the cold table
  abbrev pub warmed : List Key → Store Row → Store Row
  warmed keys store = record store { cold = without store.cold keys }

  -- the row of a key goes to the cold table
  abbrev pub cooled : Key → Store Row → Store Row
  cooled k store = record store { cold = insert store.cold k tt }
