-- What a keeper makes of points and of cold rows (Thomson et al. 2012, section 5: a checkpoint at a point of consistency while
-- requests go on; section 4: rows on disk). Whether it has points, or a cold table, is part of what kind of keeper it is.
use Rattle.std.specs.Prelude.{◌≡◌, ℕ, ◌+◌, Bool, ◌&&◌, if◌then◌else◌, List, Option, Some, None, is_some}
use Rattle.std.specs.FinMap.{empty, get}
use Rattle.std.specs.List.{list_any}
use Rattle.calvin_types.specs.declared.fault.Fault.TheVariants as fault
use Rattle.calvin_types.specs.declared.key.Key.{Key}
use Rattle.calvin_types.specs.declared.place.Place.{Place}
use Rattle.calvin_types.specs.Deeds.{Deed, Refuses, Does}
use Rattle.calvin_app.specs.Rows.{Rows}
use Rattle.calvin_app.specs.Stores.{Store, Point, marked, is_hot, cooled}

module _ {Row : Type 0} where
  -- with this point open
  abbrev pub mark_by : Bool → Place → Store Row → Option (Point Row) → Deed (Store Row) (Unit {0})
  mark_by points q store (Some p) = Refuses fault.PointOpen
  mark_by points q store None = if points then Does (marked q store) tt else Refuses fault.NoPoints

  -- a point is opened at a place, with the rows that are there
  abbrev pub mark_at : Bool → Place → Store Row → Deed (Store Row) (Unit {0})
  mark_at points q store = mark_by points q store store.point

  -- the rows of a point
  abbrev pub rows_of : Option (Point Row) → Rows Row
  rows_of None = empty
  rows_of (Some p) = p.rows

  -- the point is at the end of an epoch, or none is open
  abbrev pub IsMarked : Option (Point Row) → Option ℕ → Type 0
  IsMarked point None = point ≡ None
  IsMarked point (Some e) = (p : Point Row) × (point ≡ Some p) × (p.at ≡ record { epoch = e + 1; n = 0 })

  -- with this point open
  abbrev pub cool_by : Bool → Key → Store Row → Option (Point Row) → Deed (Store Row) (Unit {0})
  cool_by cold k store (Some p) = Refuses fault.PointOpen
  cool_by cold k store None =
      if is_hot store k
      then (if cold then Does (cooled k store) tt else Refuses fault.NoColdTable)
      else Refuses fault.NoRow

  -- the row of a key goes to the cold table
  abbrev pub cool_key : Bool → Key → Store Row → Deed (Store Row) (Unit {0})
  cool_key cold k store = cool_by cold k store store.point

  -- the row of one of these keys is cold: to be warmed it needs a place
  abbrev pub warm_grows : Bool → List Key → Store Row → Bool
  warm_grows cold keys store = cold && list_any (λ k. is_some (get store.cold k)) keys
