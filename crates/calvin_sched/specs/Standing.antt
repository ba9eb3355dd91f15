-- At the end of which epochs a partition stands, what a snapshot there takes, and what becomes of points and of cold
-- rows (Thomson et al. 2012, sections 4 and 5). n epochs end at the place (n, 0); where so many epochs are merged, these are
-- the places at which their requests with a key here are due.
use Rattle.std.specs.Prelude.{ℕ, zero, suc, Bool, ◌==◌, ◌&&◌, ◌||◌, nat_le, if◌then◌else◌, List, map, Option, Some, None}
use Rattle.std.specs.List.{filter, list_all}
use Rattle.std.specs.Ordering.{eq_by_cmp}
use Rattle.std.specs.FinMap.{len, retain_keys}
use Rattle.calvin_types.specs.declared.fault.Fault.TheVariants as fault
use Rattle.calvin_types.specs.declared.key.Key.{Key}
use Rattle.calvin_types.specs.declared.key_set.Sets.{Sets}
use Rattle.calvin_types.specs.declared.place.Place.{Place}
use Rattle.calvin_types.specs.Deeds.{Deed, Refuses, Does}
use Rattle.calvin_types.specs.Orders.{Order}
use Rattle.calvin_types.specs.Participants.{Site, has_local_key}
use Rattle.calvin_app.specs.Rows.{Rows}
use Rattle.calvin_app.specs.Stores.{Store, Point, closed_upto, warmed}
use Rattle.calvin_types.specs.Places.{place_cmp}
use Rattle.calvin_order.specs.Merged.{end_of}
use Rattle.calvin_store.specs.Points.{mark_at, cool_key}
use Rattle.calvin_sched.specs.declared.phase.Phase.{Phase}
use Rattle.calvin_sched.specs.declared.phase.Phase.TheVariants.{Waiting, Begun, Done}
use Rattle.calvin_sched.specs.Scheduling.{Turn, Scheduling, turn_at, with_store, is_done}

module _ {Args : Type 0} where
  -- the places of an order at which a request with a key stored here stands
  abbrev pub local_places : Site → Order Args → List Place
  local_places here order = map (λ e. e.0) (filter (λ e. has_local_key here e.1) order)

-- the greatest number below a bound that passes
abbrev pub greatest_below : (ℕ → Bool) → ℕ → Option ℕ
greatest_below passes zero = None
greatest_below passes (suc n) = if passes n then Some n else greatest_below passes n

-- the keys of a request that isn't done
abbrev pub unreleased_by : Sets → Phase → Option Sets
unreleased_by sets Waiting = Some sets
unreleased_by sets Begun = Some sets
unreleased_by sets Done = None

module _ {Args Row : Type 0} where
  abbrev pub unreleased_at : Option (Turn Args Row) → Option Sets
  unreleased_at None = None
  unreleased_at (Some x) = unreleased_by x.request.sets x.phase

  -- what a lock manager is asked for: the keys of what is admitted and not done, by place
  abbrev pub unreleased : Scheduling Args Row → Place → Option Sets
  unreleased s q = unreleased_at (turn_at s q)

  -- of all that is admitted, nothing of epoch n or later is done
  abbrev pub none_done_from : Scheduling Args Row → ℕ → Bool
  none_done_from s n = len (retain_keys s.turns (λ q. nat_le n q.epoch && is_done s q)) == 0

  -- the first n epochs are merged, and done here
  abbrev pub all_done : Scheduling Args Row → ℕ → List Place → ℕ → Bool
  all_done s merged due n = nat_le n merged && list_all (λ q. nat_le n q.epoch || is_done s q) due

  -- a point at the end of the first n epochs, or before it, is closed
  abbrev pub closed_at : ℕ → Scheduling Args Row → Scheduling Args Row
  closed_at n s = with_store s (closed_upto (end_of n) s.store)

  -- the partition stands at the end of the first n epochs: they are merged and done here, nothing of a later one is done, and a loaded snapshot has no more epochs
  abbrev pub stands : Scheduling Args Row → ℕ → List Place → ℕ → Bool
  stands s merged due n =
      nat_le n merged && nat_le s.opened_from.epoch n && list_all (λ q. nat_le n q.epoch || is_done s q) due && none_done_from s n

  -- a snapshot at the end of the first n epochs takes the rows of a partition that stands there,
  abbrev pub take_map : ℕ → List Place → ℕ → Scheduling Args Row → Deed (Scheduling Args Row) (Rows Row)
  take_map merged due n s = if stands s merged due n then Does (closed_at n s) s.store.map else Refuses fault.NotAtEnd

  -- or the rows of the point that is marked there, once these epochs are merged and done
  abbrev pub take_from : ℕ → List Place → ℕ → Scheduling Args Row → Option (Point Row) → Deed (Scheduling Args Row) (Rows Row)
  take_from merged due n s None = take_map merged due n s
  take_from merged due n s (Some p) =
      if eq_by_cmp place_cmp p.at (end_of n)
      then (if all_done s merged due n then Does (closed_at n s) p.rows else Refuses fault.NotAtEnd)
      else take_map merged due n s

  -- a snapshot at the end of the first n epochs: the rows that it takes. A point that isn't later is closed
  abbrev pub take_rows : ℕ → List Place → ℕ → Scheduling Args Row → Deed (Scheduling Args Row) (Rows Row)
  take_rows merged due n s = take_from merged due n s s.store.point

  -- ---- marks

  -- what becomes of the store
  abbrev pub by_store : Scheduling Args Row → Deed (Store Row) (Unit {0}) → Deed (Scheduling Args Row) (Unit {0})
  by_store s (Refuses f) = Refuses f
  by_store s (Does store out) = Does (with_store s store) out

  -- a point is opened at the end of the first n epochs, as long as nothing later is done and a loaded snapshot has no more epochs
  abbrev pub mark : Bool → ℕ → Scheduling Args Row → Deed (Scheduling Args Row) (Unit {0})
  mark points n s = if none_done_from s n && nat_le s.opened_from.epoch n then by_store s (mark_at points (end_of n) s.store) else Refuses fault.PointTooLate

  -- ---- cold rows

  -- the row of a key goes to the cold table
  abbrev pub cool : Bool → Key → Scheduling Args Row → Deed (Scheduling Args Row) (Unit {0})
  cool cold k s = by_store s (cool_key cold k s.store)

  -- the rows of these keys come back from the cold table
  abbrev pub warm : List Key → Scheduling Args Row → Scheduling Args Row
  warm keys s = with_store s (warmed keys s.store)

  -- the greatest epoch at whose end it stands
  abbrev pub stands_at : Scheduling Args Row → ℕ → List Place → Option ℕ
  stands_at s merged due = greatest_below (λ e. stands s merged due (suc e)) merged
