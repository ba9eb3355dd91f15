-- How the rows that came from other partitions stand in a list.
--     from_of arrival      the partition from which it came
--     rows_from came from      the rows of a partition, none where none came
--     with_arrival came arrival      what came, with one arrival more
--     came_by arrivals      what came by all of them, in their order
use Rattle.std.specs.Prelude.{ℕ, List}
use Rattle.std.specs.List.{fold}
use Rattle.std.specs.Option.{unwrap_or}
use Rattle.std.specs.Ordering.{nat_cmp}
use Rattle.std.specs.FinMap.{FinMap, empty, get, insert}
use Rattle.calvin_app.specs.Rows.{Rows}
use Rattle.calvin_sched.specs.declared.came.Arrival.{Arrival}
use Rattle.calvin_sched.specs.declared.came.Arrival.TheVariants.{Nothing, First, Further}

module _ {Row : Type 0} where
  abbrev pub from_of : Arrival Row → ℕ
  from_of (Nothing from) = from
  from_of (First from key row) = from
  from_of (Further from key row) = from

  abbrev pub rows_from : FinMap {K = ℕ} nat_cmp (Rows Row) → ℕ → Rows Row
  rows_from came from = unwrap_or (get came from) empty

  -- rows that come first are in place of those that came from the partition before
  abbrev pub with_arrival : FinMap {K = ℕ} nat_cmp (Rows Row) → Arrival Row → FinMap {K = ℕ} nat_cmp (Rows Row)
  with_arrival came (Nothing from) = insert came from empty
  with_arrival came (First from key row) = insert came from (insert empty key row)
  with_arrival came (Further from key row) = insert came from (insert (rows_from came from) key row)

  abbrev pub came_by : List (Arrival Row) → FinMap {K = ℕ} nat_cmp (Rows Row)
  came_by arrivals = fold with_arrival empty arrivals
