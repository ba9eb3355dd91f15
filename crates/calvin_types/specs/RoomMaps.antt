-- A map that can promise room for more keys.
--     Roomy K V      its entries, in an order that doesn't count, and how many more keys are sure to find room
--     by R m      the finite map that its entries are, in the order R of the keys
use Rattle.std.specs.Prelude.{ℕ, List}
use Rattle.std.specs.declared.cmp.Ordering.{Ordering}
use Rattle.std.specs.FinMap.{FinMap, from_entries}

pub record Roomy (K V : Type 0) : Type 0 where
  pub list : List (K × V)
  pub room : ℕ

abbrev pub by : {K V : Type 0} (R : K → K → Ordering) → Roomy K V → FinMap R V
by R m = from_entries m.list
