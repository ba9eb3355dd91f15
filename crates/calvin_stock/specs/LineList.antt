-- How the lines of an order stand in four places: one after another from the first on, and blank lines after them.
--     blank      the line of a place that isn't used
--     filled_up lines      the lines, and blank ones up to four
--     IsLineList places size      the places are those of so many lines, at most four
use Rattle.std.specs.Prelude.{◌≡◌, ℕ, ◌-◌, ◌≤◌, List, ◌++◌, length, replicate, take}
use Rattle.calvin_stock.specs.declared.limits.TheConstants.{MOST_LINES}
use Rattle.calvin_stock.specs.declared.order.Line.{Line}

abbrev pub blank : Line
blank = record { item = 0; pieces = 0 }

abbrev pub filled_up : List Line → List Line
filled_up ls = ls ++ replicate (MOST_LINES - length ls) blank

pub record IsLineList (places : List Line) (size : ℕ) : Type 0 where
  pub at_most : size ≤ MOST_LINES
  pub size_is : length (take size places) ≡ size
  pub rest : filled_up (take size places) ≡ places
