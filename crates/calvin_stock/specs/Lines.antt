-- The lines of an order. They are of this project.
--     names_item lines i      whether a line is of the item i
--     has_distinct_items lines      whether no item comes twice
--     is_in_range line      whether its pieces are from 1 to 10^9
--     are_in_range lines      whether there are one to four, each in range
--     are_lines lines      one to four lines of distinct items, each in range
use Rattle.std.specs.Prelude.{ℕ, ◌==◌, ◌&&◌, Bool, true, not, nat_le, List, [], ◌∷◌, length}
use Rattle.std.specs.List.{list_any, list_all}
use Rattle.calvin_stock.specs.declared.limits.TheConstants.{MOST_LINES, MOST_PIECES}
use Rattle.calvin_stock.specs.declared.order.Line.{Line}

abbrev pub names_item : List Line → ℕ → Bool
names_item lines i = list_any (λ l. l.item == i) lines

abbrev pub has_distinct_items : List Line → Bool
has_distinct_items [] = true
has_distinct_items (l ∷ ls) = not (names_item ls l.item) && has_distinct_items ls

abbrev pub is_in_range : Line → Bool
is_in_range l = nat_le 1 l.pieces && nat_le l.pieces MOST_PIECES

abbrev pub are_in_range : List Line → Bool
are_in_range ls = (nat_le 1 (length ls) && nat_le (length ls) MOST_LINES) && list_all is_in_range ls

abbrev pub are_lines : List Line → Bool
are_lines ls = are_in_range ls && has_distinct_items ls
