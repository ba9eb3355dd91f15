-- The numbers of an operation. The form of scripts is of this project.
--     one_number d, two_numbers d, three_numbers d      the numbers that follow the name of an operation, and nothing after them
use Rattle.std.specs.Prelude.{ℕ, ◌^◌, Option, Some, option_and_then, is_none}
use Rattle.serde_json.specs.Data.{Data}
use Rattle.serde_json.specs.Find.{at}
use Rattle.calvin_script.specs.Spelling.{◌>>=◌, only_if, below}

-- the number that follows the name of an operation, and nothing after it
unfoldable pub one_number : Data → Option ℕ
one_number d = only_if (is_none (at 2 d)) (option_and_then (below (2 ^ 64)) (at 1 d))

-- the two numbers that follow the name of an operation, and nothing after them
unfoldable pub two_numbers : Data → Option (ℕ × ℕ)
two_numbers d = only_if (is_none (at 3 d)) (do
  first ← option_and_then (below (2 ^ 64)) (at 1 d)
  second ← option_and_then (below (2 ^ 64)) (at 2 d)
  Some (first, second))

-- the three numbers that follow the name of an operation, and nothing after them
unfoldable pub three_numbers : Data → Option (ℕ × ℕ × ℕ)
three_numbers d = only_if (is_none (at 4 d)) (do
  first ← option_and_then (below (2 ^ 64)) (at 1 d)
  second ← option_and_then (below (2 ^ 64)) (at 2 d)
  third ← option_and_then (below (2 ^ 64)) (at 3 d)
  Some (first, second, third))
