-- What a tally shows. The notion is of this project.
--     count before      the number that a tally shows, from its memory of the one before
use Rattle.std.specs.Prelude.{ℕ, ◌+◌, Option, Some, None}
use Rattle.std.specs.declared.snapshot.Snapshot.{Snapshot}

-- one more than the tally before, or nothing where there was none
abbrev pub count : Option (Snapshot ℕ) → ℕ
count None = 0
count (Some before) = before.value + 1
