-- What standard error is told. The notion is of this project.
--     Tells old new failures later line      a line was written where no write failed, and else a proper beginning of it
use Rattle.std.specs.Prelude.{◌≡◌, ◌≢◌, ℕ, ◌+◌, ◌<◌, List, length, take, Option}
use Rattle.std.specs.Io.KnownBytes.{Appends}

pub record Tells (old new : Option (List ℕ)) (failures later : ℕ) (line : List ℕ) : Type 0 where
  pub whole : later ≡ failures → Appends old new line
  pub one_failure : later ≢ failures → later ≡ failures + 1
  pub beginning : later ≢ failures → (n : ℕ) × (n < length line) × Appends old new (take n line)
