-- The part of a ring of slots that is in use.
--     window first count slots      so many slots from this one on, around the end
--     lists_at refs      what references point to
--     IsRing first count slots      this part lies in a ring of as many slots as there can be groups, and each slot in use has a request
use Rattle.std.specs.Prelude.{ℕ, ◌<◌, ◌≤◌, List, ◌++◌, length, map, take, drop}
use Rattle.std.specs.List.{All}
use Rattle.std.specs.Borrow.{Bor}

abbrev pub window : {X : Type 0} → ℕ → ℕ → List X → List X
window first count slots = take count (drop first slots ++ take first slots)

abbrev pub lists_at : {T : Type 0} → List (Bor (List T)) → List (List T)
lists_at refs = map (λ r. r.now) refs

pub record IsRing {T : Type 0} (first count : ℕ) (slots : List (List T)) : Type 0 where
  pub inside : first < 16
  pub at_most : count ≤ 16
  pub some : All (λ b. 0 < length b) (window first count slots)
