-- The element of a list at a number.
--     element xs n within      the element with n elements before it, where the list has more than n
--     none_below n, below_rest n m      no number is below 0, and one less is below one less
use Rattle.std.specs.Prelude.{ℕ, zero, suc, ◌<◌, List, [], ◌∷◌, length}
use Rattle.std.proofs.Common.{arith}

pub none_below : (n : ℕ) → n < 0 → ⊥
none_below n below = omega arith

pub below_rest : (n m : ℕ) → suc n < suc m → n < m
below_rest n m below = omega arith

module _ {T : Type 0} where
  abbrev pub element : (xs : List T) (n : ℕ) → n < length xs → T
  element [] n within = absurd (none_below n within)
  element (x ∷ xs) zero within = x
  element (x ∷ xs) (suc n) within = element xs n (below_rest n (length xs) within)
