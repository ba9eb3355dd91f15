-- Lemmas: tests of equality that tell values apart.
--     first, second, both      the parts of a joined test
--     pointwise_exact, option_exact      lists and options of what a test tells apart are told apart
use Rattle.std.specs.Prelude.{◌≡◌, Bool, true, false, ◌&&◌, List, [], ◌∷◌, Option, Some, None, refl}
use Rattle.std.specs.Cmp.Lexicographic.{pointwise}
use Rattle.std.specs.Option.{option_eq}
use Rattle.std.proofs.Common.{ap}
use Rattle.std.proofs.lemmas.Bool.{false≢true}

-- where a joined test holds, its first part does
pub first : (a b : Bool) → (a && b) ≡ true → a ≡ true
first true b h = refl
first false b h = absurd (false≢true h)

-- and its second part
pub second : (a b : Bool) → (a && b) ≡ true → b ≡ true
second true b h = h
second false b h = absurd (false≢true h)

-- where both parts hold, the joined test does
pub both : (a b : Bool) → a ≡ true → b ≡ true → (a && b) ≡ true
both true b p q = q
both false b p q = p

module _ {T : Type 0} (E : T → T → Bool) (exact : (a b : T) → E a b ≡ true → a ≡ b) where
  -- lists that a test finds alike, item by item, are one
  pub pointwise_exact : (xs ys : List T) → pointwise E xs ys ≡ true → xs ≡ ys
  pointwise_exact [] [] h = refl
  pointwise_exact [] (y ∷ ys) h = absurd (false≢true h)
  pointwise_exact (x ∷ xs) [] h = absurd (false≢true h)
  pointwise_exact (x ∷ xs) (y ∷ ys) h = λ i. exact x y (first (E x y) (pointwise E xs ys) h) i ∷ pointwise_exact xs ys (second (E x y) (pointwise E xs ys) h) i

  pub option_exact : (a b : Option T) → option_eq E a b ≡ true → a ≡ b
  option_exact None None h = refl
  option_exact None (Some y) h = absurd (false≢true h)
  option_exact (Some x) None h = absurd (false≢true h)
  option_exact (Some x) (Some y) h = ap Some (exact x y h)
