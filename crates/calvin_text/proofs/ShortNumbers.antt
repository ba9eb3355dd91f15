-- Numbers of few digits.
use Rattle.std.proofs.Common.{◌≡◌, ℕ, ◌/◌, ◌%◌, ◌+◌, ◌<◌, ◌≤◌, List, [], ◌∷◌, ◌++◌, decimal, sym, ap, ◌∙◌, append_assoc, arith}
use Rattle.std.proofs.lemmas.Fmt.{decimal_digit, decimal_step}

pub one_digit : (n : ℕ) (text more : List ℕ) → n < 10 → more ≡ text ++ (48 + n) ∷ [] → more ≡ text ++ decimal n
one_digit n text more small a = a ∙ ap (λ xs. text ++ xs) (sym (decimal_digit n small))

-- one digit more behind those that were put
pub one_more : (n : ℕ) (text first more : List ℕ) → 10 ≤ n → n < 100000 → first ≡ text ++ decimal (n / 10) → more ≡ first ++ (48 + n % 10) ∷ [] → more ≡ text ++ decimal n
one_more n text first more large small a b =
    b ∙ ap (λ xs. xs ++ (48 + n % 10) ∷ []) a ∙ append_assoc text (decimal (n / 10)) ((48 + n % 10) ∷ []) ∙ ap (λ xs. text ++ xs) (sym (decimal_step n large (omega arith)))
