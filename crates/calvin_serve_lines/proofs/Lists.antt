-- One place of a list that a function gives.
use Rattle.std.proofs.Common.{◌≡◌, ◌≤◌, ◌<◌, ◌+◌, ℕ, zero, suc, List, [], ◌∷◌, ◌++◌, map, length, get_or, refl, sym, ap, ap₂, ◌∙◌, arith, slice_set}
use Rattle.std.specs.List.{range_with_len}

module _ {X : Type 0} where
  same_from : (f g : ℕ → X) (n b : ℕ) → ((k : ℕ) → b ≤ k → g k ≡ f k) → map f (range_with_len b n) ≡ map g (range_with_len b n)
  same_from f g zero b same = refl
  same_from f g (suc n) b same = ap₂ (λ x xs. x ∷ xs) (sym (same b (omega arith))) (same_from f g n (b + 1) (λ k above. same k (omega (arith, above))))

  pub put_at : (f g : ℕ → X) (n b i : ℕ) (x : X) → i < n → g (b + i) ≡ x → ((k : ℕ) → (k ≡ b + i → ⊥) → g k ≡ f k) → slice_set (map f (range_with_len b n)) i x ≡ map g (range_with_len b n)
  put_at f g zero b i x within here other = absurd (omega (arith, within))
  put_at f g (suc n) b zero x within here other =
      let at : b + 0 ≡ b = omega arith in
      ap₂ (λ y xs. y ∷ xs) (sym here ∙ ap g at) (same_from f g n (b + 1) (λ k above. other k (λ is. omega (arith, above, is))))
  put_at f g (suc n) b (suc i) x within here other =
      let at : (b + 1) + i ≡ b + suc i = omega arith in
      ap₂ (λ y xs. y ∷ xs) (sym (other b (λ is. omega (arith, is)))) (put_at f g n (b + 1) i x (omega (arith, within)) (ap g at ∙ here) (λ k apart. other k (λ is. apart (is ∙ sym at))))

  pub get_at : (f : ℕ → X) (n b i : ℕ) (x : X) → i < n → get_or (map f (range_with_len b n)) i x ≡ f (b + i)
  get_at f zero b i x within = absurd (omega (arith, within))
  get_at f (suc n) b zero x within = let at : b ≡ b + 0 = omega arith in ap f at
  get_at f (suc n) b (suc i) x within = let at : (b + 1) + i ≡ b + suc i = omega arith in get_at f n (b + 1) i x (omega (arith, within)) ∙ ap f at

pub length-given : {X : Type 0} (f : ℕ → X) (n b : ℕ) → length (map f (range_with_len b n)) ≡ n
length-given f zero b = refl
length-given f (suc n) b = ap suc (length-given f n (b + 1))

pub get_or_any : {X : Type 0} (xs : List X) (i : ℕ) (x y : X) → i < length xs → get_or xs i x ≡ get_or xs i y
get_or_any [] i x y within = absurd (omega (arith, within))
get_or_any (z ∷ xs) zero x y within = refl
get_or_any (z ∷ xs) (suc i) x y within = get_or_any xs i x y (omega (arith, within))

-- the same for each number, and once more
pub once_more : {X : Type 0} (x : X) (n b : ℕ) → map (λ _. x) (range_with_len b n) ++ x ∷ [] ≡ map (λ _. x) (range_with_len b (n + 1))
once_more x zero b = let e : 1 ≡ 0 + 1 = omega arith in ap (λ m. map (λ _. x) (range_with_len b m)) e
once_more x (suc n) b =
    let e : suc (n + 1) ≡ suc n + 1 = omega arith in
    ap (λ xs. x ∷ xs) (once_more x n (b + 1)) ∙ ap (λ m. map (λ _. x) (range_with_len b m)) e
