-- What taking requests from a queue's front, and putting some back there, makes of it.
use Rattle.std.proofs.Common.{◌≡◌, ℕ, zero, suc, ◌+◌, ◌<◌, ◌≤◌, Bool, true, cond, min, inl, inr, List, [], ◌∷◌, ◌++◌, drop, take, length, slice_index_or, drop-cons, ◌-◌, refl, sym, ap, ◌∙◌, arith}
use Rattle.std.specs.List.{filter}
use Rattle.std.proofs.lemmas.Bool.{cases_lt}
use Rattle.std.proofs.lemmas.List.{take_all}

pub drop_one : {X : Type 0} (n : ℕ) (xs : List X) → drop 1 (drop n xs) ≡ drop (n + 1) xs
drop_one {X} n xs = go n xs ∙ ap (λ k. drop k xs) (next n)
  where
    go : (n : ℕ) (xs : List X) → drop 1 (drop n xs) ≡ drop (suc n) xs
    go zero xs = refl
    go (suc n) [] = refl
    go (suc n) (x ∷ xs) = go n xs

    next : (n : ℕ) → suc n ≡ n + 1
    next n = omega arith

-- no more than there are
pub take_min : {X : Type 0} (xs : List X) (n most : ℕ) → n ≡ min (length xs) most → take n xs ≡ take most xs
take_min xs n most is = elim (cases_lt (length xs) most) [
  | inl less ↦ take_all n xs (omega (arith, is, less)) ∙ sym (take_all most xs (omega (arith, less)))
  | inr upto ↦ let same : n ≡ most = omega (arith, is, upto) in ap (λ k. take k xs) same
]

-- the item at a place, and those after it
at_index : {X : Type 0} (xs : List X) (i : ℕ) (x : X) → i < length xs → x ≡ slice_index_or xs i x → drop i xs ≡ x ∷ drop (suc i) xs
at_index xs i x within is = drop-cons xs i x within ∙ ap (λ y. y ∷ drop (suc i) xs) (sym is)

-- the request before a place goes back
pub put_before : {X : Type 0} (p : X → Bool) (xs ys : List X) (i : ℕ) (x : X) → 0 < i → i ≤ length xs → x ≡ slice_index_or xs (i - 1) x → p x ≡ true → x ∷ (filter p (drop i xs) ++ ys) ≡ filter p (drop (i - 1) xs) ++ ys
put_before p xs ys zero x some within is back = absurd (omega (arith, some))
put_before p xs ys (suc i) x some within is back =
    let last : suc i - 1 ≡ i = omega arith in
    let at = at_index xs i x (omega (arith, within)) (is ∙ ap (λ k. slice_index_or xs k x) last) in
    sym (ap (λ k. filter p (drop k xs) ++ ys) last ∙ ap (λ l. filter p l ++ ys) at ∙ ap (λ b. cond b (x ∷ filter p (drop (suc i) xs)) (filter p (drop (suc i) xs)) ++ ys) back)
