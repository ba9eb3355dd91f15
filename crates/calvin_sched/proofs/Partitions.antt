-- Tests of the partitions in turn.
use Rattle.std.proofs.Common.{◌≡◌, ℕ, zero, suc, ◌+◌, ◌<◌, ◌≤◌, Bool, true, false, cond, ◌||◌, List, [], ◌∷◌, ◌++◌, length, refl, sym, ap, subst, ◌∙◌, arith}
use Rattle.std.proofs.lemmas.Bool.{false≢true, or_left, or_right, eqb-true, eq-eqb}
use Rattle.std.proofs.lemmas.List.{append-nil}
use Rattle.std.proofs.lemmas.List.FromFn.{filter_of_map_range_with_len_more}
use Rattle.std.specs.Prelude.{◌==◌, map}
use Rattle.std.specs.List.{filter, list_any, range_with_len}

same_map : (xs : List ℕ) → map (λ x. x) xs ≡ xs
same_map [] = refl
same_map (x ∷ xs) = ap (λ ys. x ∷ ys) (same_map xs)

module _ (p : ℕ → Bool) where
  -- those of one partition more
  taken_more : (n : ℕ) → filter p (range_with_len 0 (n + 1)) ≡ filter p (range_with_len 0 n) ++ cond (p n) (n ∷ []) []
  taken_more n =
      ap (filter p) (sym (same_map (range_with_len 0 (n + 1)))) ∙ filter_of_map_range_with_len_more p (λ x. x) 0 n n (omega arith)
      ∙ ap (λ xs. filter p xs ++ cond (p n) (n ∷ []) []) (same_map (range_with_len 0 n))

  -- one partition more that passes
  pub one_more : (n : ℕ) → p n ≡ true → filter p (range_with_len 0 (n + 1)) ≡ filter p (range_with_len 0 n) ++ n ∷ []
  one_more n h = taken_more n ∙ ap (λ b. filter p (range_with_len 0 n) ++ cond b (n ∷ []) []) h

  -- and one that doesn't
  pub none_more : (n : ℕ) → p n ≡ false → filter p (range_with_len 0 (n + 1)) ≡ filter p (range_with_len 0 n)
  none_more n h = taken_more n ∙ ap (λ b. filter p (range_with_len 0 n) ++ cond b (n ∷ []) []) h ∙ append-nil (filter p (range_with_len 0 n))

in_range : (a n k : ℕ) → a ≤ k → k < a + n → list_any (λ x. x == k) (range_with_len a n) ≡ true
in_range a zero k l h = absurd (omega arith)
in_range a (suc n) k l h = go (a == k) refl (λ far. in_range (a + 1) n k (omega (arith, far)) (omega arith))
  where
    go : (b : Bool) → (a == k) ≡ b → ((a ≡ k → ⊥) → list_any (λ x. x == k) (range_with_len (a + 1) n) ≡ true) → ((a == k) || list_any (λ x. x == k) (range_with_len (a + 1) n)) ≡ true
    go true e rest = or_left (a == k) (list_any (λ x. x == k) (range_with_len (a + 1) n)) e
    go false e rest = or_right (a == k) (list_any (λ x. x == k) (range_with_len (a + 1) n)) (rest (λ same. false≢true (sym e ∙ eq-eqb a k same)))

module _ (p r : ℕ → Bool) (fewer : (k : ℕ) → r k ≡ true → p k ≡ true) where
  pub no_more : (xs : List ℕ) → length (filter r xs) ≤ length (filter p xs)
  no_more [] = omega arith
  no_more (x ∷ xs) = go (r x) refl (p x) refl (no_more xs)
    where
      go : (b : Bool) → r x ≡ b → (d : Bool) → p x ≡ d → length (filter r xs) ≤ length (filter p xs) → length (filter r (x ∷ xs)) ≤ length (filter p (x ∷ xs))
      go true e true f le = subst (λ b. length (cond b (x ∷ filter r xs) (filter r xs)) ≤ length (filter p (x ∷ xs))) (sym e) (subst (λ b. length (x ∷ filter r xs) ≤ length (cond b (x ∷ filter p xs) (filter p xs))) (sym f) (omega (arith, le)))
      go true e false f le = absurd (false≢true (sym f ∙ fewer x e))
      go false e true f le = subst (λ b. length (cond b (x ∷ filter r xs) (filter r xs)) ≤ length (filter p (x ∷ xs))) (sym e) (subst (λ b. length (filter r xs) ≤ length (cond b (x ∷ filter p xs) (filter p xs))) (sym f) (omega (arith, le)))
      go false e false f le = subst (λ b. length (cond b (x ∷ filter r xs) (filter r xs)) ≤ length (filter p (x ∷ xs))) (sym e) (subst (λ b. length (filter r xs) ≤ length (cond b (x ∷ filter p xs) (filter p xs))) (sym f) le)

  module _ (k : ℕ) (passed : p k ≡ true) (stopped : r k ≡ false) where
    less_of : (xs : List ℕ) → list_any (λ x. x == k) xs ≡ true → length (filter r xs) + 1 ≤ length (filter p xs)
    less_of [] h = absurd (false≢true h)
    less_of (x ∷ xs) h = go (x == k) refl (less_of xs)
      where
        here : x ≡ k → length (filter r (x ∷ xs)) + 1 ≤ length (filter p (x ∷ xs))
        here same = subst (λ b. length (cond b (x ∷ filter r xs) (filter r xs)) + 1 ≤ length (filter p (x ∷ xs))) (sym (ap r same ∙ stopped))
            (subst (λ b. length (filter r xs) + 1 ≤ length (cond b (x ∷ filter p xs) (filter p xs))) (sym (ap p same ∙ passed)) (omega (arith, no_more xs)))

        later : length (filter r xs) + 1 ≤ length (filter p xs) → (b : Bool) → r x ≡ b → (d : Bool) → p x ≡ d → length (filter r (x ∷ xs)) + 1 ≤ length (filter p (x ∷ xs))
        later le true e true f = subst (λ b. length (cond b (x ∷ filter r xs) (filter r xs)) + 1 ≤ length (filter p (x ∷ xs))) (sym e) (subst (λ b. length (x ∷ filter r xs) + 1 ≤ length (cond b (x ∷ filter p xs) (filter p xs))) (sym f) (omega (arith, le)))
        later le true e false f = absurd (false≢true (sym f ∙ fewer x e))
        later le false e true f = subst (λ b. length (cond b (x ∷ filter r xs) (filter r xs)) + 1 ≤ length (filter p (x ∷ xs))) (sym e) (subst (λ b. length (filter r xs) + 1 ≤ length (cond b (x ∷ filter p xs) (filter p xs))) (sym f) (omega (arith, le)))
        later le false e false f = subst (λ b. length (cond b (x ∷ filter r xs) (filter r xs)) + 1 ≤ length (filter p (x ∷ xs))) (sym e) (subst (λ b. length (filter r xs) + 1 ≤ length (cond b (x ∷ filter p xs) (filter p xs))) (sym f) le)

        go : (b : Bool) → (x == k) ≡ b → (list_any (λ y. y == k) xs ≡ true → length (filter r xs) + 1 ≤ length (filter p xs)) → length (filter r (x ∷ xs)) + 1 ≤ length (filter p (x ∷ xs))
        go true e rest = here (eqb-true x k e)
        go false e rest = later (rest (ap (λ b. b || list_any (λ y. y == k) xs) (sym e) ∙ h)) (r x) refl (p x) refl

    -- of so many partitions one passes no more, and none passes that didn't
    pub one_less : (n : ℕ) → k < n → length (filter r (range_with_len 0 n)) + 1 ≤ length (filter p (range_with_len 0 n))
    one_less n h = less_of (range_with_len 0 n) (in_range 0 n k (omega arith) (omega arith))
