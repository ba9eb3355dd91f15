-- The next epoch is the least, from the opening one on, that is neither closed nor known as decided.
use Rattle.std.proofs.Common.{◌≡◌, ℕ, zero, suc, ◌+◌, ◌<◌, ◌≤◌, Bool, true, false, cond, List, [], ◌∷◌, ◌++◌, length, ◌⊎◌, inl, inr, ⊎_elim, refl, sym, ap, ◌∙◌, subst, arith, map, Some, length-append}
use Rattle.std.specs.Prelude.{nat_eq, is_some}
use Rattle.std.specs.List.{list_any, IsDistinct, AllByRecursion}
use Rattle.std.proofs.lemmas.Bool.{cases_Bool, cases_lt, false≢true, true≢false, or_cases, or_left, or_right, eqb-true}
use Rattle.std.proofs.lemmas.Cmp.{nat_eq_equiv}
use Rattle.std.proofs.lemmas.List.Folds.{list_any-append}
use Rattle.std.proofs.lemmas.Map.Made.{length-le_from_is_member}
use Rattle.calvin_order.specs.Merged.{Batch}
use Rattle.calvin_order.specs.Sequencing.{Sequencing, first_not, closed_in, is_decided, is_used, next_epoch}

abbrev IsIn : ℕ → List ℕ → Type 0
IsIn a q = list_any (nat_eq a) q ≡ true

is_in_head : (a : ℕ) (q : List ℕ) → IsIn a (a ∷ q)
is_in_head a q = or_left (nat_eq a a) _ (nat_eq_equiv.refl a)

is_in_tail : (a b : ℕ) (q : List ℕ) → IsIn a q → IsIn a (b ∷ q)
is_in_tail a b q h = or_right (nat_eq a b) _ h

is_in_cases : (a b : ℕ) (q : List ℕ) → IsIn a (b ∷ q) → (a ≡ b) ⊎ IsIn a q
is_in_cases a b q h = ⊎_elim (λ (e : nat_eq a b ≡ true). inl (eqb-true a b e)) (λ (x : IsIn a q). inr x) (or_cases (nat_eq a b) (list_any (nat_eq a) q) h)

-- one that is not in a distinct list leaves it distinct
apart : (a : ℕ) (q : List ℕ) → (IsIn a q → ⊥) → AllByRecursion (λ b. nat_eq a b ≡ false) q
apart a [] out = tt
apart a (b ∷ q) out = (⊎_elim (λ (e : nat_eq a b ≡ true). absurd (out (or_left (nat_eq a b) _ e))) (λ (e : nat_eq a b ≡ false). e) (cases_Bool (nat_eq a b)), apart a q (λ h. out (is_in_tail a b q h)))

distinct_one_more : (a : ℕ) (q : List ℕ) → (IsIn a q → ⊥) → IsDistinct nat_eq q → IsDistinct nat_eq (a ∷ q)
unfolding IsDistinct
distinct_one_more a q out d = (apart a q out, d)

distinct_none : IsDistinct nat_eq []
unfolding IsDistinct
distinct_none = tt

-- of the first number that doesn't pass: each before it does
pub first_least : (p : ℕ → Bool) (a n : ℕ) → (f : ℕ) → a ≤ f → f < first_not p a n → p f ≡ true
first_least p a zero f low high = absurd (omega (arith, low, high))
first_least p a (suc n) f low high = go (p a) refl high (λ up below. first_least p (suc a) n f up below)
  where
    go : (b : Bool) → p a ≡ b → f < cond b (first_not p (suc a) n) a → (suc a ≤ f → f < first_not p (suc a) n → p f ≡ true) → p f ≡ true
    go false is high rest = absurd (omega (arith, low, high))
    go true is high rest = elim (cases_lt a f) [
      | inl more ↦ rest (omega (arith, more)) high
      | inr same ↦ let at : a ≡ f = omega (arith, low, same) in ap p (sym at) ∙ is
    ]

-- it is the first one or a later one
pub first_from : (p : ℕ → Bool) (a n : ℕ) → a ≤ first_not p a n
first_from p a zero = omega arith
first_from p a (suc n) = go (p a) (first_from p (suc a) n)
  where
    go : (b : Bool) → suc a ≤ first_not p (suc a) n → a ≤ cond b (first_not p (suc a) n) a
    go true more = omega (arith, more)
    go false more = omega arith

-- it isn't used, or it is the one after all that were looked at
pub first_stops : (p : ℕ → Bool) (a n : ℕ) → (p (first_not p a n) ≡ false) ⊎ (first_not p a n ≡ a + n)
first_stops p a zero = inr (omega arith)
first_stops p a (suc n) = go (p a) refl (first_stops p (suc a) n)
  where
    go : (b : Bool) → p a ≡ b → (p (first_not p (suc a) n) ≡ false) ⊎ (first_not p (suc a) n ≡ suc a + n) → (p (cond b (first_not p (suc a) n) a) ≡ false) ⊎ (cond b (first_not p (suc a) n) a ≡ a + suc n)
    go true is (inl free) = inl free
    go true is (inr last) = inr (last ∙ omega arith)
    go false is rest = inl is

-- so many numbers, from a on
abbrev up_from : ℕ → ℕ → List ℕ
up_from a zero = []
up_from a (suc n) = a ∷ up_from (suc a) n

length-up : (a n : ℕ) → length (up_from a n) ≡ n
length-up a zero = refl
length-up a (suc n) = ap suc (length-up (suc a) n)

up_bounds : (a n q : ℕ) → IsIn q (up_from a n) → (a ≤ q) × (q < a + n)
up_bounds a zero q i = absurd (false≢true i)
up_bounds a (suc n) q i = go (is_in_cases q a (up_from (suc a) n) i) (up_bounds (suc a) n q)
  where
    go : (q ≡ a) ⊎ IsIn q (up_from (suc a) n) → (IsIn q (up_from (suc a) n) → (suc a ≤ q) × (q < suc a + n)) → (a ≤ q) × (q < a + suc n)
    go (inl e) more = (omega (arith, e), omega (arith, e))
    go (inr j) more = let both = more j in let low = both.0 in let high = both.1 in (omega (arith, low), omega (arith, high))

up_distinct : (a n : ℕ) → IsDistinct nat_eq (up_from a n)
up_distinct a zero = distinct_none
up_distinct a (suc n) = distinct_one_more a (up_from (suc a) n) (λ i. let low = (up_bounds (suc a) n a i).0 in omega (arith, low)) (up_distinct (suc a) n)

module _ {Args : Type 0} where
  -- a closed epoch is among those of the closed batches
  closed_in_list : (cs : List (ℕ × Batch Args)) (e : ℕ) → is_some (closed_in cs e) ≡ true → IsIn e (map (λ c. c.0) cs)
  closed_in_list [] e h = absurd (false≢true h)
  closed_in_list (c ∷ cs) e h = go (nat_eq c.0 e) refl h (closed_in_list cs e)
    where
      go : (b : Bool) → nat_eq c.0 e ≡ b → is_some (cond b (Some c.1) (closed_in cs e)) ≡ true → (is_some (closed_in cs e) ≡ true → IsIn e (map (λ (c : ℕ × Batch Args). c.0) cs)) → IsIn e (c.0 ∷ map (λ (c : ℕ × Batch Args). c.0) cs)
      go true is h rest = let same : c.0 ≡ e = grind (arith, is) in subst (λ z. IsIn z (c.0 ∷ map (λ (c : ℕ × Batch Args). c.0) cs)) same (is_in_head c.0 (map (λ (c : ℕ × Batch Args). c.0) cs))
      go false is h rest = is_in_tail e c.0 (map (λ (c : ℕ × Batch Args). c.0) cs) (rest h)

  length-keys : (cs : List (ℕ × Batch Args)) → length (map (λ c. c.0) cs) ≡ length cs
  length-keys [] = refl
  length-keys (c ∷ cs) = ap suc (length-keys cs)

  used_listed : (s : Sequencing Args) (e : ℕ) → is_used s e ≡ true → IsIn e (map (λ c. c.0) s.closed ++ s.decided)
  used_listed s e h = list_any-append (nat_eq e) (map (λ c. c.0) s.closed) s.decided ∙ elim (or_cases (is_some (closed_in s.closed e)) (is_decided s e) h) [
    | inl closed ↦ or_left (list_any (nat_eq e) (map (λ c. c.0) s.closed)) (list_any (nat_eq e) s.decided) (closed_in_list s.closed e closed)
    | inr decided ↦ or_right (list_any (nat_eq e) (map (λ c. c.0) s.closed)) (list_any (nat_eq e) s.decided) decided
  ]

  -- the next epoch is neither closed nor known as decided
  pub next_unused : (s : Sequencing Args) → is_used s (next_epoch s) ≡ false
  next_unused s = elim (first_stops (is_used s) s.opening (length s.closed + length s.decided)) [
    | inl free ↦ free
    | inr last ↦ go last (is_used s (next_epoch s)) refl
  ]
    where
      listed : next_epoch s ≡ s.opening + (length s.closed + length s.decided) → is_used s (next_epoch s) ≡ true → (q : ℕ) → IsIn q (up_from s.opening (suc (length s.closed + length s.decided))) → IsIn q (map (λ (c : ℕ × Batch Args). c.0) s.closed ++ s.decided)
      listed last used q i =
          let bounds = up_bounds s.opening (suc (length s.closed + length s.decided)) q i in
          let low = bounds.0 in
          let high = bounds.1 in
          used_listed s q (elim (cases_lt q (next_epoch s)) [
            | inl less ↦ first_least (is_used s) s.opening (length s.closed + length s.decided) q low less
            | inr upto ↦ let same : next_epoch s ≡ q = omega (arith, upto, last, high) in ap (is_used s) (sym same) ∙ used
          ])

      go : next_epoch s ≡ s.opening + (length s.closed + length s.decided) → (b : Bool) → is_used s (next_epoch s) ≡ b → is_used s (next_epoch s) ≡ false
      go last false is = is
      go last true is =
          let few = length-le_from_is_member nat_eq_equiv (up_from s.opening (suc (length s.closed + length s.decided))) (map (λ (c : ℕ × Batch Args). c.0) s.closed ++ s.decided) (up_distinct s.opening (suc (length s.closed + length s.decided))) (listed last is) in
          let many = length-up s.opening (suc (length s.closed + length s.decided)) in
          let all = length-append (map (λ (c : ℕ × Batch Args). c.0) s.closed) s.decided in
          let keys = length-keys s.closed in
          absurd (omega (arith, few, many, all, keys))

  -- each before it, from the opening one on, is
  pub used_before : (s : Sequencing Args) (e : ℕ) → s.opening ≤ e → e < next_epoch s → is_used s e ≡ true
  used_before s e low high = first_least (is_used s) s.opening (length s.closed + length s.decided) e low high

  -- it is the opening one or a later one
  pub opens_before : (s : Sequencing Args) → s.opening ≤ next_epoch s
  opens_before s = first_from (is_used s) s.opening (length s.closed + length s.decided)

  -- what isn't used, where all before it is, is the next epoch
  pub is_next : (s : Sequencing Args) (n : ℕ) → s.opening ≤ n → ((e : ℕ) → s.opening ≤ e → e < n → is_used s e ≡ true) → is_used s n ≡ false → n ≡ next_epoch s
  is_next s n low all free = elim (cases_lt n (next_epoch s)) [
    | inl less ↦ absurd (true≢false (sym (used_before s n low less) ∙ free))
    | inr upto ↦ elim (cases_lt (next_epoch s) n) [
      | inl less ↦ absurd (true≢false (sym (all (next_epoch s) (opens_before s) less) ∙ next_unused s))
      | inr back ↦ omega (arith, upto, back)
    ]
  ]
