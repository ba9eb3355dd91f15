-- Two majorities of one group share a replica.
use Rattle.std.proofs.Common.{◌≡◌, ℕ, ◌+◌, ◌/◌, ◌≤◌, true, false, true≢false, List, [], ◌∷◌, ◌++◌, length, ◌⊎◌, inl, inr, ⊎_elim, sym, ◌∙◌, subst, arith, length-append}
use Rattle.std.specs.Prelude.{nat_eq}
use Rattle.std.specs.List.{list_any, IsDistinct, AllByRecursion}
use Rattle.std.proofs.lemmas.Bool.{cases_Bool, or_cases, or_left, or_right, eqb-true}
use Rattle.std.proofs.lemmas.Cmp.{nat_eq_equiv}
use Rattle.std.proofs.lemmas.List.Folds.{list_any-append}
use Rattle.std.proofs.lemmas.Map.Steps.{length-le_from_distinct_below}
use Rattle.calvin_synod.specs.Quorums.{IsIn, IsMajority}

pub nat_eq_itself : (a : ℕ) → nat_eq a a ≡ true
nat_eq_itself a = nat_eq_equiv.refl a

pub is_in_head : (a : ℕ) (q : List ℕ) → IsIn a (a ∷ q)
is_in_head a q = or_left (nat_eq a a) _ (nat_eq_itself a)

pub is_in_tail : (a b : ℕ) (q : List ℕ) → IsIn a q → IsIn a (b ∷ q)
is_in_tail a b q h = or_right (nat_eq a b) _ h

pub is_in_cases : (a b : ℕ) (q : List ℕ) → IsIn a (b ∷ q) → (a ≡ b) ⊎ IsIn a q
is_in_cases a b q h = ⊎_elim (λ (e : nat_eq a b ≡ true). inl (eqb-true a b e)) (λ (x : IsIn a q). inr x) (or_cases (nat_eq a b) (list_any (nat_eq a) q) h)

-- one that is not in a distinct list leaves it distinct
apart : (a : ℕ) (q : List ℕ) → (IsIn a q → ⊥) → AllByRecursion (λ b. nat_eq a b ≡ false) q
apart a [] out = tt
apart a (b ∷ q) out = (⊎_elim (λ (e : nat_eq a b ≡ true). absurd (out (or_left (nat_eq a b) _ e))) (λ (e : nat_eq a b ≡ false). e) (cases_Bool (nat_eq a b)), apart a q (λ h. out (is_in_tail a b q h)))

pub distinct_one_more : (a : ℕ) (q : List ℕ) → (IsIn a q → ⊥) → IsDistinct nat_eq q → IsDistinct nat_eq (a ∷ q)
unfolding IsDistinct
distinct_one_more a q out d = (apart a q out, d)

pub distinct_none : IsDistinct nat_eq []
unfolding IsDistinct
distinct_none = tt

head_out : (a : ℕ) (q : List ℕ) → AllByRecursion (λ b. nat_eq a b ≡ false) q → IsIn a q → ⊥
head_out a [] all h = true≢false (sym h)
head_out a (b ∷ q) all h = ⊎_elim (λ (e : nat_eq a b ≡ true). true≢false (sym e ∙ all.0)) (λ (x : IsIn a q). head_out a q all.1 x) (or_cases (nat_eq a b) (list_any (nat_eq a) q) h)

in_joined : (a : ℕ) (p q : List ℕ) → IsIn a (p ++ q) → IsIn a p ⊎ IsIn a q
in_joined a p q h = or_cases (list_any (nat_eq a) p) (list_any (nat_eq a) q) (sym (list_any-append (nat_eq a) p q) ∙ h)

distinct_joined : (p q : List ℕ) → IsDistinct nat_eq p → IsDistinct nat_eq q → ((a : ℕ) → IsIn a p → IsIn a q → ⊥) → IsDistinct nat_eq (p ++ q)
unfolding IsDistinct
distinct_joined [] q d e out = e
distinct_joined (a ∷ p) q d e out =
    distinct_one_more a (p ++ q)
    (λ h. ⊎_elim (λ (k : IsIn a p). head_out a p d.0 k) (λ (k : IsIn a q). out a (is_in_head a p) k) (in_joined a p q h))
    (distinct_joined p q d.1 e (λ b k. out b (is_in_tail b a p k)))

abbrev Shared : List ℕ → List ℕ → Type 0
Shared p q = (a : ℕ) × IsIn a p × IsIn a q

shared_or_none : (p q : List ℕ) → Shared p q ⊎ ((a : ℕ) → IsIn a p → IsIn a q → ⊥)
shared_or_none [] q = inr (λ a h k. true≢false (sym h))
shared_or_none (b ∷ p) q =
    ⊎_elim
    (λ (k : IsIn b q). inl (b, is_in_head b p, k))
    (λ (k : list_any (nat_eq b) q ≡ false). ⊎_elim
    (λ (s : Shared p q). inl (s.0, is_in_tail s.0 b p s.1, s.2))
    (λ (none : (a : ℕ) → IsIn a p → IsIn a q → ⊥). inr (λ a h m. ⊎_elim (λ (e : a ≡ b). true≢false (sym (subst (λ x. IsIn x q) e m) ∙ k)) (λ (h' : IsIn a p). none a h' m) (is_in_cases a b p h)))
    (shared_or_none p q))
    (cases_Bool (list_any (nat_eq b) q))

pub majorities_share : {size : ℕ} {p q : List ℕ} → IsMajority size p → IsMajority size q → (a : ℕ) × IsIn a p × IsIn a q
majorities_share {size} {p} {q} m n =
    ⊎_elim
    (λ (s : Shared p q). s)
    (λ (none : (a : ℕ) → IsIn a p → IsIn a q → ⊥).
    let few : length (p ++ q) ≤ size = length-le_from_distinct_below (p ++ q) size (distinct_joined p q m.distinct n.distinct none) (λ a h. ⊎_elim (m.within a) (n.within a) (in_joined a p q h)) in
    let enough : size / 2 + 1 ≤ length p = m.enough in
    let enough' : size / 2 + 1 ≤ length q = n.enough in
    absurd (omega (arith, length-append p q)))
    (shared_or_none p q)

-- a majority has a member
pub majority_member : {size : ℕ} {q : List ℕ} → IsMajority size q → (a : ℕ) × IsIn a q
majority_member {size} {q} m = some_member q (omega (arith, m.enough))
  where
    some_member : (q : List ℕ) → 1 ≤ length q → (a : ℕ) × IsIn a q
    some_member [] h = absurd (omega arith)
    some_member (a ∷ q) h = (a, is_in_head a q)

-- one more at the end
pub is_in_push_cases : (a b : ℕ) (q : List ℕ) → IsIn a (q ++ b ∷ []) → (a ≡ b) ⊎ IsIn a q
is_in_push_cases a b [] h = is_in_cases a b [] h
is_in_push_cases a b (c ∷ q) h =
    ⊎_elim
    (λ (e : nat_eq a c ≡ true). inr (or_left (nat_eq a c) _ e))
    (λ (x : IsIn a (q ++ b ∷ [])). ⊎_elim (λ (e : a ≡ b). inl e) (λ (k : IsIn a q). inr (is_in_tail a c q k)) (is_in_push_cases a b q x))
    (or_cases (nat_eq a c) (list_any (nat_eq a) (q ++ b ∷ [])) h)

pub distinct_push : (a : ℕ) (q : List ℕ) → (IsIn a q → ⊥) → IsDistinct nat_eq q → IsDistinct nat_eq (q ++ a ∷ [])
distinct_push a q out d = distinct_joined q (a ∷ []) d (distinct_one_more a [] (λ h. true≢false (sym h)) distinct_none) (λ b h k. ⊎_elim (λ (e : b ≡ a). out (subst (λ x. IsIn x q) e h)) (λ (n : IsIn b []). true≢false (sym n)) (is_in_cases b a [] k))
