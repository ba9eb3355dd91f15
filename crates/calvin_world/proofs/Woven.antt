-- A woven epoch is a permutation of its batches.
use Rattle.std.proofs.Common.{◌≡◌, ℕ, zero, suc, ◌+◌, ◌<◌, ◌≤◌, [], ◌∷◌, ◌++◌, ◌⊎◌, inl, inr, refl, sym, ap, subst, ◌∙◌, length, arith, append_assoc}
use Rattle.std.specs.List.{Contains}
use Rattle.std.specs.Prelude.{nat_eq, IsPermutation}
use Rattle.std.proofs.Common.{cond, take}
use Rattle.std.proofs.lemmas.List.{length-append}
use Rattle.std.proofs.lemmas.List.Sorted.{length_permutation, Contains-permutation, IsPermutation-refl, IsPermutation-trans, IsPermutation-append_comm, IsPermutation-append_left, IsPermutation-append_right}
use Rattle.std.proofs.lemmas.Bool.{cases_lt}
use Rattle.std.proofs.lemmas.List.Elements.{Contains-append_left, Contains-append_right}
use Rattle.calvin_types.specs.declared.place.Slot.{Slot}
use Rattle.calvin_types.specs.declared.txn.Txn.{Txn}
use Rattle.calvin_order.specs.Configs.{at_number, layer, layers, woven}
use Rattle.calvin_order.specs.Merged.{Batch, Assignment, joined}

abbrev slot_at : ℕ → ℕ → Slot
slot_at p e = record { epoch = e; group = p }

module _ {Args : Type 0} where
  not_longer : (B : Assignment Args) (e g h : ℕ) → h < g → length (B (slot_at h e)) ≤ length (joined B e g)
  not_longer B e zero h less = absurd (omega (arith, less))
  not_longer B e (suc g) h less = go (cases_lt h g) (λ low. not_longer B e g h low)
    where
      all : length (joined B e (suc g)) ≡ length (joined B e g) + length (B (slot_at g e))
      all = length-append (joined B e g) (B (slot_at g e))

      go : (h < g) ⊎ (g ≤ h) → ((h < g) → length (B (slot_at h e)) ≤ length (joined B e g)) → length (B (slot_at h e)) ≤ length (joined B e (suc g))
      go (inl low) rest = let old = rest low in omega (arith, old, all)
      go (inr top) rest = let at : h ≡ g = omega (arith, less, top) in let same : length (B (slot_at h e)) ≡ length (B (slot_at g e)) = ap (λ k. length (B (slot_at k e))) at in omega (arith, same, all)

  -- the first k requests of each batch, by group
  abbrev firsts : Assignment Args → ℕ → ℕ → ℕ → Batch Args
  firsts B e zero k = []
  firsts B e (suc g) k = firsts B e g k ++ take k (B (slot_at g e))

  one_more : (ts : Batch Args) (n : ℕ) → take (suc n) ts ≡ take n ts ++ at_number ts n
  one_more [] zero = refl
  one_more [] (suc n) = refl
  one_more (t ∷ ts) zero = refl
  one_more (t ∷ ts) (suc n) = ap (λ us. t ∷ us) (one_more ts n)

  take_all : (ts : Batch Args) (k : ℕ) → length ts ≤ k → take k ts ≡ ts
  take_all [] zero upto = refl
  take_all [] (suc k) upto = refl
  take_all (t ∷ ts) zero upto = absurd (let h = upto in omega (arith, h))
  take_all (t ∷ ts) (suc k) upto = ap (λ us. t ∷ us) (take_all ts k (let h = upto in omega (arith, h)))

  regrouped : (a l t n : Batch Args) → (a ++ l) ++ (t ++ n) ≡ a ++ ((l ++ t) ++ n)
  regrouped a l t n = append_assoc a l (t ++ n) ∙ ap (λ us. a ++ us) (sym (append_assoc l t n))

  swapped : (a l t n : Batch Args) → IsPermutation ((a ++ l) ++ (t ++ n)) ((a ++ t) ++ (l ++ n))
  swapped a l t n =
      subst (λ us. IsPermutation us ((a ++ t) ++ (l ++ n))) (sym (regrouped a l t n))
      (subst (IsPermutation (a ++ ((l ++ t) ++ n))) (sym (regrouped a t l n))
      (IsPermutation-append_right a ((l ++ t) ++ n) ((t ++ l) ++ n) (IsPermutation-append_left n (l ++ t) (t ++ l) (IsPermutation-append_comm l t))))

  -- one request more of each is one layer more
  layer_more : (B : Assignment Args) (e g k : ℕ) → IsPermutation (firsts B e g (suc k)) (firsts B e g k ++ layer B e g k)
  layer_more B e zero k = IsPermutation-refl []
  layer_more B e (suc g) k =
      let b = B (slot_at g e) in
      IsPermutation-trans (firsts B e g (suc k) ++ take (suc k) b) ((firsts B e g k ++ layer B e g k) ++ (take k b ++ at_number b k)) ((firsts B e g k ++ take k b) ++ (layer B e g k ++ at_number b k))
      (subst (λ us. IsPermutation (firsts B e g (suc k) ++ take (suc k) b) ((firsts B e g k ++ layer B e g k) ++ us)) (one_more b k)
      (IsPermutation-append_left (take (suc k) b) (firsts B e g (suc k)) (firsts B e g k ++ layer B e g k) (layer_more B e g k)))
      (swapped (firsts B e g k) (layer B e g k) (take k b) (at_number b k))

  none_first : (B : Assignment Args) (e g : ℕ) → firsts B e g 0 ≡ []
  none_first B e zero = refl
  none_first B e (suc g) = ap (λ us. us ++ take 0 (B (slot_at g e))) (none_first B e g)

  layers_are : (B : Assignment Args) (e g k : ℕ) → IsPermutation (firsts B e g k) (layers B e g k)
  layers_are B e g zero = subst (λ us. IsPermutation us []) (sym (none_first B e g)) (IsPermutation-refl [])
  layers_are B e g (suc k) =
      IsPermutation-trans (firsts B e g (suc k)) (firsts B e g k ++ layer B e g k) (layers B e g k ++ layer B e g k)
      (layer_more B e g k) (IsPermutation-append_left (layer B e g k) (firsts B e g k) (layers B e g k) (layers_are B e g k))

  first_all : (B : Assignment Args) (e g k : ℕ) → ((h : ℕ) → h < g → length (B (slot_at h e)) ≤ k) → firsts B e g k ≡ joined B e g
  first_all B e zero k upto = refl
  first_all B e (suc g) k upto = λ i. first_all B e g k (λ h less. upto h (omega (arith, less))) i ++ take_all (B (slot_at g e)) k (upto g (omega arith)) i

  -- each request stands in the weave as often as in the batches
  pub permuted : (B : Assignment Args) (e g : ℕ) → IsPermutation (joined B e g) (woven B e g)
  permuted B e g = subst (λ us. IsPermutation us (woven B e g)) (first_all B e g (length (joined B e g)) (not_longer B e g)) (layers_are B e g (length (joined B e g)))

  pub same_number : (B : Assignment Args) (e g : ℕ) → length (woven B e g) ≡ length (joined B e g)
  same_number B e g = length_permutation (joined B e g) (woven B e g) (permuted B e g)

  in_joined : (B : Assignment Args) (e g h : ℕ) (t : Txn Args) → h < g → Contains (B (slot_at h e)) t → Contains (joined B e g) t
  in_joined B e zero h t less c = absurd (omega (arith, less))
  in_joined B e (suc g) h t less c = go (cases_lt h g) (λ low. in_joined B e g h t low c)
    where
      go : (h < g) ⊎ (g ≤ h) → ((h < g) → Contains (joined B e g) t) → Contains (joined B e (suc g)) t
      go (inl low) rest = Contains-append_left (joined B e g) (B (slot_at g e)) t (rest low)
      go (inr top) rest = let at : h ≡ g = omega (arith, less, top) in Contains-append_right (joined B e g) (B (slot_at g e)) t (subst (λ k. Contains (B (slot_at k e)) t) at c)

  pub all_woven : (B : Assignment Args) (e g h : ℕ) → h < g → (t : Txn Args) → Contains (B (slot_at h e)) t → Contains (woven B e g) t
  all_woven B e g h less t c = Contains-permutation (joined B e g) (woven B e g) t (permuted B e g) (in_joined B e g h t less c)

  -- the example of three groups, [a, b], [], [c, d, e]
  module _ (a b c d e : Txn Args) where
    abbrev three : Assignment Args
    three slot = cond (nat_eq slot.group 0) (a ∷ b ∷ []) (cond (nat_eq slot.group 1) [] (c ∷ d ∷ e ∷ []))

    woven_three : woven three 1 3 ≡ a ∷ c ∷ b ∷ d ∷ e ∷ []
    woven_three = refl

    joined_three : joined three 0 3 ≡ a ∷ b ∷ c ∷ d ∷ e ∷ []
    joined_three = refl
