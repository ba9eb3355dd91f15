-- What maps have at their keys, in any order that tells keys apart.
use Rattle.std.proofs.Common.{◌≡◌, ◌≢◌, Bool, true, false, true≢false, cond, ◌⊎◌, inl, inr, refl, sym, ap, ◌∙◌, subst, Some, None, Ordering}
use Rattle.std.specs.Ordering.{is_eq, eq_by_cmp}
use Rattle.std.specs.Cmp.{IsTotalOrder, Equal-is}
use Rattle.std.specs.FinMap.{FinMap, IsAntisymmetric, get, insert, remove, get-insert, get-remove}
use Rattle.std.proofs.lemmas.Cmp.{tied_itself}

module _ {K : Type 0} (R : K → K → Ordering) (total : IsTotalOrder R) (exact : IsAntisymmetric R) where
  itself : (k : K) → eq_by_cmp R k k ≡ true
  itself k = ap is_eq (tied_itself total k)

  apart : (q k : K) → q ≢ k → eq_by_cmp R q k ≡ false
  apart q k far = at_test _ refl
    where
      at_test : (b : Bool) → eq_by_cmp R q k ≡ b → eq_by_cmp R q k ≡ false
      at_test true e = absurd (far (exact q k ((Equal-is (R q k)).0 e)))
      at_test false e = e

  pub same_or_not : (q k : K) → (q ≡ k) ⊎ (q ≢ k)
  same_or_not q k = at_test _ refl
    where
      at_test : (b : Bool) → eq_by_cmp R q k ≡ b → (q ≡ k) ⊎ (q ≢ k)
      at_test true e = inl (exact q k ((Equal-is (R q k)).0 e))
      at_test false e = inr (λ h. true≢false (sym (subst (λ u. eq_by_cmp R q u ≡ true) h (itself q)) ∙ e))

  module _ {X : Type 0} where
    pub insert_here : (m : FinMap R X) (k : K) (v : X) → get (insert m k v) k ≡ Some v
    insert_here m k v = get-insert total m k v k ∙ ap (λ b. cond b (Some v) (get m k)) (itself k)

    pub insert_other : (m : FinMap R X) (k : K) (v : X) (q : K) → q ≢ k → get (insert m k v) q ≡ get m q
    insert_other m k v q far = get-insert total m k v q ∙ ap (λ b. cond b (Some v) (get m q)) (apart q k far)

    pub remove_here : (m : FinMap R X) (k : K) → get (remove m k) k ≡ None
    remove_here m k = get-remove total m k k ∙ ap (λ b. cond b None (get m k)) (itself k)

    pub remove_other : (m : FinMap R X) (k q : K) → q ≢ k → get (remove m k) q ≡ get m q
    remove_other m k q far = get-remove total m k q ∙ ap (λ b. cond b None (get m q)) (apart q k far)
