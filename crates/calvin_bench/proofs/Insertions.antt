-- A map after an insertion.
use Rattle.std.proofs.Common.{◌≡◌, Bool, true, false, cond, ◌⊎◌, inl, inr, refl, sym, ap, subst, ◌∙◌, Some}
use Rattle.std.specs.declared.cmp.Ordering.{Ordering}
use Rattle.std.specs.Ordering.{eq_by_cmp}
use Rattle.std.specs.Cmp.{IsTotalOrder, Equal-is}
use Rattle.std.specs.FinMap.{FinMap, IsAntisymmetric, get, insert, get-insert}

module _ {K X : Type 0} {R : K → K → Ordering} (o : IsTotalOrder R) (same : IsAntisymmetric R) where
  -- what holds of the new entry and of each old one holds of each entry
  pub insert_each : (P : K → X → Type 0) (map : FinMap R X) (k : K) (x : X) → P k x → ((q : K) (y : X) → get map q ≡ Some y → P q y) → (q : K) (y : X) → get (insert map k x) q ≡ Some y → P q y
  insert_each P map k x here each q y h = go (eq_by_cmp R q k) refl (sym (get-insert o map k x q) ∙ h)
    where
      go : (b : Bool) → eq_by_cmp R q k ≡ b → cond b (Some x) (get map q) ≡ Some y → P q y
      go true e g =
          let at : k ≡ q = sym (same q k ((Equal-is (R q k)).0 e)) in
          let is : x ≡ y = cc in
          subst (λ z. P q z) is (subst (λ z. P z x) at here)
      go false e g = each q y g

  pub insert_cases : (map : FinMap R X) (k : K) (x : X) (q : K) → (q ≡ k) ⊎ (get (insert map k x) q ≡ get map q)
  insert_cases map k x q = go (eq_by_cmp R q k) refl
    where
      go : (b : Bool) → eq_by_cmp R q k ≡ b → (q ≡ k) ⊎ (get (insert map k x) q ≡ get map q)
      go true e = inl (same q k ((Equal-is (R q k)).0 e))
      go false e = inr (get-insert o map k x q ∙ ap (λ b. cond b (Some x) (get map q)) e)
