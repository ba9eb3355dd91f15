-- A hash map beside the finite map that its entries are.
use Rattle.std.proofs.Common.{◌≡◌, Bool, true, false, cond, List, [], ◌∷◌, Some, None, refl, sym, ap, ◌∙◌}
use Rattle.std.proofs.lemmas.Bool.{false≢true}
use Rattle.std.specs.declared.cmp.Ordering.{Ordering}
use Rattle.std.specs.Ordering.{is_eq, eq_by_cmp}
use Rattle.std.specs.Cmp.{IsTotalOrder, Equal-is, tied_itself, eq_by_cmp_equiv}
use Rattle.std.specs.Map.{lookup}
use Rattle.std.specs.FinMap.{IsAntisymmetric, find, get, insert, remove, from_entries, get-from_entries, get-insert, get-remove, same_map}

module _ {K : Type 0} (eq : K → K → Bool) (R : K → K → Ordering) (total : IsTotalOrder R) (exact : IsAntisymmetric R)
    (eq_exact : (a b : K) → eq a b ≡ true → a ≡ b) (eq_self : (a : K) → eq a a ≡ true) where
  -- an exact test of equality answers as the order does
  pub alike : (a b : K) → eq a b ≡ eq_by_cmp R a b
  alike a b = go (eq a b) refl (is_eq (R a b)) refl where
    go : (c : Bool) → eq a b ≡ c → (d : Bool) → is_eq (R a b) ≡ d → eq a b ≡ is_eq (R a b)
    go true p d q = p ∙ sym (ap (λ x. is_eq (R a x)) (sym (eq_exact a b p)) ∙ ap is_eq (tied_itself total a))
    go false p true q = absurd (false≢true (sym p ∙ ap (λ x. eq a x) (sym (exact a b ((Equal-is (R a b)).0 q))) ∙ eq_self a))
    go false p false q = p ∙ sym q

  module _ {X : Type 0} where
    find-lookup : (es : List (K × X)) (q : K) → find R q es ≡ lookup (eq q) es
    find-lookup [] q = refl
    find-lookup (e ∷ es) q = λ i. cond (sym (alike q e.0) i) (Some e.1) (find-lookup es q i)

    -- what the finite map has at a key
    pub get-entries : (es : List (K × X)) (q : K) → get (from_entries {R = R} es) q ≡ lookup (eq q) es
    get-entries es q = get-from_entries total es q ∙ find-lookup es q

    -- entries in which each key finds the same make the same map
    pub same_entries : (es fs : List (K × X)) → ((q : K) → lookup (eq q) fs ≡ lookup (eq q) es) → from_entries {R = R} fs ≡ from_entries es
    same_entries es fs h = same_map total exact _ _ (λ q. get-entries fs q ∙ h q ∙ sym (get-entries es q))

    -- entries that differ at one key make maps that differ there
    pub one_put : (es fs : List (K × X)) (k : K) (v : X) → ((q : K) → lookup (eq q) fs ≡ cond (eq k q) (Some v) (lookup (eq q) es)) → from_entries {R = R} fs ≡ insert (from_entries es) k v
    one_put es fs k v h = same_map total exact _ _ (λ q.
        get-entries fs q ∙ h q ∙ ap (λ b. cond b (Some v) (lookup (eq q) es)) (alike k q ∙ (eq_by_cmp_equiv total).symm k q)
        ∙ sym (get-insert total (from_entries es) k v q ∙ ap (cond (eq_by_cmp R q k) (Some v)) (get-entries es q)))

    -- entries of which one key has gone make a map without it
    pub one_removed : (es fs : List (K × X)) (k : K) → ((q : K) → lookup (eq q) fs ≡ cond (eq k q) None (lookup (eq q) es)) → from_entries {R = R} fs ≡ remove (from_entries es) k
    one_removed es fs k h = same_map total exact _ _ (λ q.
        get-entries fs q ∙ h q ∙ ap (λ b. cond b None (lookup (eq q) es)) (alike k q ∙ (eq_by_cmp_equiv total).symm k q)
        ∙ sym (get-remove total (from_entries es) k q ∙ ap (cond (eq_by_cmp R q k) None) (get-entries es q)))
