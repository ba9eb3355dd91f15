-- A hash map of any keys beside the finite map that its entries are, in the order that the keys have.
use Rattle.std.proofs.Common.{◌≡◌, Bool, true, cond, List, Option, Some, None, MutBor, is_some, sym, ap, subst, ◌∙◌}
use Rattle.std.specs.Option.{IsSome, OnSome, option_copied_mut}
use Rattle.std.specs.declared.cmp.Ordering.{Ordering}
use Rattle.std.specs.Ordering.{eq_by_cmp}
use Rattle.std.specs.Cmp.{IsTotalOrder, IsEquivalence, Equal-is}
use Rattle.std.specs.Map.{lookup}
use Rattle.std.specs.FinMap.{IsAntisymmetric, get, insert, remove, from_entries}
use Rattle.calvin_types.proofs.HashMaps as maps

module _ {K : Type 0} (eq : K → K → Bool) (R : K → K → Ordering) (total : IsTotalOrder R) (exact : IsAntisymmetric R) (laws : IsEquivalence eq)
    (matches : (x y : K) → eq x y ≡ eq_by_cmp R x y) where
  eq_exact : (a b : K) → eq a b ≡ true → a ≡ b
  eq_exact a b h = exact a b ((Equal-is (R a b)).0 (sym (matches a b) ∙ h))

  module _ {V : Type 0} where
    pub got : (es : List (K × V)) (k : K) → get (from_entries {R = R} es) k ≡ lookup (eq k) es
    got es k = maps.get-entries eq R total exact eq_exact laws.refl es k

    pub same : (es fs : List (K × V)) → ((q : K) → lookup (eq q) fs ≡ lookup (eq q) es) → from_entries {R = R} fs ≡ from_entries es
    same es fs h = maps.same_entries eq R total exact eq_exact laws.refl es fs h

    pub put : (es fs : List (K × V)) (k : K) (v : V) → ((q : K) → lookup (eq q) fs ≡ cond (eq k q) (Some v) (lookup (eq q) es)) → from_entries {R = R} fs ≡ insert (from_entries es) k v
    put es fs k v h = maps.one_put eq R total exact eq_exact laws.refl es fs k v h

    pub removed : (es fs : List (K × V)) (k : K) → ((q : K) → lookup (eq q) fs ≡ cond (eq k q) None (lookup (eq q) es)) → from_entries {R = R} fs ≡ remove (from_entries es) k
    removed es fs k h = maps.one_removed eq R total exact eq_exact laws.refl es fs k h

-- what holds where a key has a value holds where a `&mut` to it is lent
pub on_lent : {X P : Type 0} (r : Option (MutBor X)) (found : Option X) → option_copied_mut r ≡ found → (IsSome found → P) → OnSome r P
on_lent None found e h = tt
on_lent (Some x) found e h = h (sym (ap is_some e))

pub of_lent : {X P : Type 0} {r : Option (MutBor X)} {x : MutBor X} → r ≡ Some x → OnSome r P → P
of_lent {P = P} e h = subst (λ o. OnSome o P) e h
