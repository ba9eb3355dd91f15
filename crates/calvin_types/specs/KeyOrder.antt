-- Lemmas: the order of keys is total, and keys that compare alike are one.
--     key_cmp_exact      keys that compare alike are one
--     key_cmp_total      the order of keys is total
--     has-alike      keys that compare alike are in the same lists
--     has-push      which keys are in a list with one more at its end
--     same_key-self      each key is the same as itself
use Rattle.std.specs.Prelude.{◌≡◌, ℕ, true, false, ◌||◌, List, [], ◌∷◌, ◌++◌, refl}
use Rattle.std.proofs.Common.{sym, ap, ◌∙◌}
use Rattle.std.specs.declared.cmp.Ordering.TheVariants.{Equal}
use Rattle.std.specs.Ordering.{nat_cmp, is_eq}
use Rattle.std.specs.Cmp.{IsTotalOrder, nat_cmp_total, tied_itself}
use Rattle.std.specs.FinMap.{IsAntisymmetric}
use Rattle.std.proofs.lemmas.Cmp.{on_total, then_total}
use Rattle.std.proofs.lemmas.Map.Lookups.{exact_pairs, exact_unsigned}
use Rattle.calvin_types.specs.declared.key.Key.{Key}
use Rattle.calvin_types.specs.Keys.{key_cmp, has, same_key}

pub key_cmp_exact : IsAntisymmetric key_cmp
key_cmp_exact a b h = ap (λ (p : ℕ × ℕ). record { table = p.0; id = p.1 }) (exact_pairs nat_cmp nat_cmp exact_unsigned exact_unsigned (a.table, a.id) (b.table, b.id) h)

pub key_cmp_total : IsTotalOrder key_cmp
key_cmp_total = then_total (on_total (λ k. k.table) nat_cmp_total) (on_total (λ k. k.id) nat_cmp_total)

pub has-alike : (ks : List Key) (q x : Key) → key_cmp q x ≡ Equal → has ks x ≡ has ks q
has-alike ks q x h = ap (has ks) (sym (key_cmp_exact q x h))

pub has-push : (ks : List Key) (k q : Key) → has (ks ++ k ∷ []) q ≡ (has ks q || same_key q k)
has-push [] k q = elim (same_key q k) as (λ b. (b || false) ≡ b) [ true ↦ refl | false ↦ refl ]
has-push (x ∷ ks) k q = ap (λ b. same_key q x || b) (has-push ks k q)
    ∙ elim (same_key q x) as (λ b. (b || (has ks q || same_key q k)) ≡ ((b || has ks q) || same_key q k)) [ true ↦ refl | false ↦ refl ]

pub same_key-self : (k : Key) → same_key k k ≡ true
same_key-self k = ap is_eq (tied_itself key_cmp_total k)
