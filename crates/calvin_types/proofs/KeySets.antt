-- Which keys the set of some keys has, and how many.
use Rattle.std.proofs.Common.{◌≡◌, ◌+◌, Bool, true, false, ◌||◌, List, [], ◌∷◌, ◌++◌, length, length-append, refl, sym, ◌∙◌, ap, arith, eqb-true, eq-eqb}
use Rattle.std.proofs.Math.Bool.{or-false, or_assoc, or_comm, or_self_left}
use Rattle.std.proofs.lemmas.Bool.{false≢true}
use Rattle.std.specs.declared.cmp.Ordering.TheVariants.{Less, Equal, Greater}
use Rattle.std.specs.Ordering.{is_eq}
use Rattle.calvin_types.specs.declared.key.Key.{Key}
use Rattle.calvin_types.specs.Keys.{key_cmp, same_key, has, by_order, insert_key, insert_all, are_distinct}
use Rattle.calvin_types.specs.KeyOrder.{key_cmp_exact}

or_left_comm : (a b c : Bool) → (a || (b || c)) ≡ (b || (a || c))
or_left_comm a b c = sym (or_assoc a b c) ∙ ap (λ d. d || c) (or_comm a b) ∙ or_assoc b a c

-- a set has the key that was put in, and those that were there
pub has-insert_key : (x q : Key) (ks : List Key) → has (insert_key q ks) x ≡ (same_key x q || has ks x)
has-insert_key x q [] = refl
has-insert_key x q (k ∷ ks) = elim (key_cmp q k) as (λ o. key_cmp q k ≡ o → has (by_order o (q ∷ k ∷ ks) (k ∷ ks) (k ∷ insert_key q ks)) x ≡ (same_key x q || has (k ∷ ks) x)) [
  | Less ↦ λ is. refl
  | Equal ↦ λ is. sym (or_self_left (same_key x k) (has ks x)) ∙ ap (λ y. same_key x y || has (k ∷ ks) x) (sym (key_cmp_exact q k is))
  | Greater ↦ λ is. ap (λ b. same_key x k || b) (has-insert_key x q ks) ∙ or_left_comm (same_key x k) (same_key x q) (has ks x)
] refl

-- the set has the keys that were put in, and those that were there
pub has-insert_all : (x : Key) (qs ks : List Key) → has (insert_all qs ks) x ≡ (has qs x || has ks x)
has-insert_all x [] ks = refl
has-insert_all x (q ∷ qs) ks = has-insert_all x qs (insert_key q ks) ∙ ap (λ b. has qs x || b) (has-insert_key x q ks) ∙ or_left_comm (has qs x) (same_key x q) (has ks x) ∙ sym (or_assoc (same_key x q) (has qs x) (has ks x))

-- a key that isn't there makes one more
length-insert_new : (q : Key) (ks : List Key) → has ks q ≡ false → length (insert_key q ks) ≡ length ks + 1
length-insert_new q [] new = refl
length-insert_new q (k ∷ ks) new = elim (key_cmp q k) as (λ o. (is_eq o || has ks q) ≡ false → length (by_order o (q ∷ k ∷ ks) (k ∷ ks) (k ∷ insert_key q ks)) ≡ length (k ∷ ks) + 1) [
  | Less ↦ λ new. omega arith
  | Equal ↦ λ new. absurd (false≢true (sym new))
  | Greater ↦ λ new. omega (arith, length-insert_new q ks new)
] new

-- the last of some keys is put in last
insert_all-push : (qs ks : List Key) (q : Key) → insert_all (qs ++ q ∷ []) ks ≡ insert_key q (insert_all qs ks)
insert_all-push [] ks q = refl
insert_all-push (p ∷ qs) ks q = insert_all-push qs (insert_key p ks) q

-- distinct keys and one that is none of them are distinct
pub distinct-push : (ks : List Key) (q : Key) → are_distinct ks ≡ true → has ks q ≡ false → are_distinct (ks ++ q ∷ []) ≡ true
distinct-push ks q distinct new =
    let more = length-insert_new q (insert_all ks []) (has-insert_all q ks [] ∙ or-false (has ks q) ∙ new) in
    eq-eqb (length (insert_all (ks ++ q ∷ []) [])) (length (ks ++ q ∷ []))
    (ap length (insert_all-push ks [] q) ∙ more ∙ ap (λ n. n + 1) (eqb-true (length (insert_all ks [])) (length ks) distinct) ∙ sym (length-append ks (q ∷ [])))
