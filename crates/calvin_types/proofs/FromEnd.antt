-- Keys that rise, which are passed from the greatest on: where a key goes among them, and what they are where each is moved
-- up as it is passed.
use Rattle.std.proofs.Common.{◌≡◌, ℕ, zero, suc, ◌+◌, ◌-◌, ◌≤◌, true, false, ◌||◌, List, [], ◌∷◌, ◌++◌, length, drop, Some, slice_get, slice_set, refl, sym, ◌∙◌, ap, subst, arith}
use Rattle.std.specs.List.{insert}
use Rattle.std.specs.declared.cmp.Ordering.TheVariants.{Less, Equal, Greater}
use Rattle.std.specs.Ordering.{is_lt, is_eq, ordering_reverse}
use Rattle.std.proofs.lemmas.List.{take_all, drop_all, length-set}
use Rattle.std.proofs.lemmas.List.Edits.{length-insert}
use Rattle.std.proofs.lemmas.Option.{none-some, same_Some}
use Rattle.calvin_types.specs.declared.key.Key.{Key}
use Rattle.calvin_types.specs.Exact.{first, second, both}
use Rattle.calvin_types.specs.Keys.{key_cmp, has, below_all, rises, by_order, insert_key}
use Rattle.calvin_types.specs.KeyOrder.{key_cmp_total, key_cmp_exact}
use Rattle.calvin_types.specs.KeyPlaces.{IsMissingAt}
use Rattle.calvin_types.proofs.Risings.{less, has-below}

-- ---- where the key goes

-- before keys that it is below
pub before_all : (q : Key) (ks : List Key) → below_all q ks ≡ true → insert_key q ks ≡ q ∷ ks
before_all q [] h = refl
before_all q (k ∷ ks) h = ap (λ o. by_order o (q ∷ k ∷ ks) (k ∷ ks) (k ∷ insert_key q ks)) (less (key_cmp q k) (first _ _ h))

below_at : (x : Key) (ks : List Key) (j : ℕ) (k : Key) → below_all x ks ≡ true → slice_get ks j ≡ Some k → key_cmp x k ≡ Less
below_at x [] j k h here = absurd (none-some _ here)
below_at x (a ∷ ks) zero k h here = subst (λ y. key_cmp x y ≡ Less) (same_Some a k here) (less (key_cmp x a) (first _ _ h))
below_at x (a ∷ ks) (suc j) k h here = below_at x ks j k (second _ _ h) here

-- a key above one that is below is above that, too
above : (q a : Key) → key_cmp a q ≡ Less → key_cmp q a ≡ Greater
above q a h = key_cmp_total.antisymm q a ∙ ap ordering_reverse h

above_both : (q a k : Key) → key_cmp a k ≡ Less → key_cmp q k ≡ Greater → key_cmp q a ≡ Greater
above_both q a k low h = above q a (key_cmp_total.trans a k q low (key_cmp_total.antisymm k q ∙ ap ordering_reverse h))

pub behind : (q : Key) (ks : List Key) (j : ℕ) (k : Key) → rises ks ≡ true → slice_get ks j ≡ Some k → key_cmp q k ≡ Greater → below_all q (drop (suc j) ks) ≡ true
    → insert_key q ks ≡ insert ks (suc j) q
behind q [] j k rising here is rest = absurd (none-some _ here)
behind q (a ∷ ks) zero k rising here is rest =
    ap (λ o. by_order o (q ∷ a ∷ ks) (a ∷ ks) (a ∷ insert_key q ks)) (ap (key_cmp q) (same_Some a k here) ∙ is) ∙ ap (λ xs. a ∷ xs) (before_all q ks rest)
behind q (a ∷ ks) (suc j) k rising here is rest =
    ap (λ o. by_order o (q ∷ a ∷ ks) (a ∷ ks) (a ∷ insert_key q ks)) (above_both q a k (below_at a ks j k (first _ _ rising) here) is)
    ∙ ap (λ xs. a ∷ xs) (behind q ks j k (second _ _ rising) here is rest)

-- nowhere, where it is there
pub there : (q : Key) (ks : List Key) (j : ℕ) (k : Key) → rises ks ≡ true → slice_get ks j ≡ Some k → key_cmp q k ≡ Equal → insert_key q ks ≡ ks
there q [] j k rising here is = absurd (none-some _ here)
there q (a ∷ ks) zero k rising here is = ap (λ o. by_order o (q ∷ a ∷ ks) (a ∷ ks) (a ∷ insert_key q ks)) (ap (key_cmp q) (same_Some a k here) ∙ is)
there q (a ∷ ks) (suc j) k rising here is =
    let low : key_cmp a q ≡ Less = subst (λ y. key_cmp a y ≡ Less) (sym (key_cmp_exact q k is)) (below_at a ks j k (first _ _ rising) here) in
    ap (λ o. by_order o (q ∷ a ∷ ks) (a ∷ ks) (a ∷ insert_key q ks)) (above q a low) ∙ ap (λ xs. a ∷ xs) (there q ks j k (second _ _ rising) here is)

-- a key above one that is behind all of the others isn't among them
missing_behind : (q : Key) (ks : List Key) (j : ℕ) (k : Key) → rises ks ≡ true → slice_get ks j ≡ Some k → key_cmp q k ≡ Greater → below_all q (drop (suc j) ks) ≡ true
    → has ks q ≡ false
missing_behind q [] j k rising here is rest = absurd (none-some _ here)
missing_behind q (a ∷ ks) zero k rising here is rest =
    ap (λ o. is_eq o || has ks q) (ap (key_cmp q) (same_Some a k here) ∙ is) ∙ has-below q ks rest
missing_behind q (a ∷ ks) (suc j) k rising here is rest =
    ap (λ o. is_eq o || has ks q) (above_both q a k (below_at a ks j k (first _ _ rising) here) is)
    ∙ missing_behind q ks j k (second _ _ rising) here is rest

-- a key above the last one isn't there, and goes behind it
pub free_last : (q : Key) (ks : List Key) (n : ℕ) (k : Key) → n ≡ length ks → rises ks ≡ true → slice_get ks (n - 1) ≡ Some k → key_cmp q k ≡ Greater → IsMissingAt q ks (length ks)
free_last q [] n k is rising here greater = absurd (none-some _ here)
free_last q (a ∷ ks) n k is rising here greater =
    let last : n - 1 ≡ length ks = omega (arith, is) in
    let there : slice_get (a ∷ ks) (length ks) ≡ Some k = ap (λ (m : ℕ). slice_get (a ∷ ks) m) (sym last) ∙ here in
    let none : below_all q (drop (suc (length ks)) (a ∷ ks)) ≡ true = ap (below_all q) (drop_all (suc (length ks)) (a ∷ ks) (omega arith)) in
    record {
      within = omega arith;
      missing = missing_behind q (a ∷ ks) (length ks) k rising there greater none;
      insert_is = behind q (a ∷ ks) (length ks) k rising there greater none;
    }

-- ---- the keys on the way: all of them, and one more in between

pub at_end : (ks : List Key) (i : ℕ) (q : Key) → i ≡ length ks → ks ++ q ∷ [] ≡ insert ks i q
at_end ks i q is = λ t. sym (take_all i ks (omega (arith, is))) t ++ q ∷ sym (drop_all i ks (omega (arith, is))) t

pub put_there : (ks : List Key) (i : ℕ) (hole q : Key) → i ≤ length ks → slice_set (insert ks i hole) i q ≡ insert ks i q
put_there ks zero hole q within = refl
put_there [] (suc i) hole q within = absurd (omega (arith, within))
put_there (a ∷ ks) (suc i) hole q within = ap (λ xs. a ∷ xs) (put_there ks i hole q (omega (arith, within)))

before : (ks : List Key) (j : ℕ) (hole : Key) → suc j ≤ length ks → slice_get (insert ks (suc j) hole) j ≡ slice_get ks j
before [] j hole within = absurd (omega (arith, within))
before (a ∷ ks) zero hole within = refl
before (a ∷ ks) (suc j) hole within = before ks j hole (omega (arith, within))

twice : (ks : List Key) (j : ℕ) (o : Key) → slice_get ks j ≡ Some o → insert ks (suc j) o ≡ insert ks j o
twice [] j o here = absurd (none-some _ here)
twice (a ∷ ks) zero o here = let is = same_Some a o here in λ t. is t ∷ sym is t ∷ ks
twice (a ∷ ks) (suc j) o here = ap (λ xs. a ∷ xs) (twice ks j o here)

below_more : (q : Key) (ks : List Key) (j : ℕ) (o : Key) → slice_get ks j ≡ Some o → key_cmp q o ≡ Less → below_all q (drop (suc j) ks) ≡ true → below_all q (drop j ks) ≡ true
below_more q [] j o here is rest = absurd (none-some _ here)
below_more q (a ∷ ks) zero o here is rest = both _ _ (ap is_lt (ap (key_cmp q) (same_Some a o here) ∙ is)) rest
below_more q (a ∷ ks) (suc j) o here is rest = below_more q ks j o here is rest

-- the key before a place is the one that all keys have there
pub key_before : (ks xs : List Key) (i j : ℕ) (hole o : Key) → i ≡ suc j → i ≤ length ks → xs ≡ insert ks i hole → slice_get xs j ≡ Some o → slice_get ks j ≡ Some o
key_before ks xs i j hole o next within so here = sym (before ks j hole (omega (arith, next, within))) ∙ ap (λ ys. slice_get ys j) (sym (so ∙ ap (λ (n : ℕ). insert ks n hole) next)) ∙ here

pub key_passed : (ks xs : List Key) (i j : ℕ) (hole o : Key) → i ≡ suc j → i ≤ length ks → xs ≡ insert ks i hole → slice_get ks j ≡ Some o → slice_set xs i o ≡ insert ks j o
key_passed ks xs i j hole o next within so here = ap (λ ys. slice_set ys i o) so ∙ put_there ks i hole o within ∙ ap (λ (n : ℕ). insert ks n o) next ∙ twice ks j o here

pub one_below : (q : Key) (ks : List Key) (i j : ℕ) (o : Key) → i ≡ suc j → slice_get ks j ≡ Some o → key_cmp q o ≡ Less → below_all q (drop i ks) ≡ true → below_all q (drop j ks) ≡ true
one_below q ks i j o next here is rest = below_more q ks j o here is (ap (λ (n : ℕ). below_all q (drop n ks)) (sym next) ∙ rest)

pub put_behind : (q : Key) (ks xs : List Key) (i j : ℕ) (hole k : Key) → i ≡ suc j → i ≤ length ks → rises ks ≡ true → xs ≡ insert ks i hole → slice_get ks j ≡ Some k → key_cmp q k ≡ Greater
    → below_all q (drop i ks) ≡ true → slice_set xs i q ≡ insert_key q ks
put_behind q ks xs i j hole k next within rising so here is rest =
    ap (λ ys. slice_set ys i q) so ∙ put_there ks i hole q within ∙ ap (λ (n : ℕ). insert ks n q) next
    ∙ sym (behind q ks j k rising here is (ap (λ (n : ℕ). below_all q (drop n ks)) (sym next) ∙ rest))

pub put_first : (q : Key) (ks xs : List Key) (i : ℕ) (hole : Key) → i ≡ 0 → xs ≡ insert ks i hole → below_all q (drop i ks) ≡ true → slice_set xs 0 q ≡ insert_key q ks
put_first q ks xs zero hole none so rest = ap (λ ys. slice_set ys 0 q) so ∙ sym (before_all q ks rest)
put_first q ks xs (suc j) hole none so rest = absurd (omega (arith, none))

pub one_longer : (ks xs all : List Key) (i j : ℕ) (hole q : Key) → i ≤ length ks → xs ≡ insert ks i hole → slice_set xs j q ≡ all → length all ≡ length ks + 1
one_longer ks xs all i j hole q within so is = sym (ap length is) ∙ length-set xs j q ∙ ap length so ∙ length-insert ks i hole within
