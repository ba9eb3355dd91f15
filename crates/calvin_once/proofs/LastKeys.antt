-- Keys that end in one that is above the others.
use Rattle.std.proofs.Common.{◌≡◌, ℕ, zero, suc, ◌+◌, ◌-◌, ◌<◌, ◌&&◌, not, Bool, true, false, List, [], ◌∷◌, ◌++◌, length, take, slice_get, Some, refl, sym, ap, ◌∙◌, arith}
use Rattle.std.proofs.lemmas.List.{take_all}
use Rattle.std.proofs.lemmas.Bool.{false≢true}
use Rattle.std.specs.Cmp.{nat_cmp_is}
use Rattle.std.specs.Ordering.{nat_cmp, ordering_then, ordering_reverse}
use Rattle.std.specs.declared.cmp.Ordering.TheVariants.{Less, Greater}
use Rattle.calvin_types.specs.declared.key.Key.{Key}
use Rattle.calvin_types.specs.Exact.{first, second}
use Rattle.calvin_types.specs.Keys.{key_cmp, below_all, rises, by_order, insert_key}
use Rattle.calvin_types.specs.KeyOrder.{key_cmp_total}
use Rattle.calvin_types.specs.SameKeys.{equal_keys, same_keys}
use Rattle.calvin_types.specs.SameKeysLaws.{equal_keys_self, equal_keys_exact}
use Rattle.calvin_types.proofs.Fews.{take_at}
use Rattle.calvin_types.proofs.Risings.{less}
use Rattle.calvin_app.specs.Meaning.{AllUpTo}

and_true : (b : Bool) → (b && true) ≡ b
and_true true = refl
and_true false = refl

pub and_false : (b : Bool) → (b && false) ≡ false
and_false true = refl
and_false false = refl

below_at : (a : Key) (ks : List Key) (i : ℕ) (k : Key) → below_all a ks ≡ true → slice_get ks i ≡ Some k → key_cmp a k ≡ Less
below_at a [] i k h here = absurd (cc)
below_at a (x ∷ ks) zero k h here = let same : x ≡ k = cc in ap (key_cmp a) (sym same) ∙ less _ (first _ _ h)
below_at a (x ∷ ks) (suc i) k h here = below_at a ks i k (second _ _ h) here

-- rising keys that are added one by one
pub grown : (ks : List Key) (i : ℕ) (k : Key) → rises ks ≡ true → slice_get ks i ≡ Some k → insert_key k (take i ks) ≡ take i ks ++ k ∷ []
grown [] i k h here = absurd (cc)
grown (x ∷ ks) zero k h here = refl
grown (x ∷ ks) (suc i) k h here =
    ap (λ o. by_order o (k ∷ x ∷ take i ks) (x ∷ take i ks) (x ∷ insert_key k (take i ks))) (key_cmp_total.antisymm k x ∙ ap ordering_reverse (below_at x ks i k (first _ _ h) here))
    ∙ ap (λ zs. x ∷ zs) (grown ks i k (second _ _ h) here)

higher : (a b : Key) → b.table < a.table → key_cmp a b ≡ Greater
higher a b h = ap (λ o. ordering_then o (nat_cmp a.id b.id)) (sym (nat_cmp_is a.table b.table Greater h))

-- a key of a table above those of all others goes to the end
pub put_last : (top : ℕ) (key : Key) (s : List Key) → AllUpTo top s → top < key.table → insert_key key s ≡ s ++ key ∷ []
put_last top key [] low above = refl
put_last top key (x ∷ s) low above =
    ap (λ o. by_order o (key ∷ x ∷ s) (x ∷ s) (x ∷ insert_key key s)) (higher key x (omega (arith, low.0, above)))
    ∙ ap (λ zs. x ∷ zs) (put_last top key s low.1 above)

none-pushed : (b : List Key) (q : Key) → same_keys [] (b ++ q ∷ []) ≡ false
none-pushed [] q = refl
none-pushed (x ∷ b) q = refl

pub pushed-none : (s : List Key) (k : Key) → same_keys (s ++ k ∷ []) [] ≡ false
pushed-none [] k = refl
pushed-none (x ∷ s) k = refl

-- keys that end in one and keys that end in another
same_keys-push : (s b : List Key) (k q : Key) → same_keys (s ++ k ∷ []) (b ++ q ∷ []) ≡ (same_keys s b && equal_keys k q)
same_keys-push [] [] k q = and_true (equal_keys k q)
same_keys-push [] (x ∷ b) k q = ap (λ r. equal_keys k x && r) (none-pushed b q) ∙ and_false (equal_keys k x)
same_keys-push (y ∷ s) [] k q = ap (λ r. equal_keys y q && r) (pushed-none s k) ∙ and_false (equal_keys y q)
same_keys-push (y ∷ s) (x ∷ b) k q = elim (equal_keys y x) as (λ e. (e && same_keys (s ++ k ∷ []) (b ++ q ∷ [])) ≡ ((e && same_keys s b) && equal_keys k q)) [
  | true ↦ same_keys-push s b k q
  | false ↦ refl
]

pub same_keys-alike : (s b : List Key) (k : Key) → same_keys (s ++ k ∷ []) (b ++ k ∷ []) ≡ same_keys s b
same_keys-alike s b k = same_keys-push s b k k ∙ ap (λ e. same_keys s b && e) (equal_keys_self k) ∙ and_true (same_keys s b)

unlike : (b : Bool) → true ≡ not b → b ≡ false
unlike true h = absurd (false≢true (sym h))
unlike false h = refl

alike : (b : Bool) → false ≡ not b → b ≡ true
alike true h = refl
alike false h = absurd (false≢true h)

end_is : (ks : List Key) (n : ℕ) (q : Key) → slice_get ks n ≡ Some q → n ≡ length ks - 1 → n + 1 ≡ length ks
end_is [] n q here end = absurd (cc)
end_is (x ∷ ks) n q here end = omega (arith, end)

-- keys are those before the last one, and that one
last_is : (ks : List Key) (n : ℕ) (q : Key) → slice_get ks n ≡ Some q → n ≡ length ks - 1 → ks ≡ take n ks ++ q ∷ []
last_is ks n q here end = sym (take_all (n + 1) ks (omega (arith, end_is ks n q here end))) ∙ take_at ks n q here

pub last_alike : (ks : List Key) (n : ℕ) (q last : Key) → slice_get ks n ≡ Some q → n ≡ length ks - 1 → false ≡ not (equal_keys last q) → ks ≡ take n ks ++ last ∷ []
last_alike ks n q last here end same = last_is ks n q here end ∙ ap (λ k. take n ks ++ k ∷ []) (sym (equal_keys_exact last q (alike _ same)))

pub last_differs : (ks : List Key) (n : ℕ) (q last : Key) → slice_get ks n ≡ Some q → n ≡ length ks - 1 → true ≡ not (equal_keys last q) → (s : List Key) → same_keys (s ++ last ∷ []) ks ≡ false
last_differs ks n q last here end differs s =
    ap (same_keys (s ++ last ∷ [])) (last_is ks n q here end)
    ∙ same_keys-push s (take n ks) last q
    ∙ ap (λ e. same_keys s (take n ks) && e) (unlike _ differs)
    ∙ and_false (same_keys s (take n ks))
