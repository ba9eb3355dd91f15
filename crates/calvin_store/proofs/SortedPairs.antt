-- The pairs of a hash map, in their order and sorted.
use Rattle.std.proofs.Common.{◌≡◌, ◌+◌, ◌<◌, false, cond, T, ◌||◌, List, [], ◌∷◌, length, Option, Some, None, is_some, get_or, refl, sym, ap, subst, ◌∙◌, arith}
use Rattle.std.proofs.lemmas.Bool.{false≢true}
use Rattle.std.specs.declared.cmp.Ordering.{Ordering}
use Rattle.std.specs.declared.cmp.Ordering.TheVariants.{Less, Equal, Greater}
use Rattle.std.specs.Ordering.{is_lt, is_eq, ordering_reverse}
use Rattle.std.specs.List.{AllByRecursion, IsDistinct, list_any}
use Rattle.std.specs.List.Sorted.{IsPermutation, IsSortedBy, IsStrictlySortedBy}
use Rattle.std.proofs.lemmas.List.{get_or-map, length-map}
use Rattle.std.proofs.lemmas.List.Sorted.{IsPermutation-map, IsPermutation-sym, Contains-permutation}
use Rattle.std.specs.Map.{keys_of, lookup, update_all}
use Rattle.std.proofs.lemmas.Map.Made.{is_some-lookup, update_all_none}
use Rattle.std.proofs.lemmas.Map.Keys.{IsDistinct-head, IsDistinct-tail, IsDistinct-cons, IsDistinct-IsPermutation, sorted_head, sorted_tail, sorted_from_all_adjacent, apart_from_distinct}
use Rattle.std.proofs.lemmas.Map.Views.{Contains-from_lookup, lookup-from_Contains}
use Rattle.std.specs.FinMap as map
use Rattle.std.specs.FinMap.Entries.{below_all}
use Rattle.calvin_types.specs.declared.key.Key.{Key}
use Rattle.calvin_types.specs.Keys.{key_cmp}
use Rattle.calvin_types.specs.KeyOrder.{key_cmp_exact, key_cmp_total}
use Rattle.calvin_types.specs.SameKeys.{equal_keys}
use Rattle.calvin_types.specs.SameKeysLaws.{equal_keys_exact, equal_keys_self, equal_keys_is_same_key, equal_keys_equiv}
use Rattle.calvin_types.proofs.Conjunctions.{first, second, both, less}
use Rattle.calvin_app.specs.Rows.{Rows}
use Rattle.calvin_app.specs.Entries.{rising, shown}
use Rattle.calvin_app.proofs.RowTables.{get-row}

-- of two keys that differ and don't fall the first is the lesser
rise : (a b : Key) → equal_keys a b ≡ false → is_lt (key_cmp b a) ≡ false → key_cmp a b ≡ Less
rise a b differ upward = go (key_cmp a b) refl
  where
    go : (o : Ordering) → key_cmp a b ≡ o → key_cmp a b ≡ Less
    go Less is = is
    go Equal is = absurd (false≢true (sym differ ∙ ap (λ k. equal_keys a k) (sym (key_cmp_exact a b is)) ∙ equal_keys_self a))
    go Greater is = absurd (false≢true (sym upward ∙ ap is_lt (key_cmp_total.antisymm b a ∙ ap ordering_reverse is)))

-- a key that none is equal to isn't found
pub none_distinct : IsDistinct equal_keys []
unfolding IsDistinct
none_distinct = tt

none_equal : (k : Key) (ks : List Key) → AllByRecursion (λ y. equal_keys k y ≡ false) ks → list_any (equal_keys k) ks ≡ false
none_equal k [] h = refl
none_equal k (x ∷ ks) h = ap (λ b. b || list_any (equal_keys k) ks) h.0 ∙ none_equal k ks h.1

module _ {Row : Type 0} where
  below : (x : Key) (es : List (Key × Row)) → AllByRecursion (λ y. key_cmp x y ≡ Less) (keys_of es) → T (below_all key_cmp x es)
  below x [] h = tt
  below x (e ∷ es) h = both _ _ (subst (λ o. T (is_lt o)) (sym h.0) tt) (below x es h.1)

  strictly : (es : List (Key × Row)) → IsStrictlySortedBy key_cmp (keys_of es) → rising es
  strictly [] h = tt
  strictly (e ∷ es) h = both _ _ (below e.0 es (sorted_head key_cmp e.0 (keys_of es) h)) (strictly es (sorted_tail key_cmp e.0 (keys_of es) h))

  -- pairs with distinct keys that a sort by key put in order rise
  pub rising-sorted : (es : List (Key × Row)) → IsDistinct equal_keys (keys_of es) → IsSortedBy (λ a b. is_lt (key_cmp a.0 b.0)) es → rising es
  rising-sorted [] distinct sorted = tt
  rising-sorted (e ∷ rest) distinct sorted = strictly es (sorted_from_all_adjacent key_cmp_total (keys_of es) e.0 (λ k within.
      let there : k + 1 < length es = subst (λ n. k + 1 < n) (length-map es (λ (p : Key × Row). p.0)) within in
      let first = get_or-map (λ (p : Key × Row). p.0) es k e e.0 (omega (arith, there)) in
      let second = get_or-map (λ (p : Key × Row). p.0) es (k + 1) e e.0 there in
      rise (get_or (keys_of es) k e.0) (get_or (keys_of es) (k + 1) e.0) (apart_from_distinct equal_keys (keys_of es) k (k + 1) e.0 distinct (omega arith) within)
      (ap (λ a. is_lt (key_cmp a (get_or (keys_of es) k e.0))) second ∙ ap (λ b. is_lt (key_cmp (get_or es (k + 1) e).0 b)) first ∙ sorted k e (omega arith) there)))
    where
      es : List (Key × Row)
      es = e ∷ rest

  module _ (es fs : List (Key × Row)) (distinct : IsDistinct equal_keys (keys_of es)) (moved : IsPermutation es fs) where
    -- distinct keys are so in another order
    pub distinct-moved : IsDistinct equal_keys (keys_of fs)
    distinct-moved = IsDistinct-IsPermutation equal_keys equal_keys_equiv.symm (keys_of es) (keys_of fs) (IsPermutation-map (λ (p : Key × Row). p.0) es fs moved) distinct

    -- each key finds the same
    lookup-moved : (q : Key) → lookup (equal_keys q) fs ≡ lookup (equal_keys q) es
    lookup-moved q = go (lookup (equal_keys q) es) refl (lookup (equal_keys q) fs) refl
      where
        go : (o : Option Row) → lookup (equal_keys q) es ≡ o → (p : Option Row) → lookup (equal_keys q) fs ≡ p → lookup (equal_keys q) fs ≡ lookup (equal_keys q) es
        go (Some v) is p _ = lookup-from_Contains equal_keys_equiv q v fs distinct-moved (Contains-permutation es fs (q, v) moved (Contains-from_lookup equal_keys_exact q v es is)) ∙ sym is
        go None is (Some v) there = there ∙ sym (lookup-from_Contains equal_keys_equiv q v es distinct (Contains-permutation fs es (q, v) (IsPermutation-sym es fs moved) (Contains-from_lookup equal_keys_exact q v fs there)))
        go None is None there = there ∙ sym is

    -- pairs that rise show the map that they are in another order
    pub shown-moved : rising fs → shown fs ≡ map.from_entries es
    shown-moved rises = map.same_map key_cmp_total key_cmp_exact _ _ (λ q.
        map.get-from_sorted key_cmp fs q rises ∙ sym (map.get-from_entries key_cmp_total fs q)
        ∙ get-row fs q ∙ lookup-moved q ∙ sym (get-row es q))

  -- pairs with distinct keys are as many as the map has keys
  pub len-distinct : (es : List (Key × Row)) → IsDistinct equal_keys (keys_of es) → map.len (map.from_entries {R = key_cmp} es) ≡ length es
  len-distinct [] distinct = map.len-empty key_cmp Row
  len-distinct (e ∷ es) distinct =
      let rest = len-distinct es (IsDistinct-tail equal_keys e.0 (keys_of es) distinct) in
      let absent : map.contains_key (map.from_entries {R = key_cmp} es) e.0 ≡ false = ap is_some (get-row es e.0) ∙ is_some-lookup (equal_keys e.0) es ∙ none_equal e.0 (keys_of es) (IsDistinct-head equal_keys e.0 (keys_of es) distinct) in
      map.len-insert key_cmp_total (map.from_entries es) e.0 e.1
      ∙ ap (λ b. cond b (map.len (map.from_entries {R = key_cmp} es)) (map.len (map.from_entries {R = key_cmp} es) + 1)) absent
      ∙ omega (arith, rest)

  -- rising keys are distinct
  above : (x : Key) (es : List (Key × Row)) → T (below_all key_cmp x es) → AllByRecursion (λ y. equal_keys x y ≡ false) (keys_of es)
  above x [] h = tt
  above x (e ∷ es) h = (equal_keys_is_same_key x e.0 ∙ ap is_eq (less _ (first _ _ h)), above x es (second _ _ h))

  pub distinct-rising : (es : List (Key × Row)) → rising es → IsDistinct equal_keys (keys_of es)
  distinct-rising [] h = none_distinct
  distinct-rising (e ∷ es) h = IsDistinct-cons equal_keys e.0 (keys_of es) (above e.0 es (first _ _ h)) (distinct-rising es (second _ _ h))

  -- a map that is collected from the pairs of rows has these rows
  pub collected : (m : Rows Row) (es : List (Key × Row)) → ((q : Key) → lookup (equal_keys q) es ≡ update_all equal_keys (λ _. None) (map.entries m) q) → map.from_entries {R = key_cmp} es ≡ m
  collected m es made = map.same_map key_cmp_total key_cmp_exact _ _ (λ q.
      get-row es q ∙ made q
      ∙ update_all_none equal_keys_equiv equal_keys (λ _ _. refl) (map.entries m) q (distinct-rising (map.entries m) (map.entries_sorted m))
      ∙ sym (get-row (map.entries m) q) ∙ map.get-from_entries key_cmp_total (map.entries m) q ∙ sym (map.get-entries m q))
