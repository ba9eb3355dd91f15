-- Entries of a hash map, sorted by their keys, are those of the finite map that it is.
use Rattle.std.proofs.Common.{◌≡◌, ℕ, suc, ◌+◌, Bool, true, false, cond, ◌||◌, ◌&&◌, List, [], ◌∷◌, length, get_or, Option, Some, None, refl, sym, ap, ◌∙◌, subst, arith}
use Rattle.std.proofs.Math.Bool.{or-true}
use Rattle.std.specs.Prelude.{T}
use Rattle.std.specs.declared.cmp.Ordering.{Ordering}
use Rattle.std.specs.declared.cmp.Ordering.TheVariants.{Less, Equal, Greater}
use Rattle.std.specs.Ordering.{is_lt, is_eq, ordering_reverse}
use Rattle.std.specs.Cmp.{Equal-is}
use Rattle.std.specs.FinMap.{find, from_entries, from_sorted, empty, entries, entries_sorted, get, insert, is_sorted, same_map, entries-from_sorted, get-from_sorted, get-from_entries, get-entries, get-insert, get-empty}
use Rattle.std.specs.FinMap.Entries.{below_all as below_entries}
use Rattle.std.specs.List.{IsDistinct}
use Rattle.std.specs.List.Sorted.{IsPermutation, IsSortedByKey}
use Rattle.std.specs.Map.{lookup}
use Rattle.std.proofs.lemmas.Bool.{false≢true, eq-eqb}
use Rattle.std.proofs.lemmas.List.Sorted.{IsPermutation-map, IsPermutation-sym, Contains-permutation}
use Rattle.std.proofs.lemmas.Map.Keys.{IsDistinct-IsPermutation}
use Rattle.std.proofs.lemmas.Map.Views.{Contains-from_lookup, lookup-from_Contains}
use Rattle.calvin_types.specs.declared.key.Key.{Key}
use Rattle.calvin_types.specs.Keys.{key_cmp, has, same_key, below_all, rises, by_order, insert_key, insert_all, are_distinct}
use Rattle.calvin_types.specs.KeyOrder.{key_cmp_exact, key_cmp_total, same_key-self}
use Rattle.calvin_types.specs.SameKeys.{equal_keys}
use Rattle.calvin_types.specs.SameKeysLaws.{equal_keys_exact, equal_keys_self, equal_keys_equiv}
use Rattle.calvin_types.specs.Exact.{first, second, both}
use Rattle.calvin_types.proofs.KeySets.{has-insert_key}
use Rattle.calvin_types.proofs.Risings.{less, has-below}
use Rattle.calvin_app.specs.Rows.{Rows, overwritten}
use Rattle.calvin_app.specs.Writing.{keys_of}
use Rattle.calvin_app.proofs.RowTables.{get-row}

holds : (b : Bool) → T b → b ≡ true
holds true h = refl
holds false h = absurd h

-- ---- keys that rise

below_less : (x y : Key) (ks : List Key) → key_cmp x y ≡ Less → below_all y ks ≡ true → below_all x ks ≡ true
below_less x y [] p h = refl
below_less x y (k ∷ ks) p h = both _ _ (ap is_lt (key_cmp_total.trans x y k p (less _ (first _ _ h)))) (below_less x y ks p (second _ _ h))

rises-before : (x y : Key) (ks : List Key) → key_cmp x y ≡ Less → rises (y ∷ ks) ≡ true → rises (x ∷ y ∷ ks) ≡ true
rises-before x y ks p h = both _ _ (both _ _ (ap is_lt p) (below_less x y ks p (first _ _ h))) h

-- keys that differ and don't fall rise
next : (x y : Key) → is_lt (key_cmp y x) ≡ false → equal_keys x y ≡ false → key_cmp x y ≡ Less
next x y up other = go (key_cmp x y) refl where
  go : (o : Ordering) → key_cmp x y ≡ o → key_cmp x y ≡ Less
  go Less is = is
  go Equal is = absurd (false≢true (sym other ∙ ap (equal_keys x) (sym (key_cmp_exact x y is)) ∙ equal_keys_self x))
  go Greater is = absurd (false≢true (sym up ∙ ap is_lt (key_cmp_total.antisymm y x ∙ ap ordering_reverse is)))

length-insert_new : (q : Key) (ks : List Key) → has ks q ≡ false → length (insert_key q ks) ≡ length ks + 1
length-insert_new q [] new = refl
length-insert_new q (k ∷ ks) new = elim (key_cmp q k) as (λ o. (is_eq o || has ks q) ≡ false → length (by_order o (q ∷ k ∷ ks) (k ∷ ks) (k ∷ insert_key q ks)) ≡ length (k ∷ ks) + 1) [
  | Less ↦ λ new. omega arith
  | Equal ↦ λ new. absurd (false≢true (sym new))
  | Greater ↦ λ new. omega (arith, length-insert_new q ks new)
] new

apart : (q x : Key) (xs : List Key) → below_all x xs ≡ true → has xs q ≡ true → (b : Bool) → same_key q x ≡ b → b ≡ false
apart q x xs below there false is = refl
apart q x xs below there true is = absurd (false≢true (sym (ap (has xs) (key_cmp_exact q x ((Equal-is (key_cmp q x)).0 is)) ∙ has-below x xs below) ∙ there))

length-insert_all : (qs ks : List Key) → rises qs ≡ true → ((x : Key) → has qs x ≡ true → has ks x ≡ false) → length (insert_all qs ks) ≡ length qs + length ks
length-insert_all [] ks h new = omega arith
length-insert_all (q ∷ qs) ks h new =
    let one = length-insert_new q ks (new q (ap (λ b. b || has qs q) (same_key-self q))) in
    let rest = length-insert_all qs (insert_key q ks) (second _ _ h) (λ x there. has-insert_key x q ks ∙ (λ i. apart x q qs (first _ _ h) there _ refl i || new x (ap (λ b. same_key x q || b) there ∙ or-true (same_key x q)) i)) in
    omega (arith, rest, one)

rises-distinct : (ks : List Key) → rises ks ≡ true → are_distinct ks ≡ true
rises-distinct ks h = let all = length-insert_all ks [] h (λ x there. refl) in eq-eqb (length (insert_all ks [])) (length ks) (omega (arith, all))

module _ {Row : Type 0} where
  below-entries : (q : Key) (es : List (Key × Row)) → below_all q (keys_of es) ≡ below_entries key_cmp q es
  below-entries q [] = refl
  below-entries q (e ∷ es) = ap (λ b. is_lt (key_cmp q e.0) && b) (below-entries q es)

  rises-sorted : (es : List (Key × Row)) → rises (keys_of es) ≡ is_sorted key_cmp es
  rises-sorted [] = refl
  rises-sorted (e ∷ es) = λ i. below-entries e.0 es i && rises-sorted es i

  sorted-rises : (es : List (Key × Row)) → IsSortedByKey (λ e. e.0) key_cmp es → IsDistinct equal_keys (keys_of es) → rises (keys_of es) ≡ true
  unfolding IsDistinct
  sorted-rises [] up other = refl
  sorted-rises (x ∷ []) up other = refl
  sorted-rises (x ∷ y ∷ es) up other =
      rises-before x.0 y.0 (keys_of es) (next x.0 y.0 (up 0 x (omega arith) (omega arith)) other.0.0) (sorted-rises (y ∷ es) (λ k d above within. later k d (up (suc k) d (omega arith) (omega (arith, within)))) other.1)
    where
      later : (k : ℕ) (d : Key × Row) → is_lt (key_cmp (get_or (x ∷ y ∷ es) (suc k + 1) d).0 (get_or (y ∷ es) k d).0) ≡ false → is_lt (key_cmp (get_or (y ∷ es) (k + 1) d).0 (get_or (y ∷ es) k d).0) ≡ false
      later k d h = let at : suc k + 1 ≡ suc (k + 1) = omega arith in subst (λ j. is_lt (key_cmp (get_or (x ∷ y ∷ es) j d).0 (get_or (y ∷ es) k d).0) ≡ false) at h

  -- ---- entries in another order

  lookup-moved : (es fs : List (Key × Row)) → IsDistinct equal_keys (keys_of es) → IsDistinct equal_keys (keys_of fs) → IsPermutation es fs → (q : Key) → lookup (equal_keys q) fs ≡ lookup (equal_keys q) es
  lookup-moved es fs once once_moved moved q = go (lookup (equal_keys q) es) refl (lookup (equal_keys q) fs) refl where
    go : (o : Option Row) → lookup (equal_keys q) es ≡ o → (p : Option Row) → lookup (equal_keys q) fs ≡ p → lookup (equal_keys q) fs ≡ lookup (equal_keys q) es
    go (Some v) is p at = lookup-from_Contains equal_keys_equiv q v fs once_moved (Contains-permutation es fs (q, v) moved (Contains-from_lookup equal_keys_exact q v es is)) ∙ sym is
    go None is None at = at ∙ sym is
    go None is (Some v) at = at ∙ sym (lookup-from_Contains equal_keys_equiv q v es once (Contains-permutation fs es (q, v) (IsPermutation-sym es fs moved) (Contains-from_lookup equal_keys_exact q v fs at)))

  pub is_entries : (es fs : List (Key × Row)) → IsDistinct equal_keys (keys_of es) → IsPermutation es fs → IsSortedByKey (λ e. e.0) key_cmp fs → fs ≡ entries (from_entries {R = key_cmp} es)
  is_entries es fs once moved up =
      let once_moved : IsDistinct equal_keys (keys_of fs) = IsDistinct-IsPermutation equal_keys (equal_keys_equiv.symm) (keys_of es) (keys_of fs) (IsPermutation-map (λ e. e.0) es fs moved) once in
      let so : T (is_sorted key_cmp fs) = subst T (sym (sym (rises-sorted fs) ∙ sorted-rises fs up once_moved)) tt in
      sym (entries-from_sorted key_cmp fs so)
      ∙ ap entries (same_map key_cmp_total key_cmp_exact (from_sorted fs) (from_entries es) (λ q.
      get-from_sorted key_cmp fs q so ∙ sym (get-from_entries key_cmp_total fs q) ∙ get-row fs q ∙ lookup-moved es fs once once_moved moved q ∙ sym (get-row es q)))

  -- ---- a map from its entries

  or_else : Option Row → Option Row → Option Row
  or_else None o = o
  or_else (Some v) o = Some v

  or_none : (o : Option Row) → or_else o None ≡ o
  unfolding or_else
  or_none None = refl
  or_none (Some v) = refl

  find-none : (q : Key) (ws : List (Key × Row)) → has (keys_of ws) q ≡ false → find key_cmp q ws ≡ None
  find-none q [] missing = refl
  find-none q (w ∷ ws) missing = elim (same_key q w.0) as (λ b. (b || has (keys_of ws) q) ≡ false → cond b (Some w.1) (find key_cmp q ws) ≡ None) [
    | true ↦ λ h. absurd (false≢true (sym h))
    | false ↦ λ h. find-none q ws h
  ] missing

  get-overwritten : (ws : List (Key × Row)) (rows : Rows Row) (q : Key) → rises (keys_of ws) ≡ true → get (overwritten rows ws) q ≡ or_else (find key_cmp q ws) (get rows q)
  unfolding or_else
  get-overwritten [] rows q h = refl
  get-overwritten (w ∷ ws) rows q h =
      get-overwritten ws (insert rows w.0 w.1) q (second _ _ h)
      ∙ ap (or_else (find key_cmp q ws)) (get-insert key_cmp_total rows w.0 w.1 q)
      ∙ go (same_key q w.0) refl
    where
      go : (b : Bool) → same_key q w.0 ≡ b → or_else (find key_cmp q ws) (cond b (Some w.1) (get rows q)) ≡ or_else (cond b (Some w.1) (find key_cmp q ws)) (get rows q)
      go false is = refl
      go true is = ap (λ o. or_else o (Some w.1)) (find-none q ws (ap (has (keys_of ws)) (key_cmp_exact q w.0 ((Equal-is (key_cmp q w.0)).0 is)) ∙ has-below w.0 (keys_of ws) (first _ _ h)))

  entries-rise : (rows : Rows Row) → rises (keys_of (entries rows)) ≡ true
  entries-rise rows = rises-sorted (entries rows) ∙ holds _ (entries_sorted rows)

  -- the entries of rows make the rows again
  pub is_whole : (rows : Rows Row) → overwritten empty (entries rows) ≡ rows
  is_whole rows = same_map key_cmp_total key_cmp_exact _ rows (λ q.
      get-overwritten (entries rows) empty q (entries-rise rows) ∙ ap (or_else (find key_cmp q (entries rows))) (get-empty key_cmp q)
      ∙ or_none _ ∙ sym (get-entries rows q))

  -- and have each key once
  pub is_once : (rows : Rows Row) → are_distinct (keys_of (entries rows)) ≡ true
  is_once rows = rises-distinct (keys_of (entries rows)) (entries-rise rows)
