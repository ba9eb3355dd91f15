-- A hot table and a cold one: what they have together, and how rows go from one to the other.
use Rattle.std.proofs.Common.{◌≡◌, ◌+◌, Bool, true, false, cond, ◌||◌, ◌&&◌, not, List, [], ◌∷◌, ◌++◌, map, length-append, Option, Some, None, Result, Ok, Err, is_some, option_map, refl, sym, ap, subst, ◌∙◌}
use Rattle.std.specs.Option.{option_or}
use Rattle.std.specs.Ordering.{eq_by_cmp}
use Rattle.std.specs.List.{AllByRecursion, IsDistinct}
use Rattle.std.specs.Map.{lookup}
use Rattle.std.specs.FinMap.{empty, entries, entries_sorted, find, get, insert, remove, len, get-entries, get-from_entries, get-insert, get-remove, get-empty, len-entries, same_map}
use Rattle.std.proofs.lemmas.Map.Keys.{IsDistinct-head, IsDistinct-tail, IsDistinct-cons}
use Rattle.calvin_types.specs.Deeds.{Did, Does, Refuses}
use Rattle.calvin_types.specs.declared.fault.Fault.{Fault}
use Rattle.calvin_types.specs.declared.fault.Fault.TheVariants.{OutOfMemory, NoRow}
use Rattle.calvin_types.specs.declared.key.Key.{Key}
use Rattle.calvin_types.specs.Keys.{key_cmp}
use Rattle.calvin_types.specs.KeyOrder.{key_cmp_exact, key_cmp_total}
use Rattle.calvin_types.specs.SameKeys.{equal_keys}
use Rattle.calvin_types.specs.SameKeysLaws.{equal_keys_self}
use Rattle.calvin_app.specs.Rows.{Rows}
use Rattle.calvin_app.specs.Stores.{without}
use Rattle.calvin_app.specs.Writing.{keys_of}
use Rattle.calvin_app.proofs.RowTables.{get-row}
use Rattle.calvin_store.specs.Kept.{IsListed}
use Rattle.calvin_store.specs.Tiers.{Tiered, both, names_of, AreApart, is_hot_in, cool_in}
use Rattle.calvin_store.proofs.BeforeVersions.{one_key, is_none}
use Rattle.calvin_store.proofs.PutsInTurn.{get-without}
use Rattle.calvin_store.proofs.SortedPairs.{len-distinct, distinct-rising}

module _ {Row : Type 0} where
  find-append : (q : Key) (es fs : List (Key × Row)) → find key_cmp q (es ++ fs) ≡ option_or (find key_cmp q es) (find key_cmp q fs)
  find-append q [] fs = refl
  find-append q (e ∷ es) fs = go (eq_by_cmp key_cmp q e.0) (find-append q es fs)
    where
      go : (b : Bool) → find key_cmp q (es ++ fs) ≡ option_or (find key_cmp q es) (find key_cmp q fs) → cond b (Some e.1) (find key_cmp q (es ++ fs)) ≡ option_or (cond b (Some e.1) (find key_cmp q es)) (find key_cmp q fs)
      go true rest = refl
      go false rest = rest

  -- what both have at a key
  pub get-both : (hot cold : Rows Row) (q : Key) → get (both hot cold) q ≡ option_or (get hot q) (get cold q)
  get-both hot cold q = get-from_entries key_cmp_total (entries hot ++ entries cold) q ∙ find-append q (entries hot) (entries cold) ∙ (λ i. option_or (sym (get-entries hot q) i) (sym (get-entries cold q) i))

  abbrev named : Option Row → Option (Unit {0})
  named o = option_map (λ _. tt) o

  find-names : (q : Key) (es : List (Key × Row)) → find key_cmp q (map (λ (e : Key × Row). (e.0, tt)) es) ≡ named (find key_cmp q es)
  find-names q [] = refl
  find-names q (e ∷ es) = go (eq_by_cmp key_cmp q e.0) (find-names q es)
    where
      go : (b : Bool) → find key_cmp q (map (λ (e : Key × Row). (e.0, tt)) es) ≡ named (find key_cmp q es) → cond b (Some tt) (find key_cmp q (map (λ (e : Key × Row). (e.0, tt)) es)) ≡ named (cond b (Some e.1) (find key_cmp q es))
      go true rest = refl
      go false rest = rest

  get-names : (rows : Rows Row) (q : Key) → get (names_of rows) q ≡ named (get rows q)
  get-names rows q = get-from_entries key_cmp_total (map (λ (e : Key × Row). (e.0, tt)) (entries rows)) q ∙ find-names q (entries rows) ∙ ap named (sym (get-entries rows q))

  is_some-named : (o : Option Row) → is_some (named o) ≡ is_some o
  is_some-named None = refl
  is_some-named (Some x) = refl

  -- what is cold by name has a cold row
  pub has_name : (rows : Rows Row) (k : Key) → is_some (get (names_of rows) k) ≡ is_some (get rows k)
  has_name rows k = ap is_some (get-names rows k) ∙ is_some-named (get rows k)

  -- ---- no cold row

  or-none : (o : Option Row) → option_or o None ≡ o
  or-none None = refl
  or-none (Some x) = refl

  pub both-none : (hot : Rows Row) → both hot empty ≡ hot
  both-none hot = same_map key_cmp_total key_cmp_exact _ _ (λ q. get-both hot empty q ∙ ap (option_or (get hot q)) (get-empty key_cmp q) ∙ or-none (get hot q))

  pub apart-none : (hot : Rows Row) → AreApart hot empty
  apart-none hot q h = ap is_some (get-empty key_cmp q)

  -- ---- their pairs, and how many they are

  all-append : (P : Key → Type 0) (es fs : List (Key × Row)) → AllByRecursion P (keys_of es) → AllByRecursion P (keys_of fs) → AllByRecursion P (keys_of (es ++ fs))
  all-append P [] fs p q = q
  all-append P (e ∷ es) fs p q = (p.0, all-append P es fs p.1 q)

  none_equal : (k : Key) (fs : List (Key × Row)) → is_some (lookup (equal_keys k) fs) ≡ false → AllByRecursion (λ y. equal_keys k y ≡ false) (keys_of fs)
  none_equal k [] h = tt
  none_equal k (f ∷ fs) h = (not_here (equal_keys k f.0) refl, none_equal k fs (later (equal_keys k f.0) h))
    where
      later : (b : Bool) → is_some (cond b (Some f.1) (lookup (equal_keys k) fs)) ≡ false → is_some (lookup (equal_keys k) fs) ≡ false
      later true e = absurd (cc)
      later false e = e

      not_here : (b : Bool) → equal_keys k f.0 ≡ b → equal_keys k f.0 ≡ false
      not_here true is = absurd (let e : true ≡ false = sym (ap (λ b. is_some (cond b (Some f.1) (lookup (equal_keys k) fs))) is) ∙ h in cc)
      not_here false is = is

  distinct-append : (es fs : List (Key × Row)) → IsDistinct equal_keys (keys_of es) → IsDistinct equal_keys (keys_of fs)
      → ((k : Key) → is_some (lookup (equal_keys k) es) ≡ true → is_some (lookup (equal_keys k) fs) ≡ false) → IsDistinct equal_keys (keys_of (es ++ fs))
  distinct-append [] fs p q apart = q
  distinct-append (e ∷ es) fs p q apart =
      IsDistinct-cons equal_keys e.0 (keys_of (es ++ fs))
      (all-append (λ y. equal_keys e.0 y ≡ false) es fs (IsDistinct-head equal_keys e.0 (keys_of es) p) (none_equal e.0 fs (apart e.0 (ap (λ b. is_some (cond b (Some e.1) (lookup (equal_keys e.0) es))) (equal_keys_self e.0)))))
      (distinct-append es fs (IsDistinct-tail equal_keys e.0 (keys_of es) p) q (λ k there. apart k (go (equal_keys k e.0) k there)))
    where
      go : (b : Bool) (k : Key) → is_some (lookup (equal_keys k) es) ≡ true → is_some (cond b (Some e.1) (lookup (equal_keys k) es)) ≡ true
      go true k h = refl
      go false k h = h

  pub listed_both : (es fs : List (Key × Row)) (hot cold : Rows Row) → AreApart hot cold → IsListed es hot → IsListed fs cold → IsListed (es ++ fs) (both hot cold)
  listed_both es fs hot cold apart l m = record {
    distinct = distinct-append es fs l.distinct m.distinct (λ k there. ap is_some (looked fs cold m k) ∙ apart k (ap is_some (sym (looked es hot l k)) ∙ there));
    rows_are = same_map key_cmp_total key_cmp_exact _ _ (λ q.
        get-from_entries key_cmp_total (es ++ fs) q ∙ find-append q es fs
        ∙ (λ i. option_or (found es hot l q i) (found fs cold m q i)) ∙ sym (get-both hot cold q));
  }
    where
      looked : (gs : List (Key × Row)) (rows : Rows Row) → IsListed gs rows → (q : Key) → lookup (equal_keys q) gs ≡ get rows q
      looked gs rows h q = sym (get-row gs q) ∙ ap (λ (m : Rows Row). get m q) h.rows_are

      found : (gs : List (Key × Row)) (rows : Rows Row) → IsListed gs rows → (q : Key) → find key_cmp q gs ≡ get rows q
      found gs rows h q = sym (get-from_entries key_cmp_total gs q) ∙ ap (λ (m : Rows Row). get m q) h.rows_are

  listed_entries : (rows : Rows Row) → IsListed (entries rows) rows
  listed_entries rows = record {
    distinct = distinct-rising (entries rows) (entries_sorted rows);
    rows_are = same_map key_cmp_total key_cmp_exact _ _ (λ q. get-from_entries key_cmp_total (entries rows) q ∙ sym (get-entries rows q));
  }

  pub len-both : (hot cold : Rows Row) → AreApart hot cold → len (both hot cold) ≡ len hot + len cold
  len-both hot cold apart =
      len-distinct (entries hot ++ entries cold) (listed_both (entries hot) (entries cold) hot cold apart (listed_entries hot) (listed_entries cold)).distinct
      ∙ length-append (entries hot) (entries cold) ∙ (λ i. sym (len-entries hot) i + sym (len-entries cold) i)

  -- a row that isn't cold is in the hot table
  pub hot_in_both : (hot cold : Rows Row) → AreApart hot cold → (k : Key) → (is_some (get (both hot cold) k) && not (is_some (get (names_of cold) k))) ≡ is_some (get hot k)
  hot_in_both hot cold apart k =
      (λ i. is_some (get-both hot cold k i) && not (has_name cold k i))
      ∙ go (get hot k) refl (get cold k) refl
    where
      go : (h : Option Row) → get hot k ≡ h → (c : Option Row) → get cold k ≡ c → (is_some (option_or h c) && not (is_some c)) ≡ is_some h
      go None a None b = refl
      go None a (Some y) b = refl
      go (Some x) a None b = refl
      go (Some x) a (Some y) b = absurd (let e : true ≡ false = sym (ap is_some b) ∙ apart k (ap is_some a) in cc)

  -- the row of a key is the hot one, or else the cold one
  pub get_hot : (hot cold : Rows Row) (k : Key) (x : Row) → get hot k ≡ Some x → get (both hot cold) k ≡ Some x
  get_hot hot cold k x is = get-both hot cold k ∙ ap (λ h. option_or h (get cold k)) is

  pub get_cold : (hot cold : Rows Row) (k : Key) → get hot k ≡ None → get (both hot cold) k ≡ get cold k
  get_cold hot cold k is = get-both hot cold k ∙ ap (λ h. option_or h (get cold k)) is

  pub apart_as : (hot hot' cold cold' : Rows Row) → hot' ≡ hot → cold' ≡ cold → AreApart hot cold → AreApart hot' cold'
  apart_as hot hot' cold cold' p q apart = subst (λ h. AreApart h cold') (sym p) (subst (λ c. AreApart hot c) (sym q) apart)

  -- a key that has a hot row has no cold one
  pub not_cold : (hot cold : Rows Row) → AreApart hot cold → (k : Key) (x : Row) → get hot k ≡ Some x → get cold k ≡ None
  not_cold hot cold apart k x is = is_none (get cold k) (apart k (ap is_some is))

  -- ---- a row is put into the hot table, and its key is gone from the cold one

  pub removed_same : (cold : Rows Row) (k : Key) → get cold k ≡ None → cold ≡ remove cold k
  removed_same cold k none = same_map key_cmp_total key_cmp_exact _ _ (λ q. go q (eq_by_cmp key_cmp q k) refl ∙ sym (get-remove key_cmp_total cold k q))
    where
      go : (q : Key) (b : Bool) → eq_by_cmp key_cmp q k ≡ b → get cold q ≡ cond (eq_by_cmp key_cmp q k) None (get cold q)
      go q true is = ap (get cold) (one_key q k is) ∙ none ∙ ap (λ b. cond b None (get cold q)) (sym is)
      go q false is = ap (λ b. cond b None (get cold q)) (sym is)

  module _ (hot cold : Rows Row) (k : Key) (x : Row) where
    pub both-put : both (insert hot k x) (remove cold k) ≡ insert (both hot cold) k x
    both-put = same_map key_cmp_total key_cmp_exact _ _ (λ q.
        get-both (insert hot k x) (remove cold k) q
        ∙ (λ i. option_or (get-insert key_cmp_total hot k x q i) (get-remove key_cmp_total cold k q i))
        ∙ go q (eq_by_cmp key_cmp q k)
        ∙ sym (get-insert key_cmp_total (both hot cold) k x q ∙ ap (cond (eq_by_cmp key_cmp q k) (Some x)) (get-both hot cold q)))
      where
        go : (q : Key) (b : Bool) → option_or (cond b (Some x) (get hot q)) (cond b None (get cold q)) ≡ cond b (Some x) (option_or (get hot q) (get cold q))
        go q true = refl
        go q false = refl

    pub apart-put : AreApart hot cold → AreApart (insert hot k x) (remove cold k)
    apart-put apart q h = ap is_some (get-remove key_cmp_total cold k q) ∙ go (eq_by_cmp key_cmp q k) (ap is_some (sym (get-insert key_cmp_total hot k x q)) ∙ h)
      where
        go : (b : Bool) → is_some (cond b (Some x) (get hot q)) ≡ true → is_some (cond b None (get cold q)) ≡ false
        go true e = refl
        go false e = apart q e

  pub names-removed : (cold : Rows Row) (k : Key) → names_of (remove cold k) ≡ without (names_of cold) (k ∷ [])
  names-removed cold k = same_map key_cmp_total key_cmp_exact _ _ (λ q.
      get-names (remove cold k) q ∙ ap named (get-remove key_cmp_total cold k q) ∙ go q (eq_by_cmp key_cmp q k)
      ∙ sym (get-without (names_of cold) (k ∷ []) q ∙ ap (λ o. cond (not (eq_by_cmp key_cmp q k || false)) o None) (get-names cold q)))
    where
      go : (q : Key) (b : Bool) → named (cond b None (get cold q)) ≡ cond (not (b || false)) (named (get cold q)) None
      go q true = refl
      go q false = refl

  -- ---- a cold row becomes hot, and a hot one cold

  insert_same : (rows : Rows Row) (k : Key) (x : Row) → get rows k ≡ Some x → insert rows k x ≡ rows
  insert_same rows k x is = same_map key_cmp_total key_cmp_exact _ _ (λ q. get-insert key_cmp_total rows k x q ∙ go q (eq_by_cmp key_cmp q k) refl)
    where
      go : (q : Key) (b : Bool) → eq_by_cmp key_cmp q k ≡ b → cond b (Some x) (get rows q) ≡ get rows q
      go q true here = sym (ap (get rows) (one_key q k here) ∙ is)
      go q false here = refl

  pub both-warmed : (hot cold : Rows Row) (k : Key) (x : Row) → AreApart hot cold → get cold k ≡ Some x → both (insert hot k x) (remove cold k) ≡ both hot cold
  both-warmed hot cold k x apart is = both-put hot cold k x ∙ insert_same (both hot cold) k x (get-both hot cold k ∙ go (get hot k) refl)
    where
      go : (h : Option Row) → get hot k ≡ h → option_or h (get cold k) ≡ Some x
      go None there = is
      go (Some y) there = absurd (let e : true ≡ false = sym (ap is_some is) ∙ apart k (ap is_some there) in cc)

  pub both-cooled : (hot cold : Rows Row) (k : Key) (x : Row) → get hot k ≡ Some x → both (remove hot k) (insert cold k x) ≡ both hot cold
  both-cooled hot cold k x is = same_map key_cmp_total key_cmp_exact _ _ (λ q.
      get-both (remove hot k) (insert cold k x) q
      ∙ (λ i. option_or (get-remove key_cmp_total hot k q i) (get-insert key_cmp_total cold k x q i))
      ∙ go q (eq_by_cmp key_cmp q k) refl ∙ sym (get-both hot cold q))
    where
      go : (q : Key) (b : Bool) → eq_by_cmp key_cmp q k ≡ b → option_or (cond b None (get hot q)) (cond b (Some x) (get cold q)) ≡ option_or (get hot q) (get cold q)
      go q true here = sym (ap (λ h. option_or h (get cold q)) (ap (get hot) (one_key q k here) ∙ is))
      go q false here = refl

  pub names-cooled : (cold : Rows Row) (k : Key) (x : Row) → names_of (insert cold k x) ≡ insert (names_of cold) k tt
  names-cooled cold k x = same_map key_cmp_total key_cmp_exact _ _ (λ q.
      get-names (insert cold k x) q ∙ ap named (get-insert key_cmp_total cold k x q) ∙ go q (eq_by_cmp key_cmp q k)
      ∙ sym (get-insert key_cmp_total (names_of cold) k tt q ∙ ap (cond (eq_by_cmp key_cmp q k) (Some tt)) (get-names cold q)))
    where
      go : (q : Key) (b : Bool) → named (cond b (Some x) (get cold q)) ≡ cond b (Some tt) (named (get cold q))
      go q true = refl
      go q false = refl

  pub apart-cooled : (hot cold : Rows Row) (k : Key) (x : Row) → AreApart hot cold → AreApart (remove hot k) (insert cold k x)
  apart-cooled hot cold k x apart q h = ap is_some (get-insert key_cmp_total cold k x q) ∙ go (eq_by_cmp key_cmp q k) (ap is_some (sym (get-remove key_cmp_total hot k q)) ∙ h)
    where
      go : (b : Bool) → is_some (cond b None (get hot q)) ≡ true → is_some (cond b (Some x) (get cold q)) ≡ false
      go true e = absurd (cc)
      go false e = apart q e

  -- ---- what cooling a row comes to

  module _ (k : Key) (t : Tiered Row) where
    pub not_cooled : is_hot_in t k ≡ false → Did true (Err NoRow) (cool_in k t) t t
    not_cooled is = subst (λ b. Did true (Err NoRow) (cond b (Does (record t { cold = insert t.cold k tt }) tt) (Refuses NoRow)) t t) (sym is) (refl, refl)

    pub no_room : (r : Result (Unit {0}) Fault) (u : Tiered Row) → is_hot_in t k ≡ true → r ≡ Err OutOfMemory → u ≡ t → Did true r (cool_in k t) t u
    no_room r u is out same =
        subst (λ r. Did true r (cool_in k t) t u) (sym out)
        (subst (λ b. Did true (Err OutOfMemory) (cond b (Does (record t { cold = insert t.cold k tt }) tt) (Refuses NoRow)) t u) (sym is) (refl, refl, same))

    pub did_cool : (u : Tiered Row) → is_hot_in t k ≡ true → u ≡ record t { cold = insert t.cold k tt } → Did true (Ok tt) (cool_in k t) t u
    did_cool u is new = subst (λ b. Did true (Ok tt) (cond b (Does (record t { cold = insert t.cold k tt }) tt) (Refuses NoRow)) t u) (sym is) (refl, new)

pub names-none : (Row : Type 0) → names_of (empty {X = Row} {R = key_cmp}) ≡ empty
names-none Row = same_map key_cmp_total key_cmp_exact _ _ (λ q. get-names empty q ∙ ap named (get-empty key_cmp q) ∙ sym (get-empty key_cmp q))
