-- The entries of the keys that were looked up, in the order of the keys.
use Rattle.std.proofs.Common.{◌≡◌, ℕ, zero, suc, ◌+◌, Bool, true, false, cond, ◌||◌, List, [], ◌∷◌, ◌++◌, Option, Some, None, slice_get, take, refl, sym, ◌∙◌, ap}
use Rattle.std.proofs.lemmas.Bool.{false≢true}
use Rattle.std.proofs.lemmas.Option.{none-some, same_Some}
use Rattle.std.specs.Cmp.{Equal-is}
use Rattle.std.specs.FinMap as map
use Rattle.std.specs.FinMap.Entries.{by_order}
use Rattle.std.specs.Option.{is_some}
use Rattle.std.specs.Ordering.{ordering_reverse}
use Rattle.std.specs.declared.cmp.Ordering.TheVariants.{Less}
use Rattle.calvin_types.specs.declared.key.Key.{Key}
use Rattle.calvin_types.specs.Exact.{first, second}
use Rattle.calvin_types.specs.Keys.{key_cmp, has, same_key, below_all, rises}
use Rattle.calvin_types.specs.KeyOrder.{key_cmp_exact, key_cmp_total, same_key-self}
use Rattle.calvin_types.proofs.Fews.{take_at}
use Rattle.calvin_types.proofs.Risings.{less}
use Rattle.calvin_app.specs.EntryLaws.{entries_kept}
use Rattle.calvin_app.specs.Rows.{Rows, view}
use Rattle.calvin_app.proofs.Views.{get-view, view-none, view-push_row, view-push_none, shown_none}

below_at : (x : Key) (ks : List Key) (i : ℕ) (k : Key) → below_all x ks ≡ true → slice_get ks i ≡ Some k → key_cmp x k ≡ Less
below_at x [] i k h here = absurd (none-some _ here)
below_at x (y ∷ ks) zero k h here = ap (key_cmp x) (sym (same_Some y k here)) ∙ less _ (first _ _ h)
below_at x (y ∷ ks) (suc i) k h here = below_at x ks i k (second _ _ h) here

-- of rising keys those in front of a place are below the one there
front_below : (ks : List Key) (i : ℕ) (k q : Key) → rises ks ≡ true → slice_get ks i ≡ Some k → has (take i ks) q ≡ true → key_cmp q k ≡ Less
front_below [] i k q h here among = absurd (none-some _ here)
front_below (x ∷ ks) zero k q h here among = absurd (false≢true among)
front_below (x ∷ ks) (suc i) k q h here among =
    elim (same_key q x) as (λ b. same_key q x ≡ b → (b || has (take i ks) q) ≡ true → key_cmp q k ≡ Less) [
      | true ↦ λ is _. ap (λ (y : Key). key_cmp y k) (key_cmp_exact q x ((Equal-is (key_cmp q x)).0 is)) ∙ below_at x ks i k (first _ _ h) here
      | false ↦ λ is rest. front_below ks i k q (second _ _ h) here rest
    ] refl among

module _ {Row : Type 0} where
  there_or_later : (b : Bool) (r : Row) (o : Option Row) → is_some o ≡ true → is_some (cond b (Some r) o) ≡ true
  there_or_later true r o h = refl
  there_or_later false r o h = h

  -- an entry above all others is put at the end
  put_above : (k : Key) (r : Row) (es : List (Key × Row)) → ((q : Key) → is_some (map.find key_cmp q es) ≡ true → key_cmp q k ≡ Less) → map.put key_cmp k r es ≡ es ++ (k, r) ∷ []
  put_above k r [] low = refl
  put_above k r (e ∷ es) low =
      let itself : is_some (map.find key_cmp e.0 (e ∷ es)) ≡ true = ap (λ b. is_some (cond b (Some e.1) (map.find key_cmp e.0 es))) (same_key-self e.0) in
      ap (λ o. by_order o ((k, r) ∷ e ∷ es) ((e.0, r) ∷ es) (e ∷ map.put key_cmp k r es)) (key_cmp_total.antisymm k e.0 ∙ ap ordering_reverse (low e.0 itself))
      ∙ ap (λ xs. e ∷ xs) (put_above k r es (λ q h. low q (there_or_later (same_key q e.0) e.1 (map.find key_cmp q es) h)))

  -- of no key there is none
  pub entries-none : (rows : Rows Row) → map.entries (view rows []) ≡ []
  entries-none rows = ap map.entries (sym (view-none rows) ∙ sym shown_none) ∙ entries_kept [] tt

  among_them : (b : Bool) (o : Option Row) → is_some (cond b o None) ≡ true → b ≡ true
  among_them true o h = refl
  among_them false o h = absurd (false≢true h)

  module _ (rows : Rows Row) (ks : List Key) (i : ℕ) (k : Key) (here : slice_get ks i ≡ Some k) where
    -- the entries with that of the next key behind them
    pub entries-row : (r : Row) → rises ks ≡ true → map.get rows k ≡ Some r → map.entries (view rows (take i ks)) ++ (k, r) ∷ [] ≡ map.entries (view rows (take (i + 1) ks))
    entries-row r up there =
        let seen = view rows (take i ks) in
        let all_below : (q : Key) → is_some (map.find key_cmp q (map.entries seen)) ≡ true → key_cmp q k ≡ Less =
        λ q h. front_below ks i k q up here (among_them (has (take i ks) q) (map.get rows q) (ap is_some (sym (get-view rows (take i ks) q) ∙ map.get-entries seen q) ∙ h)) in
        sym (put_above k r (map.entries seen) all_below) ∙ sym (map.entries-insert key_cmp_total seen k r)
        ∙ ap map.entries (view-push_row rows (take i ks) k r there ∙ ap (view rows) (sym (take_at ks i k here)))

    -- a key without a row adds none
    pub entries-no_row : map.get rows k ≡ None → map.entries (view rows (take i ks)) ≡ map.entries (view rows (take (i + 1) ks))
    entries-no_row lacks = ap map.entries (view-push_none rows (take i ks) k lacks ∙ ap (view rows) (sym (take_at ks i k here)))
