-- The pairs of a point are those of its rows.
use Rattle.std.proofs.Common.{◌≡◌, ℕ, Bool, true, false, cond, List, [], ◌∷◌, Option, Some, None, is_some, unwrap_or, option_map, refl, sym, ap, ◌∙◌}
use Rattle.std.specs.FinMap.{get, same_map}
use Rattle.std.specs.List.{AllByRecursion, IsDistinct, cons_option}
use Rattle.std.specs.Map.{lookup}
use Rattle.std.proofs.lemmas.Map.Keys.{IsDistinct-head, IsDistinct-tail, IsDistinct-cons}
use Rattle.calvin_types.specs.declared.key.Key.{Key}
use Rattle.calvin_types.specs.KeyOrder.{key_cmp_exact, key_cmp_total}
use Rattle.calvin_types.specs.SameKeys.{equal_keys}
use Rattle.calvin_types.specs.SameKeysLaws.{equal_keys_exact}
use Rattle.calvin_app.specs.Rows.{Rows}
use Rattle.calvin_app.specs.Writing.{keys_of}
use Rattle.calvin_app.proofs.RowTables.{get-row}
use Rattle.calvin_store.specs.Kept.{IsListed}
use Rattle.calvin_store.specs.Versions.{before_pairs, before_rows, AreBeside}
use Rattle.calvin_store.proofs.BeforeVersions.{get-before_rows}
use Rattle.calvin_store.proofs.SortedPairs.{none_distinct}

module _ {Row : Type 0} where
  -- a key that is equal to none of these has no row among them
  pub lookup_none : (q : Key) (es : List (Key × Row)) → AllByRecursion (λ y. equal_keys q y ≡ false) (keys_of es) → lookup (equal_keys q) es ≡ None
  lookup_none q [] h = refl
  lookup_none q (e ∷ es) h = ap (λ b. cond b (Some e.1) (lookup (equal_keys q) es)) h.0 ∙ lookup_none q es h.1

  -- what a key that has a row has before
  abbrev had_of : Option (Option Row) → Option Row → Option Row
  had_of kept None = None
  had_of kept (Some row) = unwrap_or kept (Some row)

  had_within : (kept : Option (Option Row)) (o : Option Row) → (is_some kept ≡ true → is_some o ≡ true) → had_of kept o ≡ unwrap_or kept o
  had_within kept (Some row) h = refl
  had_within None None h = refl
  had_within (Some p) None h = absurd (let e : false ≡ true = h refl in cc)

  module _ (before : Rows (Option Row)) where
    lookup-before_pairs : (es : List (Key × Row)) → IsDistinct equal_keys (keys_of es) → (q : Key) → lookup (equal_keys q) (before_pairs before es) ≡ had_of (get before q) (lookup (equal_keys q) es)
    lookup-before_pairs [] distinct q = refl
    lookup-before_pairs (e ∷ es) distinct q =
        go (unwrap_or (get before e.0) (Some e.1)) refl (equal_keys q e.0) refl (lookup-before_pairs es (IsDistinct-tail equal_keys e.0 (keys_of es) distinct) q)
      where
        only : q ≡ e.0 → lookup (equal_keys q) es ≡ None
        only is = ap (λ k. lookup (equal_keys k) es) is ∙ lookup_none e.0 es (IsDistinct-head equal_keys e.0 (keys_of es) distinct)

        go : (o : Option Row) → unwrap_or (get before e.0) (Some e.1) ≡ o → (b : Bool) → equal_keys q e.0 ≡ b
            → lookup (equal_keys q) (before_pairs before es) ≡ had_of (get before q) (lookup (equal_keys q) es)
            → lookup (equal_keys q) (cons_option (option_map (λ row. (e.0, row)) (unwrap_or (get before e.0) (Some e.1))) (before_pairs before es)) ≡ had_of (get before q) (cond (equal_keys q e.0) (Some e.1) (lookup (equal_keys q) es))
        go None has true is rest =
            let at : q ≡ e.0 = equal_keys_exact q e.0 is in
            ap (λ o. lookup (equal_keys q) (cons_option (option_map (λ (row : Row). (e.0, row)) o) (before_pairs before es))) has
            ∙ rest ∙ ap (had_of (get before q)) (only at)
            ∙ sym (ap (λ b. had_of (get before q) (cond b (Some e.1) (lookup (equal_keys q) es))) is ∙ ap (λ k. unwrap_or (get before k) (Some e.1)) at ∙ has)
        go (Some row) has true is rest =
            let at : q ≡ e.0 = equal_keys_exact q e.0 is in
            ap (λ o. lookup (equal_keys q) (cons_option (option_map (λ (row : Row). (e.0, row)) o) (before_pairs before es))) has
            ∙ ap (λ b. cond b (Some row) (lookup (equal_keys q) (before_pairs before es))) is
            ∙ sym (ap (λ b. had_of (get before q) (cond b (Some e.1) (lookup (equal_keys q) es))) is ∙ ap (λ k. unwrap_or (get before k) (Some e.1)) at ∙ has)
        go None has false is rest =
            ap (λ o. lookup (equal_keys q) (cons_option (option_map (λ (row : Row). (e.0, row)) o) (before_pairs before es))) has
            ∙ rest ∙ ap (λ b. had_of (get before q) (cond b (Some e.1) (lookup (equal_keys q) es))) (sym is)
        go (Some row) has false is rest =
            ap (λ o. lookup (equal_keys q) (cons_option (option_map (λ (row : Row). (e.0, row)) o) (before_pairs before es))) has
            ∙ ap (λ b. cond b (Some row) (lookup (equal_keys q) (before_pairs before es))) is
            ∙ rest ∙ ap (λ b. had_of (get before q) (cond b (Some e.1) (lookup (equal_keys q) es))) (sym is)

    -- what is so of each key is so of each key that is left
    keys_left : (P : Key → Type 0) (es : List (Key × Row)) → AllByRecursion P (keys_of es) → AllByRecursion P (keys_of (before_pairs before es))
    keys_left P [] h = tt
    keys_left P (e ∷ es) h = go (unwrap_or (get before e.0) (Some e.1)) (keys_left P es h.1)
      where
        go : (o : Option Row) → AllByRecursion P (keys_of (before_pairs before es)) → AllByRecursion P (keys_of (cons_option (option_map (λ row. (e.0, row)) o) (before_pairs before es)))
        go None rest = rest
        go (Some row) rest = (h.0, rest)

    distinct_left : (es : List (Key × Row)) → IsDistinct equal_keys (keys_of es) → IsDistinct equal_keys (keys_of (before_pairs before es))
    distinct_left [] distinct = none_distinct
    distinct_left (e ∷ es) distinct = go (unwrap_or (get before e.0) (Some e.1)) (distinct_left es (IsDistinct-tail equal_keys e.0 (keys_of es) distinct))
      where
        go : (o : Option Row) → IsDistinct equal_keys (keys_of (before_pairs before es)) → IsDistinct equal_keys (keys_of (cons_option (option_map (λ row. (e.0, row)) o) (before_pairs before es)))
        go None rest = rest
        go (Some row) rest = IsDistinct-cons equal_keys e.0 (keys_of (before_pairs before es)) (keys_left (λ y. equal_keys e.0 y ≡ false) es (IsDistinct-head equal_keys e.0 (keys_of es) distinct)) rest

    pub listed_before : (epoch : Option ℕ) (es : List (Key × Row)) (rows : Rows Row) → AreBeside epoch rows before → IsListed es rows → IsListed (before_pairs before es) (before_rows rows before)
    listed_before epoch es rows beside listed = record {
      distinct = distinct_left es listed.distinct;
      rows_are = same_map key_cmp_total key_cmp_exact _ _ (λ q.
          get-row (before_pairs before es) q ∙ lookup-before_pairs es listed.distinct q
          ∙ ap (had_of (get before q)) (sym (get-row es q) ∙ ap (λ (m : Rows Row). get m q) listed.rows_are)
          ∙ had_within (get before q) (get rows q) (beside.within q) ∙ sym (get-before_rows rows before q));
    }
