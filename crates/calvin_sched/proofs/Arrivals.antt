-- What one arrival more makes of what came.
use Rattle.std.proofs.Common.{◌≡◌, ◌≢◌, ℕ, ◌+◌, Bool, cond, ◌||◌, ◌⊎◌, inl, inr, List, [], ◌∷◌, ◌++◌, take, Option, Some, None, slice_get, sym, ap, ◌∙◌}
use Rattle.std.proofs.Math.Bool.{or-true, or-false, or_assoc}
use Rattle.std.proofs.lemmas.Bool.{ne_eqb, eq-eqb}
use Rattle.std.proofs.lemmas.List.Sums.{fold-append}
use Rattle.std.proofs.lemmas.Map.Lookups.{exact_unsigned}
use Rattle.std.specs.Cmp.{nat_cmp_total}
use Rattle.std.specs.FinMap.{FinMap, get, insert, empty, same_map, get-empty, get-insert}
use Rattle.std.specs.List.{fold, list_any}
use Rattle.std.specs.Option.{unwrap_or}
use Rattle.std.specs.Ordering.{nat_cmp}
use Rattle.std.specs.Prelude.{◌==◌, is_some}
use Rattle.calvin_types.specs.declared.key.Key.{Key}
use Rattle.calvin_types.specs.Keys.{key_cmp}
use Rattle.calvin_types.specs.KeyOrder.{key_cmp_total}
use Rattle.calvin_types.specs.SameKeys.{equal_keys}
use Rattle.calvin_types.proofs.ExactMaps.{same_or_not, insert_here, insert_other}
use Rattle.calvin_types.proofs.Fews.{take_at}
use Rattle.calvin_app.specs.Entries.{rising, shown}
use Rattle.calvin_app.specs.Rows.{Rows}
use Rattle.calvin_app.proofs.Puts.{equal_keys-is}
use Rattle.calvin_app.proofs.Views.{shown_none}
use Rattle.calvin_row_list.proofs.Fronts.{shown-next}
use Rattle.calvin_sched.specs.Arrivals.{from_of, rows_from, with_arrival, came_by}
use Rattle.calvin_sched.specs.declared.came.Arrival.{Arrival}
use Rattle.calvin_sched.specs.declared.came.Arrival.TheVariants.{Nothing, First, Further}

module _ {Row : Type 0} where
  -- where nothing came no key has a row
  pub row_none : (q : ℕ) (key : Key) → None ≡ get (rows_from {Row = Row} empty q) key
  row_none q key = sym (ap (λ (o : Option (Rows Row)). get (unwrap_or o empty) key) (get-empty nat_cmp q) ∙ get-empty key_cmp key)

  -- the rows of the partition that were put, and of another one
  rows_here : (came : FinMap {K = ℕ} nat_cmp (Rows Row)) (from : ℕ) (rows : Rows Row) → rows_from (insert came from rows) from ≡ rows
  rows_here came from rows = ap (λ o. unwrap_or o empty) (insert_here nat_cmp nat_cmp_total exact_unsigned came from rows)

  rows_there : (came : FinMap {K = ℕ} nat_cmp (Rows Row)) (from q : ℕ) (rows : Rows Row) → from ≢ q → rows_from (insert came from rows) q ≡ rows_from came q
  rows_there came from q rows far = ap (λ o. unwrap_or o empty) (insert_other nat_cmp nat_cmp_total exact_unsigned came from rows q (λ e. far (sym e)))

  -- what came from another partition leaves the rows as they are
  pub rows_other : (came : FinMap {K = ℕ} nat_cmp (Rows Row)) (a : Arrival Row) (q : ℕ) → from_of a ≢ q → rows_from (with_arrival came a) q ≡ rows_from came q
  rows_other came (Nothing from) q far = rows_there came from q empty far
  rows_other came (First from key row) q far = rows_there came from q (insert empty key row) far
  rows_other came (Further from key row) q far = rows_there came from q (insert (rows_from came from) key row) far

  -- what came from a partition gives it these rows
  module _ (came : FinMap {K = ℕ} nat_cmp (Rows Row)) (a : Arrival Row) (from q : ℕ) (at : from_of a ≡ q) where
    pub rows_nothing : a ≡ Nothing from → rows_from (with_arrival came a) q ≡ empty
    rows_nothing is = ap (λ b. rows_from (with_arrival came b) q) is ∙ ap (rows_from (insert came from empty)) (sym at ∙ ap from_of is) ∙ rows_here came from empty

    pub rows_first : (key : Key) (row : Row) → a ≡ First from key row → rows_from (with_arrival came a) q ≡ insert empty key row
    rows_first key row is = ap (λ b. rows_from (with_arrival came b) q) is ∙ ap (rows_from (insert came from (insert empty key row))) (sym at ∙ ap from_of is) ∙ rows_here came from (insert empty key row)

    pub rows_further : (key : Key) (row : Row) → a ≡ Further from key row → rows_from (with_arrival came a) q ≡ insert (rows_from came q) key row
    rows_further key row is =
        let sent = sym at ∙ ap from_of is in
        ap (λ b. rows_from (with_arrival came b) q) is ∙ ap (rows_from (insert came from (insert (rows_from came from) key row))) sent
        ∙ rows_here came from (insert (rows_from came from) key row) ∙ ap (λ p. insert (rows_from came p) key row) (sym sent)

  -- the row of a key among rows with one more
  pub row_with : (rows : Rows Row) (h : Key) (row : Row) (k : Key) (b : Bool) → b ≡ equal_keys k h → get (insert rows h row) k ≡ cond b (Some row) (get rows k)
  row_with rows h row k b is = get-insert key_cmp_total rows h row k ∙ ap (λ b. cond b (Some row) (get rows k)) (sym (is ∙ equal_keys-is k h))

  -- rows of a partition came where one of the arrivals is from there
  came_where : (came : FinMap {K = ℕ} nat_cmp (Rows Row)) (from q : ℕ) (rows : Rows Row) → is_some (get (insert came from rows) q) ≡ (is_some (get came q) || (from == q))
  came_where came from q rows = by_test (same_or_not nat_cmp nat_cmp_total exact_unsigned q from)
    where
      by_test : (q ≡ from) ⊎ (q ≢ from) → is_some (get (insert came from rows) q) ≡ (is_some (get came q) || (from == q))
      by_test (inl is) =
          ap (λ p. is_some (get (insert came from rows) p)) is ∙ ap is_some (insert_here nat_cmp nat_cmp_total exact_unsigned came from rows)
          ∙ sym (ap (λ b. is_some (get came q) || b) (eq-eqb from q (sym is)) ∙ or-true (is_some (get came q)))
      by_test (inr far) =
          ap is_some (insert_other nat_cmp nat_cmp_total exact_unsigned came from rows q far)
          ∙ sym (ap (λ b. is_some (get came q) || b) (ne_eqb from q (λ e. far (sym e))) ∙ or-false (is_some (get came q)))

  came_with : (came : FinMap {K = ℕ} nat_cmp (Rows Row)) (a : Arrival Row) (q : ℕ) → is_some (get (with_arrival came a) q) ≡ (is_some (get came q) || (from_of a == q))
  came_with came (Nothing from) q = came_where came from q empty
  came_with came (First from key row) q = came_where came from q (insert empty key row)
  came_with came (Further from key row) q = came_where came from q (insert (rows_from came from) key row)

  came_after : (came : FinMap {K = ℕ} nat_cmp (Rows Row)) (arrivals : List (Arrival Row)) (q : ℕ) → is_some (get (fold with_arrival came arrivals) q) ≡ (is_some (get came q) || list_any (λ a. from_of a == q) arrivals)
  came_after came [] q = sym (or-false (is_some (get came q)))
  came_after came (a ∷ arrivals) q = came_after (with_arrival came a) arrivals q ∙ ap (λ b. b || list_any (λ a. from_of a == q) arrivals) (came_with came a q) ∙ or_assoc (is_some (get came q)) (from_of a == q) (list_any (λ a. from_of a == q) arrivals)

  pub came_any : (arrivals : List (Arrival Row)) (q : ℕ) → list_any (λ a. from_of a == q) arrivals ≡ is_some (get (came_by arrivals) q)
  came_any arrivals q = sym (came_after empty arrivals q ∙ ap (λ o. is_some o || list_any (λ a. from_of a == q) arrivals) (get-empty nat_cmp q))

  -- of rows that are put twice the later count
  put_twice : (came : FinMap {K = ℕ} nat_cmp (Rows Row)) (from : ℕ) (v w : Rows Row) → insert (insert came from v) from w ≡ insert came from w
  put_twice came from v w = same_map nat_cmp_total exact_unsigned _ _ (λ q. by_test q (same_or_not nat_cmp nat_cmp_total exact_unsigned q from))
    where
      by_test : (q : ℕ) → (q ≡ from) ⊎ (q ≢ from) → get (insert (insert came from v) from w) q ≡ get (insert came from w) q
      by_test q (inl is) =
          ap (get (insert (insert came from v) from w)) is ∙ insert_here nat_cmp nat_cmp_total exact_unsigned (insert came from v) from w
          ∙ sym (ap (get (insert came from w)) is ∙ insert_here nat_cmp nat_cmp_total exact_unsigned came from w)
      by_test q (inr far) =
          insert_other nat_cmp nat_cmp_total exact_unsigned (insert came from v) from w q far ∙ insert_other nat_cmp nat_cmp_total exact_unsigned came from v q far
          ∙ sym (insert_other nat_cmp nat_cmp_total exact_unsigned came from w q far)

  -- one arrival more behind the others
  pub came_by-push : (arrivals : List (Arrival Row)) (a : Arrival Row) → came_by (arrivals ++ a ∷ []) ≡ with_arrival (came_by arrivals) a
  came_by-push arrivals a = fold-append with_arrival empty arrivals (a ∷ [])

  came_by-take : (arrivals : List (Arrival Row)) (i : ℕ) (a : Arrival Row) → slice_get arrivals i ≡ Some a → came_by (take (i + 1) arrivals) ≡ with_arrival (came_by (take i arrivals)) a
  came_by-take arrivals i a here = ap came_by (take_at arrivals i a here) ∙ came_by-push (take i arrivals) a

  -- what is so of a row before an arrival and after it is so of the arrivals up to there
  pub row_next : (arrivals : List (Arrival Row)) (i q : ℕ) (key : Key) (a : Arrival Row) (old new : Option Row) → slice_get arrivals i ≡ Some a
      → ((came : FinMap {K = ℕ} nat_cmp (Rows Row)) → old ≡ get (rows_from came q) key → new ≡ get (rows_from (with_arrival came a) q) key)
      → old ≡ get (rows_from (came_by (take i arrivals)) q) key → new ≡ get (rows_from (came_by (take (i + 1) arrivals)) q) key
  row_next arrivals i q key a old new here step so = step (came_by (take i arrivals)) so ∙ ap (λ m. get (rows_from m q) key) (sym (came_by-take arrivals i a here))

  module _ (arrivals : List (Arrival Row)) (came : FinMap {K = ℕ} nat_cmp (Rows Row)) (from : ℕ) (es : List (Key × Row)) (i : ℕ) (key : Key) (row : Row) (rise : rising es) (here : slice_get es i ≡ Some (key, row)) where
    -- the first row of a view, and a further one
    pub first_row : i ≡ 0 → came_by arrivals ≡ came → came_by (arrivals ++ First from key row ∷ []) ≡ insert came from (shown (take (i + 1) es))
    first_row start so =
        let alone : insert empty key row ≡ shown (take (i + 1) es) = ap (λ v. insert v key row) (sym (ap (λ n. shown (take n es)) start ∙ shown_none)) ∙ shown-next es i (key, row) rise here in
        came_by-push arrivals (First from key row) ∙ (λ j. insert (so j) from (alone j))

    pub further_row : came_by arrivals ≡ insert came from (shown (take i es)) → came_by (arrivals ++ Further from key row ∷ []) ≡ insert came from (shown (take (i + 1) es))
    further_row so =
        let grown = ap (λ v. insert v key row) (rows_here came from (shown (take i es))) ∙ shown-next es i (key, row) rise here in
        came_by-push arrivals (Further from key row) ∙ ap (λ m. insert m from (insert (rows_from m from) key row)) so
        ∙ put_twice came from (shown (take i es)) _ ∙ ap (insert came from) grown
