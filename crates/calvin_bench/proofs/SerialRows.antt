-- The serial run at one key: what the rows just before a place are, by the requests that write the key.
use Rattle.std.proofs.Common.{◌≡◌, suc, Bool, true, false, cond, ◌&&◌, List, [], ◌∷◌, inl, inr, refl, sym, ap, subst, ◌∙◌, map, arith}
use Rattle.std.specs.Ordering.{is_lt}
use Rattle.std.specs.List.{filter, Contains}
use Rattle.std.specs.FinMap.{get}
use Rattle.calvin_app.specs.Meaning.{Meaning, WritesWithin}
use Rattle.calvin_app.specs.Rows.{Rows, view}
use Rattle.calvin_app.specs.Serial.{is_current, writes_on, answer_one, after_one, serial, rows_before, answers_by_place}
use Rattle.calvin_bench.specs.Turns.{Writes}
use Rattle.calvin_types.specs.Keys.{has}
use Rattle.calvin_types.specs.Orders.{Order, StandsAt, Rises}
use Rattle.calvin_types.specs.Places.{place_cmp, IsBefore}
use Rattle.calvin_types.specs.Exact.{pointwise_exact}
use Rattle.calvin_types.specs.SameKeys.{same_keys, equal_keys}
use Rattle.calvin_types.specs.SameKeysLaws.{equal_keys_exact}
use Rattle.calvin_types.specs.declared.key.Key.{Key}
use Rattle.calvin_types.specs.declared.place.Place.{Place}
use Rattle.calvin_types.specs.declared.txn.Txn.{Txn}
use Rattle.calvin_bench.proofs.Placing.{places, Places, earlier, same_place, later, before_trans, upto_before}
use Rattle.calvin_types.proofs.PlaceOrder.{not_before_itself, not_both}
use Rattle.calvin_order.proofs.Places.{is_lt_false}
use Rattle.calvin_bench.proofs.KeyRows.{overwritten_other}

same_keys_are : (xs ys : List Key) → same_keys xs ys ≡ true → xs ≡ ys
same_keys_are = pointwise_exact equal_keys equal_keys_exact

and_right_true : (a b : Bool) → (a && b) ≡ true → b ≡ true
and_right_true true b e = e
and_right_true false b e = absurd (cc)

module _ {Args Row Reply : Type 0} (m : Meaning Args Row Reply) where
  -- what runs writes declared keys alone
  pub writes_declared : WritesWithin m → (t : Txn Args) (v : Rows Row) (k : Key) → has t.sets.writes k ≡ false → has (map (λ w. w.0) (writes_on m t v)) k ≡ false
  unfolding writes_on
  writes_declared law t v k h = go (is_current m t v) refl
    where
      none : (b : Bool) → (b ≡ true → ⊥) → b ≡ false
      none true f = absurd (f refl)
      none false f = refl

      go : (b : Bool) → is_current m t v ≡ b → has (map (λ w. w.0) (cond b (m.outcome t.args v).1 [])) k ≡ false
      go true e =
          let same = same_keys_are (m.needs t.args v).writes t.sets.writes (and_right_true (same_keys (m.needs t.args v).reads t.sets.reads) _ e) in
          none _ (λ held. let needed = law t.args v k held in let declared = rw same at needed in cc)
      go false e = refl

  pub after_other : WritesWithin m → (t : Txn Args) (rows : Rows Row) (k : Key) → has t.sets.writes k ≡ false → get (after_one m t rows) k ≡ get rows k
  after_other law t rows k h = overwritten_other (writes_on m t (view rows t.sets.reads)) rows k (writes_declared law t (view rows t.sets.reads) k h)

  pub run_below : (e : Place × Txn Args) (es : Order Args) (rows : Rows Row) (q : Place) → IsBefore e.0 q → rows_before m (e ∷ es) rows q ≡ rows_before m es (after_one m e.1 rows) q
  run_below e es rows q h = ap (λ b. (serial m (map (λ e. e.1) (cond (is_lt b) (e ∷ filter (λ e. is_lt (place_cmp e.0 q)) es) (filter (λ e. is_lt (place_cmp e.0 q)) es))) rows).0) h

  pub run_not_below : (e : Place × Txn Args) (es : Order Args) (rows : Rows Row) (q : Place) → (IsBefore e.0 q → ⊥) → rows_before m (e ∷ es) rows q ≡ rows_before m es rows q
  run_not_below e es rows q h = ap (λ b. (serial m (map (λ e. e.1) (cond b (e ∷ filter (λ e. is_lt (place_cmp e.0 q)) es) (filter (λ e. is_lt (place_cmp e.0 q)) es))) rows).0) (is_lt_false (place_cmp e.0 q) h)

  -- nothing stands before q: the rows are those of the start
  pub none_before : (es : Order Args) (rows : Rows Row) (q : Place) → ((n : Place) (t : Txn Args) → StandsAt es n t → IsBefore n q → ⊥) → rows_before m es rows q ≡ rows
  none_before [] rows q none = refl
  none_before (e ∷ es) rows q none = run_not_below e es rows q (none e.0 e.1 (inl (refl, refl))) ∙ none_before es rows q (λ n t at. none n t (inr at))

  -- nothing before q writes k: the row is that of the start
  pub untouched : WritesWithin m → (es : Order Args) (rows : Rows Row) (q : Place) (k : Key) → ((n : Place) (t : Txn Args) → StandsAt es n t → IsBefore n q → Writes t k → ⊥) → get (rows_before m es rows q) k ≡ get rows k
  untouched law [] rows q k none = refl
  untouched law (e ∷ es) rows q k none = go (places e.0 q) (has e.1.sets.writes k) refl (λ rows. untouched law es rows q k (λ n t at. none n t (inr at)))
    where
      go : Places e.0 q → (b : Bool) → has e.1.sets.writes k ≡ b → ((rows : Rows Row) → get (rows_before m es rows q) k ≡ get rows k) → get (rows_before m (e ∷ es) rows q) k ≡ get rows k
      go (earlier h) true w rest = absurd (none e.0 e.1 (inl (refl, refl)) h w)
      go (earlier h) false w rest = ap (λ r. get r k) (run_below e es rows q h) ∙ rest (after_one m e.1 rows) ∙ after_other law e.1 rows k w
      go (same_place h) b w rest = ap (λ r. get r k) (run_not_below e es rows q (λ g. not_before_itself q (subst (λ x. IsBefore x q) h g))) ∙ rest rows
      go (later h) b w rest = ap (λ r. get r k) (run_not_below e es rows q (λ g. not_both e.0 q g h)) ∙ rest rows

  -- what stands after a place that is not before q is not before q either
  none_after : (e : Place × Txn Args) (es : Order Args) (q : Place) → Rises (e ∷ es) → (IsBefore e.0 q → ⊥) → (n : Place) (t : Txn Args) → StandsAt (e ∷ es) n t → IsBefore n q → ⊥
  none_after e es q rises upon n t (inl same) h = upon (subst (λ x. IsBefore x q) (sym same.0) h)
  none_after e es q rises upon n t (inr at) h = upon (before_trans e.0 n q (rises.0 n t at) h)

  -- nothing from a up to b writes k: the row is the same before both
  pub same_between : WritesWithin m → (es : Order Args) → Rises es → (rows : Rows Row) (a b : Place) (k : Key) → (IsBefore b a → ⊥)
      → ((n : Place) (t : Txn Args) → StandsAt es n t → (IsBefore n a → ⊥) → IsBefore n b → Writes t k → ⊥)
      → get (rows_before m es rows b) k ≡ get (rows_before m es rows a) k
  same_between law [] rises rows a b k upto none = refl
  same_between law (e ∷ es) rises rows a b k upto none = go (places e.0 a) (λ rows. same_between law es rises.1 rows a b k upto (λ n t at. none n t (inr at)))
    where
      from_here : (IsBefore e.0 a → ⊥) → get (rows_before m (e ∷ es) rows b) k ≡ get (rows_before m (e ∷ es) rows a) k
      from_here upon =
          untouched law (e ∷ es) rows b k (λ n t at. none n t at (none_after e es a rises upon n t at))
          ∙ ap (λ r. get r k) (sym (none_before (e ∷ es) rows a (none_after e es a rises upon)))

      go : Places e.0 a → ((rows : Rows Row) → get (rows_before m es rows b) k ≡ get (rows_before m es rows a) k) → get (rows_before m (e ∷ es) rows b) k ≡ get (rows_before m (e ∷ es) rows a) k
      go (earlier h) rest =
          ap (λ r. get r k) (run_below e es rows b (upto_before e.0 a b h upto))
          ∙ rest (after_one m e.1 rows)
          ∙ ap (λ r. get r k) (sym (run_below e es rows a h))
      go (same_place h) rest = from_here (λ g. not_before_itself a (subst (λ x. IsBefore x a) h g))
      go (later h) rest = from_here (λ g. not_both e.0 a g h)

  -- t stands at n, and nothing between n and q writes k: the row before q is that which t leaves
  pub after_its_turn : WritesWithin m → (es : Order Args) → Rises es → (rows : Rows Row) (n q : Place) (t : Txn Args) (k : Key) → StandsAt es n t → IsBefore n q
      → ((p : Place) (u : Txn Args) → StandsAt es p u → IsBefore n p → IsBefore p q → Writes u k → ⊥)
      → get (rows_before m es rows q) k ≡ get (after_one m t (rows_before m es rows n)) k
  after_its_turn law [] rises rows n q t k at h none = absurd at
  after_its_turn law (e ∷ es) rises rows n q t k (inl (here, is)) h none =
      let below : IsBefore e.0 q = subst (λ x. IsBefore x q) (sym here) h in
      let start = none_before (e ∷ es) rows n (none_after e es n rises (λ g. not_before_itself n (subst (λ x. IsBefore x n) here g))) in
      ap (λ r. get r k) (run_below e es rows q below)
      ∙ untouched law es (after_one m e.1 rows) q k (λ p u at g w. none p u (inr at) (subst (λ x. IsBefore x p) here (rises.0 p u at)) g w)
      ∙ ap (λ u. get (after_one m u rows) k) is
      ∙ ap (λ r. get (after_one m t r) k) (sym start)
  after_its_turn law (e ∷ es) rises rows n q t k (inr at) h none =
      let first = rises.0 n t at in
      ap (λ r. get r k) (run_below e es rows q (before_trans e.0 n q first h))
      ∙ after_its_turn law es rises.1 (after_one m e.1 rows) n q t k at h (λ p u at. none p u (inr at))
      ∙ ap (λ r. get (after_one m t r) k) (sym (run_below e es rows n first))

  -- the serial run's answer at a place
  pub answer_at : (es : Order Args) → Rises es → (rows : Rows Row) (q : Place) (t : Txn Args) → StandsAt es q t → Contains (answers_by_place m es rows) (q, answer_one m t (rows_before m es rows q))
  answer_at [] rises rows q t at = absurd at
  answer_at (e ∷ es) rises rows q t (inl (here, is)) =
      let start = none_before (e ∷ es) rows q (none_after e es q rises (λ g. not_before_itself q (subst (λ x. IsBefore x q) here g))) in
      (0, omega arith, λ i. (here i, (ap (λ u. answer_one m u rows) is ∙ ap (answer_one m t) (sym start)) i))
  answer_at (e ∷ es) rises rows q t (inr at) =
      let rest = answer_at es rises.1 (after_one m e.1 rows) q t at in
      rw (run_below e es rows q (rises.0 q t at)) (suc rest.0, omega (arith, rest.1), rest.2)

pub only_one : {Args : Type 0} (es : Order Args) → Rises es → (q : Place) (t u : Txn Args) → StandsAt es q t → StandsAt es q u → t ≡ u
only_one [] rises q t u at too = absurd at
only_one (e ∷ es) rises q t u (inl at) (inl too) = sym at.1 ∙ too.1
only_one (e ∷ es) rises q t u (inl at) (inr too) = absurd (not_before_itself q (subst (λ x. IsBefore x q) at.0 (rises.0 q u too)))
only_one (e ∷ es) rises q t u (inr at) (inl too) = absurd (not_before_itself q (subst (λ x. IsBefore x q) too.0 (rises.0 q t at)))
only_one (e ∷ es) rises q t u (inr at) (inr too) = only_one es rises.1 q t u at too
