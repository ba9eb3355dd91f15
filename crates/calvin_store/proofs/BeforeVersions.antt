-- The rows of a point, which are the present ones but where a before version is kept: at a key, and after a write.
use Rattle.std.proofs.Common.{◌≡◌, ℕ, ◌+◌, ◌<◌, ◌≤◌, Bool, true, false, cond, List, [], ◌∷◌, Option, Some, None, is_some, unwrap_or, refl, sym, ap, ◌∙◌, arith}
use Rattle.std.specs.declared.cmp.Ordering.{Ordering}
use Rattle.std.specs.declared.cmp.Ordering.TheVariants.{Less, Equal, Greater}
use Rattle.std.specs.Cmp.{Equal-is, nat_cmp_is, ranked}
use Rattle.std.specs.Ordering.{nat_cmp, ordering_then, is_lt, eq_by_cmp}
use Rattle.std.specs.FinMap.{entries, find, get, insert, get-entries, get-insert, get-remove, same_map}
use Rattle.calvin_types.specs.declared.key.Key.{Key}
use Rattle.calvin_types.specs.declared.place.Place.{Place}
use Rattle.calvin_types.specs.Keys.{key_cmp}
use Rattle.calvin_types.specs.KeyOrder.{key_cmp_exact, key_cmp_total}
use Rattle.calvin_types.specs.Places.{place_cmp}
use Rattle.calvin_app.specs.Rows.{Rows}
use Rattle.calvin_app.specs.Stores.{put_point}
use Rattle.calvin_store.specs.Versions.{with_row, with_rows, before_rows, point_at, AreBeside}

pub one_key : (q k : Key) → eq_by_cmp key_cmp q k ≡ true → q ≡ k
one_key q k h = key_cmp_exact q k ((Equal-is (key_cmp q k)).0 h)

pub is_none : {X : Type 0} (o : Option X) → is_some o ≡ false → o ≡ None
is_none None h = refl
is_none (Some x) h = absurd (cc)

-- where one thing is there, it is there whatever it is
unwrap_some : {X : Type 0} (o : Option X) (x y : X) → is_some o ≡ true → unwrap_or o x ≡ unwrap_or o y
unwrap_some None x y h = absurd (cc)
unwrap_some (Some z) x y h = refl

-- ---- the side of the point on which a place is

below_end : (q : Place) (e : ℕ) → q.epoch ≤ e → is_lt (place_cmp q (record { epoch = e + 1; n = 0 })) ≡ true
below_end q e h = ap (λ o. is_lt (ordering_then o (nat_cmp q.n 0))) (sym (nat_cmp_is q.epoch (e + 1) Less (omega arith)))

none_below : (n : ℕ) → is_lt (nat_cmp n 0) ≡ false
none_below n = go (nat_cmp n 0) refl
  where
    go : (o : Ordering) → o ≡ nat_cmp n 0 → is_lt o ≡ false
    go Less is = absurd (let h : n < 0 = ranked n 0 Less is in omega arith)
    go Equal is = refl
    go Greater is = refl

above_end : (q : Place) (e : ℕ) → e < q.epoch → is_lt (place_cmp q (record { epoch = e + 1; n = 0 })) ≡ false
above_end q e h = go (nat_cmp q.epoch (e + 1)) refl
  where
    go : (o : Ordering) → o ≡ nat_cmp q.epoch (e + 1) → is_lt (ordering_then o (nat_cmp q.n 0)) ≡ false
    go Less is = absurd (let l : q.epoch < e + 1 = ranked q.epoch (e + 1) Less is in omega arith)
    go Equal is = none_below q.n
    go Greater is = refl

module _ {Row : Type 0} where
  get-with_row : (rows : Rows Row) (k : Key) (o : Option Row) (q : Key) → get (with_row rows k o) q ≡ cond (eq_by_cmp key_cmp q k) o (get rows q)
  get-with_row rows k None q = get-remove key_cmp_total rows k q
  get-with_row rows k (Some x) q = get-insert key_cmp_total rows k x q

  get-with_rows : (rows : Rows Row) (es : List (Key × Option Row)) (q : Key) → get (with_rows rows es) q ≡ unwrap_or (find key_cmp q es) (get rows q)
  get-with_rows rows [] q = refl
  get-with_rows rows (e ∷ es) q = get-with_row (with_rows rows es) e.0 e.1 q ∙ go (eq_by_cmp key_cmp q e.0) (get-with_rows rows es q)
    where
      go : (b : Bool) → get (with_rows rows es) q ≡ unwrap_or (find key_cmp q es) (get rows q) → cond b e.1 (get (with_rows rows es) q) ≡ unwrap_or (cond b (Some e.1) (find key_cmp q es)) (get rows q)
      go true rest = refl
      go false rest = rest

  -- at each key the rows of the point have what is kept, or else the present row
  pub get-before_rows : (rows : Rows Row) (before : Rows (Option Row)) (q : Key) → get (before_rows rows before) q ≡ unwrap_or (get before q) (get rows q)
  get-before_rows rows before q = get-with_rows rows (entries before) q ∙ ap (λ o. unwrap_or o (get rows q)) (sym (get-entries before q))

  -- with nothing kept they are the present rows
  pub before_none : (rows : Rows Row) (before : Rows (Option Row)) → ((k : Key) → is_some (get before k) ≡ false) → before_rows rows before ≡ rows
  before_none rows before none = same_map key_cmp_total key_cmp_exact _ _ (λ q. get-before_rows rows before q ∙ ap (λ o. unwrap_or o (get rows q)) (is_none (get before q) (none q)))

  -- ---- a write, by its side of the point and by whether the key has both versions

  module _ (rows : Rows Row) (before : Rows (Option Row)) (k : Key) (x : Row) where
    -- what a key has before the write, and after it
    wrote : (q : Key) (b : Bool) → eq_by_cmp key_cmp q k ≡ b → cond b (Some x) (unwrap_or (get before q) (get rows q)) ≡ get (insert (before_rows rows before) k x) q
    wrote q b is = sym (get-insert key_cmp_total (before_rows rows before) k x q ∙ (λ i. cond (is i) (Some x) (get-before_rows rows before q i)))

    under_kept : before_rows (insert rows k x) (insert before k (Some x)) ≡ insert (before_rows rows before) k x
    under_kept = same_map key_cmp_total key_cmp_exact _ _ (λ q.
        get-before_rows (insert rows k x) (insert before k (Some x)) q
        ∙ (λ i. unwrap_or (get-insert key_cmp_total before k (Some x) q i) (get-insert key_cmp_total rows k x q i))
        ∙ go q (eq_by_cmp key_cmp q k) ∙ wrote q (eq_by_cmp key_cmp q k) refl)
      where
        go : (q : Key) (b : Bool) → unwrap_or (cond b (Some (Some x)) (get before q)) (cond b (Some x) (get rows q)) ≡ cond b (Some x) (unwrap_or (get before q) (get rows q))
        go q true = refl
        go q false = refl

    under_plain : is_some (get before k) ≡ false → before_rows (insert rows k x) before ≡ insert (before_rows rows before) k x
    under_plain none = same_map key_cmp_total key_cmp_exact _ _ (λ q.
        get-before_rows (insert rows k x) before q ∙ ap (unwrap_or (get before q)) (get-insert key_cmp_total rows k x q)
        ∙ go q (eq_by_cmp key_cmp q k) refl ∙ wrote q (eq_by_cmp key_cmp q k) refl)
      where
        go : (q : Key) (b : Bool) → eq_by_cmp key_cmp q k ≡ b → unwrap_or (get before q) (cond b (Some x) (get rows q)) ≡ cond b (Some x) (unwrap_or (get before q) (get rows q))
        go q true is = ap (λ o. unwrap_or o (Some x)) (ap (get before) (one_key q k is) ∙ is_none (get before k) none)
        go q false is = refl

    over_kept : is_some (get before k) ≡ true → before_rows (insert rows k x) before ≡ before_rows rows before
    over_kept some = same_map key_cmp_total key_cmp_exact _ _ (λ q.
        get-before_rows (insert rows k x) before q ∙ ap (unwrap_or (get before q)) (get-insert key_cmp_total rows k x q)
        ∙ go q (eq_by_cmp key_cmp q k) refl ∙ sym (get-before_rows rows before q))
      where
        go : (q : Key) (b : Bool) → eq_by_cmp key_cmp q k ≡ b → unwrap_or (get before q) (cond b (Some x) (get rows q)) ≡ unwrap_or (get before q) (get rows q)
        go q true is = unwrap_some (get before q) (Some x) (get rows q) (ap (λ r. is_some (get before r)) (one_key q k is) ∙ some)
        go q false is = refl

    over_plain : is_some (get before k) ≡ false → before_rows (insert rows k x) (insert before k (get rows k)) ≡ before_rows rows before
    over_plain none = same_map key_cmp_total key_cmp_exact _ _ (λ q.
        get-before_rows (insert rows k x) (insert before k (get rows k)) q
        ∙ (λ i. unwrap_or (get-insert key_cmp_total before k (get rows k) q i) (get-insert key_cmp_total rows k x q i))
        ∙ go q (eq_by_cmp key_cmp q k) refl ∙ sym (get-before_rows rows before q))
      where
        go : (q : Key) (b : Bool) → eq_by_cmp key_cmp q k ≡ b → unwrap_or (cond b (Some (get rows k)) (get before q)) (cond b (Some x) (get rows q)) ≡ unwrap_or (get before q) (get rows q)
        go q true is = sym (ap (λ o. unwrap_or o (get rows q)) (ap (get before) (one_key q k is) ∙ is_none (get before k) none) ∙ ap (get rows) (one_key q k is))
        go q false is = refl

    module _ (q : Place) (e : ℕ) where
      -- the point after the write
      abbrev Takes : Rows (Option Row) → Type 0
      Takes after = point_at (Some e) (insert rows k x) after ≡ put_point q ((k, x) ∷ []) (point_at (Some e) rows before)

      -- it takes a write of a place up to it
      takes : (after : Rows (Option Row)) → q.epoch ≤ e → before_rows (insert rows k x) after ≡ insert (before_rows rows before) k x → Takes after
      takes after upto is = ap (λ r. Some (record { at = record { epoch = e + 1; n = 0 }; rows = r })) (is ∙ ap (λ b. cond b (insert (before_rows rows before) k x) (before_rows rows before)) (sym (below_end q e upto)))

      -- and leaves one of a place above it
      leaves : (after : Rows (Option Row)) → e < q.epoch → before_rows (insert rows k x) after ≡ before_rows rows before → Takes after
      leaves after above is = ap (λ r. Some (record { at = record { epoch = e + 1; n = 0 }; rows = r })) (is ∙ ap (λ b. cond b (insert (before_rows rows before) k x) (before_rows rows before)) (sym (above_end q e above)))

      pub takes_kept : q.epoch ≤ e → Takes (insert before k (Some x))
      takes_kept upto = takes (insert before k (Some x)) upto under_kept

      pub takes_plain : q.epoch ≤ e → is_some (get before k) ≡ false → Takes before
      takes_plain upto none = takes before upto (under_plain none)

      pub leaves_kept : e < q.epoch → is_some (get before k) ≡ true → Takes before
      leaves_kept above some = leaves before above (over_kept some)

      pub leaves_plain : e < q.epoch → is_some (get before k) ≡ false → (had : Option Row) → get rows k ≡ had → Takes (insert before k had)
      leaves_plain above none had is = leaves (insert before k had) above (ap (λ o. before_rows (insert rows k x) (insert before k o)) (sym is) ∙ over_plain none)

      -- so it is of an open point, whatever it is that is kept now
      pub open_point : (epoch : Option ℕ) (after now : Rows (Option Row)) → epoch ≡ Some e → now ≡ after → Takes after → point_at epoch (insert rows k x) now ≡ put_point q ((k, x) ∷ []) (point_at epoch rows before)
      open_point epoch after now is same it = (λ i. point_at (is i) (insert rows k x) (same i)) ∙ it ∙ ap (λ o. put_point q ((k, x) ∷ []) (point_at o rows before)) (sym is)

    -- ---- what is kept belongs beside the rows after the write too

    has_row : (q : Key) → (b : Bool) → is_some (get rows q) ≡ true → is_some (cond b (Some x) (get rows q)) ≡ true
    has_row q true h = refl
    has_row q false h = h

    pub beside_more : (epoch : Option ℕ) → AreBeside epoch rows before → AreBeside epoch (insert rows k x) before
    beside_more epoch beside = record {
      within = λ q h. ap is_some (get-insert key_cmp_total rows k x q) ∙ has_row q (eq_by_cmp key_cmp q k) (beside.within q h);
      closed = beside.closed;
    }

    pub beside_kept : (epoch : Option ℕ) (e : ℕ) (o : Option Row) (now : Rows (Option Row)) → epoch ≡ Some e → now ≡ insert before k o → AreBeside epoch rows before → AreBeside epoch (insert rows k x) now
    beside_kept epoch e o now is same beside = record {
      within = λ q h. ap is_some (get-insert key_cmp_total rows k x q) ∙ go q (eq_by_cmp key_cmp q k) (ap is_some (sym (ap (λ (m : Rows (Option Row)). get m q) same ∙ get-insert key_cmp_total before k o q)) ∙ h);
      closed = λ none. absurd (let both : Some e ≡ None = sym is ∙ none in cc);
    }
      where
        go : (q : Key) (b : Bool) → is_some (cond b (Some o) (get before q)) ≡ true → is_some (cond b (Some x) (get rows q)) ≡ true
        go q true h = refl
        go q false h = beside.within q h
