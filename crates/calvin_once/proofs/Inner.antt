-- The rows within, as they are put in one by one; and the writes of what is done within.
use Rattle.std.proofs.Common.{◌≡◌, ℕ, zero, suc, ◌+◌, ◌<◌, ◌≤◌, Bool, true, false, cond, List, [], ◌∷◌, ◌++◌, length, map, take, slice_get, Option, Some, None, refl, sym, ap, ◌∙◌, append_assoc, append-nil, arith}
use Rattle.std.specs.Prelude.{if◌then◌else◌, nat_le, IsTrue}
use Rattle.std.specs.FinMap as finmap
use Rattle.std.specs.declared.cmp.Ordering.TheVariants.{Greater}
use Rattle.std.specs.Ordering.{is_eq, ordering_reverse}
use Rattle.std.proofs.lemmas.Bool.{leb-true, ltb-true}
use Rattle.calvin_types.specs.declared.key.Key.{Key}
use Rattle.calvin_types.specs.Keys.{key_cmp, has}
use Rattle.calvin_types.specs.KeyOrder.{key_cmp_exact, key_cmp_total}
use Rattle.calvin_types.specs.Exact.{first, second}
use Rattle.calvin_types.proofs.Fews.{take_at}
use Rattle.calvin_app.specs.Rows.{Rows}
use Rattle.calvin_app.specs.Meaning.{Meaning, IsLawful}
use Rattle.calvin_app.specs.Writing.{keys_of}
use Rattle.calvin_app.proofs.Ends.{below_at}
use Rattle.calvin_once.specs.declared.kept.OnceRow.{OnceRow}
use Rattle.calvin_once.specs.declared.kept.OnceRow.TheVariants as kept
use Rattle.calvin_once.specs.Once.{inner, inner_entries, with_inner, as_rows, is_narrow}
use Rattle.calvin_once.proofs.Again.{up_to}

-- rows within that go before an entry haven't its key
earlier : {Row Reply : Type 0} (top : ℕ) (es : List (Key × OnceRow Row Reply)) (i : ℕ) (e : Key × OnceRow Row Reply) → finmap.is_sorted key_cmp es ≡ true → slice_get es i ≡ Some e → finmap.find key_cmp e.0 (inner_entries top (take i es)) ≡ None
earlier top [] i e h here = absurd (cc)
earlier top (x ∷ es) zero e h here = refl
earlier {Row} top ((k, kept.Row r) ∷ es) (suc i) e h here =
    let above : key_cmp e.0 k ≡ Greater = key_cmp_total.antisymm e.0 k ∙ ap ordering_reverse (below_at k es i e (first _ _ h) here) in
    elim (nat_le k.table top) as (λ b. ◌≡◌ {A = Option Row} (finmap.find key_cmp e.0 ((if b then (k, r) ∷ [] else []) ++ inner_entries top (take i es))) None) [
      | true ↦ ap (λ o. cond (is_eq o) (Some r) (finmap.find key_cmp e.0 (inner_entries top (take i es)))) above ∙ earlier top es i e (second _ _ h) here
      | false ↦ earlier top es i e (second _ _ h) here
    ]
earlier top ((k, kept.Reply r) ∷ es) (suc i) e h here = earlier top es i e (second _ _ h) here

inner-push : {Row Reply : Type 0} (top : ℕ) (es : List (Key × OnceRow Row Reply)) (e : Key × OnceRow Row Reply) → inner_entries top (es ++ e ∷ []) ≡ inner_entries top es ++ inner top e
inner-push top [] e = append-nil (inner top e)
inner-push top (x ∷ es) e = ap (λ ys. inner top x ++ ys) (inner-push top es e) ∙ sym (append_assoc (inner top x) (inner_entries top es) (inner top e))

inner-step : {Row Reply : Type 0} (top : ℕ) (e : Key × OnceRow Row Reply) (es : List (Key × Row)) → finmap.find key_cmp e.0 es ≡ None → ◌≡◌ {A = Rows Row} (with_inner top e (finmap.from_entries es)) (finmap.from_entries (es ++ inner top e))
inner-step {Row} top (k, kept.Row r) es new = elim (nat_le k.table top) as (λ b. ◌≡◌ {A = Rows Row} (if b then finmap.insert (finmap.from_entries es) k r else finmap.from_entries es) (finmap.from_entries (es ++ (if b then (k, r) ∷ [] else [])))) [
  | true ↦ sym (finmap.from_entries_push key_cmp_total key_cmp_exact es k r new)
  | false ↦ ap (λ xs. finmap.from_entries {R = key_cmp} xs) (sym (append-nil es))
]
inner-step top (k, kept.Reply r) es new = ap (λ xs. finmap.from_entries {R = key_cmp} xs) (sym (append-nil es))

-- one more row within
pub inner_at : {Row Reply : Type 0} (top : ℕ) (es : List (Key × OnceRow Row Reply)) (i : ℕ) (e : Key × OnceRow Row Reply) → finmap.is_sorted key_cmp es ≡ true → slice_get es i ≡ Some e
    → ◌≡◌ {A = Rows Row} (with_inner top e (finmap.from_entries (inner_entries top (take i es)))) (finmap.from_entries (inner_entries top (take (i + 1) es)))
inner_at {Row} top es i e h here =
    inner-step top e (inner_entries top (take i es)) (earlier top es i e h here)
    ∙ ap (λ xs. finmap.from_entries {R = key_cmp} xs) (sym (inner-push top (take i es) e))
    ∙ ap (λ xs. finmap.from_entries {R = key_cmp} (inner_entries top xs)) (sym (take_at es i e here))

map-push : {A B : Type 0} (f : A → B) (xs : List A) (x : A) → map f (xs ++ x ∷ []) ≡ map f xs ++ f x ∷ []
map-push f [] x = refl
map-push f (y ∷ xs) x = ap (λ ys. f y ∷ ys) (map-push f xs x)

pub as_rows_at : {Row Reply : Type 0} (ws : List (Key × Row)) (i : ℕ) (w : Key × Row) → slice_get ws i ≡ Some w → as_rows {Reply = Reply} (take i ws) ++ (w.0, kept.Row w.1) ∷ [] ≡ as_rows (take (i + 1) ws)
as_rows_at ws i w here = sym (ap as_rows (take_at ws i w here) ∙ map-push (λ w. (w.0, kept.Row w.1)) (take i ws) w)

pub length-as_rows : {Row : Type 0} (Reply : Type 0) (ws : List (Key × Row)) → length (as_rows {Reply = Reply} ws) ≡ length ws
length-as_rows Reply [] = refl
length-as_rows Reply (w ∷ ws) = omega (arith, length-as_rows Reply ws)

pub few_keys : (most top : ℕ) → IsTrue (is_narrow most top) → most ≤ 15
few_keys most top h = leb-true most 15 (first _ _ h)

pub low_table : (most top : ℕ) → IsTrue (is_narrow most top) → top < 255
low_table most top h = ltb-true top 255 (second (nat_le most 15) _ h)

-- what is done within writes no key of a higher table
pub none_above : {Args Row Reply : Type 0} (m : Meaning Args Row Reply) (dependent : Args → Bool) (most top : ℕ) → IsLawful m dependent most top → (a : Args) (v : Rows Row) (key : Key) → top < key.table → has (keys_of (m.outcome a v).1) key ≡ false
none_above m dependent most top lawful a v key above = go (has (keys_of (m.outcome a v).1) key) refl where
  go : (b : Bool) → has (keys_of (m.outcome a v).1) key ≡ b → b ≡ false
  go false is = refl
  go true is =
      let low : key.table ≤ top = up_to top (m.needs a v).writes key (lawful.bounded_writes a v).tables (lawful.writes_within_the_sets a v key is) in
      absurd (omega (arith, low, above))
