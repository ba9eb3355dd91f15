-- A name's reply is kept, and told again.
use Rattle.std.proofs.Common.{◌≡◌, ℕ, zero, suc, ◌+◌, ◌≤◌, ◌||◌, Bool, true, false, cond, List, [], ◌∷◌, ◌++◌, map, slice_get, Option, Some, None, refl, sym, ap, ◌∙◌, arith}
use Rattle.std.specs.Prelude.{if◌then◌else◌}
use Rattle.std.specs.FinMap as finmap
use Rattle.std.proofs.lemmas.Bool.{false≢true}
use Rattle.calvin_types.specs.declared.key.Key.{Key}
use Rattle.calvin_types.specs.declared.key_set.Sets.{Sets}
use Rattle.calvin_types.specs.declared.place.RequestId.{RequestId}
use Rattle.calvin_types.specs.declared.txn.Txn.{Txn}
use Rattle.calvin_types.specs.Keys.{has, same_key}
use Rattle.calvin_types.specs.KeyOrder.{key_cmp_total, same_key-self}
use Rattle.calvin_types.specs.SameKeys.{same_sets}
use Rattle.calvin_types.specs.SameKeysLaws.{equal_keys_exact}
use Rattle.calvin_types.specs.Exact.{first, second, pointwise_exact}
use Rattle.calvin_types.proofs.KeySets.{has-insert_key}
use Rattle.calvin_app.specs.declared.answer.Answer.{Answer}
use Rattle.calvin_app.specs.declared.answer.Answer.TheVariants as answer
use Rattle.calvin_app.specs.Rows.{Rows, view, overwritten}
use Rattle.calvin_app.specs.RowLaws.{get-seen}
use Rattle.calvin_app.specs.Meaning.{Meaning, IsLawful, AllUpTo}
use Rattle.calvin_app.specs.Serial.{serial, is_current, answer_on, writes_on, answer_one, after_one}
use Rattle.calvin_once.specs.declared.kept.Named.{Named}
use Rattle.calvin_once.specs.declared.kept.OnceRow.{OnceRow}
use Rattle.calvin_once.specs.declared.kept.OnceRow.TheVariants as kept
use Rattle.calvin_once.specs.Once.{once, once_outcome, as_rows, inside, kept_key, kept_at, as_reply, with_key, is_narrow}
use Rattle.calvin_once.specs.OnceLaws.{one_key}
use Rattle.calvin_once.proofs.LastKeys.{put_last}
use Rattle.calvin_once.specs.ToldAgain.{IsTold, ToldAgain, NewUntilTold}

unsome : {A : Type 0} (x y : A) → ◌≡◌ {A = Option A} (Some x) (Some y) → x ≡ y
unsome x y h = cc

pub unreply : {A : Type 0} (x y : A) → ◌≡◌ {A = Answer A} (answer.Reply x) (answer.Reply y) → x ≡ y
unreply x y h = cc

either : (a b : Bool) → (a || b) ≡ false → (a ≡ false) × (b ≡ false)
either true b h = absurd (false≢true (sym h))
either false b h = (refl, h)

same_sets_exact : (a b : Sets) → same_sets a b ≡ true → a ≡ b
same_sets_exact a b h = λ i. record { reads = pointwise_exact _ equal_keys_exact a.reads b.reads (first _ _ h) i; writes = pointwise_exact _ equal_keys_exact a.writes b.writes (second _ _ h) i }

-- ---- rows after writes

pub get-unwritten : {X : Type 0} (q : Key) (ws : List (Key × X)) (rows : Rows X) → has (map (λ w. w.0) ws) q ≡ false → finmap.get (overwritten rows ws) q ≡ finmap.get rows q
get-unwritten q [] rows h = refl
get-unwritten q (w ∷ ws) rows h =
    let e = either (same_key q w.0) _ h in
    get-unwritten q ws (finmap.insert rows w.0 w.1) e.1 ∙ finmap.get-insert key_cmp_total rows w.0 w.1 q ∙ ap (λ b. cond b (Some w.1) (finmap.get rows q)) e.0

get-last : {X : Type 0} (q k : Key) (x : X) (ws : List (Key × X)) (rows : Rows X) → finmap.get (overwritten rows (ws ++ (k, x) ∷ [])) q ≡ cond (same_key q k) (Some x) (finmap.get (overwritten rows ws) q)
get-last q k x [] rows = finmap.get-insert key_cmp_total rows k x q
get-last q k x (w ∷ ws) rows = get-last q k x ws (finmap.insert rows w.0 w.1)

pub keys-as_rows : {Row : Type 0} (Reply : Type 0) (ws : List (Key × Row)) → map (λ (w : Key × OnceRow Row Reply). w.0) (as_rows ws) ≡ map (λ w. w.0) ws
keys-as_rows Reply [] = refl
keys-as_rows Reply (w ∷ ws) = ap (λ ks. w.0 ∷ ks) (keys-as_rows Reply ws)

pub up_to : (n : ℕ) (ks : List Key) (k : Key) → AllUpTo n ks → has ks k ≡ true → k.table ≤ n
up_to n [] k all h = absurd (false≢true h)
up_to n (x ∷ ks) k all h = elim (same_key k x) as (λ b. same_key k x ≡ b → (b || has ks k) ≡ true → k.table ≤ n) [
  | true ↦ λ is _. omega (arith, all.0, ap (λ (y : Key). y.table) (one_key k x is))
  | false ↦ λ is h. up_to n ks k all.1 h
] refl h

module _ {Args Row Reply : Type 0} (m : Meaning Args Row Reply) (dependent : Args → Bool) (most top : ℕ) (lawful : IsLawful m dependent most top) (narrow : is_narrow most top ≡ true) where
  pub needs_are : (a : Named Args) (v : Rows (OnceRow Row Reply)) → (once m most top).needs a v ≡ with_key (kept_key top a.id) (m.needs a.args (inside top v))
  needs_are a v = ap (λ b. if b then with_key (kept_key top a.id) (m.needs a.args (inside top v)) else record { reads = []; writes = [] }) narrow

  pub needs_last : (a : Named Args) (v : Rows (OnceRow Row Reply)) → (once m most top).needs a v ≡ record { reads = (m.needs a.args (inside top v)).reads ++ kept_key top a.id ∷ []; writes = (m.needs a.args (inside top v)).writes ++ kept_key top a.id ∷ [] }
  needs_last a v =
      needs_are a v
      ∙ (λ i. record {
        reads = put_last top (kept_key top a.id) (m.needs a.args (inside top v)).reads (lawful.bounded_reads a.args (inside top v)).tables (omega arith) i;
        writes = put_last top (kept_key top a.id) (m.needs a.args (inside top v)).writes (lawful.bounded_writes a.args (inside top v)).tables (omega arith) i;
      })

  pub outcome_is : (a : Named Args) (v : Rows (OnceRow Row Reply)) → (once m most top).outcome a v ≡ once_outcome (kept_key top a.id) (kept_at top v a.id) (m.outcome a.args (inside top v))
  outcome_is a v = ap (λ b. if b then once_outcome (kept_key top a.id) (kept_at top v a.id) (m.outcome a.args (inside top v)) else ((m.outcome a.args finmap.empty).0, [])) narrow

  -- where declared sets are current, the kept reply is seen
  seen : (t : Txn (Named Args)) (rows : Rows (OnceRow Row Reply)) → is_current (once m most top) t (view rows t.sets.reads) ≡ true → kept_at top (view rows t.sets.reads) t.args.id ≡ kept_at top rows t.args.id
  seen t rows is =
      let v = view rows t.sets.reads in
      let key = kept_key top t.args.id in
      let reads = (m.needs t.args.args (inside top v)).reads in
      let sets : t.sets ≡ with_key key (m.needs t.args.args (inside top v)) = sym (same_sets_exact ((once m most top).needs t.args v) t.sets is) ∙ needs_are t.args v in
      let there : has t.sets.reads key ≡ true = ap (λ (s : Sets). has s.reads key) sets ∙ has-insert_key key key reads ∙ ap (λ b. b || has reads key) (same_key-self key) in
      ap as_reply (get-seen rows t.sets.reads key there)

  abbrev done : Txn (Named Args) → Rows (OnceRow Row Reply) → Reply × List (Key × Row)
  done t rows = m.outcome t.args.args (inside top (view rows t.sets.reads))

  did : (t : Txn (Named Args)) (rows : Rows (OnceRow Row Reply)) → is_current (once m most top) t (view rows t.sets.reads) ≡ true → (once m most top).outcome t.args (view rows t.sets.reads) ≡ once_outcome (kept_key top t.args.id) (kept_at top rows t.args.id) (done t rows)
  did t rows is = outcome_is t.args (view rows t.sets.reads) ∙ ap (λ k. once_outcome (kept_key top t.args.id) k (done t rows)) (seen t rows is)

  -- a name whose reply is kept
  again : (u : Txn (Named Args)) (rows : Rows (OnceRow Row Reply)) (r : Reply) → kept_at top rows u.args.id ≡ Some r
      → (writes_on (once m most top) u (view rows u.sets.reads) ≡ []) × (answer_one (once m most top) u rows ≡ (if is_current (once m most top) u (view rows u.sets.reads) then answer.Reply r else answer.Changed))
  unfolding answer_on writes_on
  again u rows r h = go (is_current (once m most top) u (view rows u.sets.reads)) refl where
    go : (b : Bool) → is_current (once m most top) u (view rows u.sets.reads) ≡ b
        → ((if b then ((once m most top).outcome u.args (view rows u.sets.reads)).1 else []) ≡ []) × ((if b then answer.Reply ((once m most top).outcome u.args (view rows u.sets.reads)).0 else answer.Changed) ≡ (if b then answer.Reply r else answer.Changed))
    go true is =
        let e : (once m most top).outcome u.args (view rows u.sets.reads) ≡ (r, []) = did u rows is ∙ ap (λ k. once_outcome (kept_key top u.args.id) k (done u rows)) h in
        (ap (λ (x : Reply × List (Key × OnceRow Row Reply)). x.1) e, ap (λ (x : Reply × List (Key × OnceRow Row Reply)). answer.Reply x.0) e)
    go false is = (refl, refl)

  -- a name that is answered with a reply has it kept
  kept_then : (t : Txn (Named Args)) (rows : Rows (OnceRow Row Reply)) (r : Reply) → answer_one (once m most top) t rows ≡ answer.Reply r → kept_at top (after_one (once m most top) t rows) t.args.id ≡ Some r
  unfolding answer_on writes_on
  kept_then t rows r h = go (is_current (once m most top) t (view rows t.sets.reads)) refl h where
    finish : (k : Option Reply) → kept_at top rows t.args.id ≡ k → (once_outcome (kept_key top t.args.id) k (done t rows)).0 ≡ r → kept_at top (overwritten rows (once_outcome (kept_key top t.args.id) k (done t rows)).1) t.args.id ≡ Some r
    finish (Some s) is e = is ∙ ap Some e
    finish None is e =
        ap as_reply (get-last (kept_key top t.args.id) (kept_key top t.args.id) (kept.Reply (done t rows).0) (as_rows (done t rows).1) rows
        ∙ ap (λ b. cond b (Some (kept.Reply (done t rows).0)) (finmap.get (overwritten rows (as_rows (done t rows).1)) (kept_key top t.args.id))) (same_key-self (kept_key top t.args.id)))
        ∙ ap Some e

    go : (b : Bool) → is_current (once m most top) t (view rows t.sets.reads) ≡ b → (if b then answer.Reply ((once m most top).outcome t.args (view rows t.sets.reads)).0 else answer.Changed) ≡ answer.Reply r
        → kept_at top (overwritten rows (if b then ((once m most top).outcome t.args (view rows t.sets.reads)).1 else [])) t.args.id ≡ Some r
    go true is h =
        let e = did t rows is in
        ap (λ (x : Reply × List (Key × OnceRow Row Reply)). kept_at top (overwritten rows x.1) t.args.id) e
        ∙ finish (kept_at top rows t.args.id) refl (sym (ap (λ (x : Reply × List (Key × OnceRow Row Reply)). x.0) e) ∙ unreply _ _ h)
    go false is h = absurd (cc)

  -- what is done within writes no kept reply
  unwritten : (t : Txn (Named Args)) (rows : Rows (OnceRow Row Reply)) (id : RequestId) → has (map (λ (w : Key × OnceRow Row Reply). w.0) (as_rows (done t rows).1)) (kept_key top id) ≡ false
  unwritten t rows id = ap (λ ks. has ks (kept_key top id)) (keys-as_rows Reply (done t rows).1) ∙ go (has (map (λ w. w.0) (done t rows).1) (kept_key top id)) refl where
    go : (b : Bool) → has (map (λ w. w.0) (done t rows).1) (kept_key top id) ≡ b → b ≡ false
    go false is = refl
    go true is =
        let v = inside top (view rows t.sets.reads) in
        let low : top + 1 ≤ top = up_to top (m.needs t.args.args v).writes (kept_key top id) (lawful.bounded_writes t.args.args v).tables (lawful.writes_within_the_sets t.args.args v (kept_key top id) is) in
        absurd (omega (arith, low))

  -- a kept reply stays
  stays : (t : Txn (Named Args)) (rows : Rows (OnceRow Row Reply)) (id : RequestId) (r : Reply) → kept_at top rows id ≡ Some r → kept_at top (after_one (once m most top) t rows) id ≡ Some r
  unfolding writes_on
  stays t rows id r h = go (is_current (once m most top) t (view rows t.sets.reads)) refl where
    other : kept_at top rows t.args.id ≡ None → (b : Bool) → same_key (kept_key top id) (kept_key top t.args.id) ≡ b → b ≡ false
    other none false is = refl
    other none true is =
        let e : Some r ≡ None = sym h ∙ ap (λ k. as_reply (finmap.get rows k)) (one_key (kept_key top id) (kept_key top t.args.id) is) ∙ none in
        absurd (cc)

    finish : (k : Option Reply) → kept_at top rows t.args.id ≡ k → kept_at top (overwritten rows (once_outcome (kept_key top t.args.id) k (done t rows)).1) id ≡ Some r
    finish (Some s) is = h
    finish None is =
        ap as_reply (get-last (kept_key top id) (kept_key top t.args.id) (kept.Reply (done t rows).0) (as_rows (done t rows).1) rows
        ∙ ap (λ b. cond b (Some (kept.Reply (done t rows).0)) (finmap.get (overwritten rows (as_rows (done t rows).1)) (kept_key top id))) (other is _ refl)
        ∙ get-unwritten (kept_key top id) (as_rows (done t rows).1) rows (unwritten t rows id))
        ∙ h

    go : (b : Bool) → is_current (once m most top) t (view rows t.sets.reads) ≡ b → kept_at top (overwritten rows (if b then ((once m most top).outcome t.args (view rows t.sets.reads)).1 else [])) id ≡ Some r
    go true is = ap (λ (x : Reply × List (Key × OnceRow Row Reply)). kept_at top (overwritten rows x.1) id) (did t rows is) ∙ finish (kept_at top rows t.args.id) refl
    go false is = h

  -- a name to which no reply is kept stays so where it isn't answered with one
  stays_new : (t : Txn (Named Args)) (rows : Rows (OnceRow Row Reply)) (id : RequestId) → kept_at top rows id ≡ None → (kept_key top t.args.id ≡ kept_key top id → answer_one (once m most top) t rows ≡ answer.Changed) → kept_at top (after_one (once m most top) t rows) id ≡ None
  unfolding answer_on writes_on
  stays_new t rows id none quiet = go (is_current (once m most top) t (view rows t.sets.reads)) refl quiet where
    finish : (k : Option Reply) → same_key (kept_key top id) (kept_key top t.args.id) ≡ false → kept_at top (overwritten rows (once_outcome (kept_key top t.args.id) k (done t rows)).1) id ≡ None
    finish (Some s) differs = none
    finish None differs =
        ap as_reply (get-last (kept_key top id) (kept_key top t.args.id) (kept.Reply (done t rows).0) (as_rows (done t rows).1) rows
        ∙ ap (λ b. cond b (Some (kept.Reply (done t rows).0)) (finmap.get (overwritten rows (as_rows (done t rows).1)) (kept_key top id))) differs
        ∙ get-unwritten (kept_key top id) (as_rows (done t rows).1) rows (unwritten t rows id))
        ∙ none

    other : (kept_key top t.args.id ≡ kept_key top id → ◌≡◌ {A = Answer Reply} (answer.Reply ((once m most top).outcome t.args (view rows t.sets.reads)).0) answer.Changed) → (b : Bool) → same_key (kept_key top id) (kept_key top t.args.id) ≡ b → b ≡ false
    other never false is = refl
    other never true is = let e = never (sym (one_key (kept_key top id) (kept_key top t.args.id) is)) in absurd (cc)

    go : (b : Bool) → is_current (once m most top) t (view rows t.sets.reads) ≡ b
        → (kept_key top t.args.id ≡ kept_key top id → ◌≡◌ {A = Answer Reply} (if b then answer.Reply ((once m most top).outcome t.args (view rows t.sets.reads)).0 else answer.Changed) answer.Changed)
        → kept_at top (overwritten rows (if b then ((once m most top).outcome t.args (view rows t.sets.reads)).1 else [])) id ≡ None
    go true is never = ap (λ (x : Reply × List (Key × OnceRow Row Reply)). kept_at top (overwritten rows x.1) id) (did t rows is) ∙ finish (kept_at top rows t.args.id) (other never _ refl)
    go false is never = none

  -- ---- along a list

  later : (us : List (Txn (Named Args))) (rows : Rows (OnceRow Row Reply)) (id : RequestId) (r : Reply) → kept_at top rows id ≡ Some r → (j : ℕ) (u : Txn (Named Args)) → slice_get us j ≡ Some u → u.args.id ≡ id → IsTold (once m most top) us rows (serial (once m most top) us rows).1 j u r
  later [] rows id r h j u here same = absurd (cc)
  later (x ∷ us) rows id r h zero u here same =
      let told = again u rows r (ap (kept_at top rows) same ∙ h) in
      (told.0, ap (λ (t : Txn (Named Args)). Some (answer_one (once m most top) t rows)) (unsome x u here) ∙ ap Some told.1)
  later (x ∷ us) rows id r h (suc j) u here same = later us (after_one (once m most top) x rows) id r (stays x rows id r h) j u here same

  pub told_again : (list : List (Txn (Named Args))) (rows : Rows (OnceRow Row Reply)) → ToldAgain (once m most top) list rows (serial (once m most top) list rows).1
  told_again [] rows i j t u r lt here there same was = absurd (cc)
  told_again (x ∷ xs) rows i zero t u r lt here there same was = absurd (omega (arith, lt))
  told_again (x ∷ xs) rows zero (suc j) t u r lt here there same was =
      later xs (after_one (once m most top) x rows) t.args.id r
      (ap (λ (y : Txn (Named Args)). kept_at top (after_one (once m most top) x rows) y.args.id) (sym (unsome x t here)) ∙ kept_then x rows r (unsome _ _ was))
      j u there (sym same)
  told_again (x ∷ xs) rows (suc i) (suc j) t u r lt here there same was = told_again xs (after_one (once m most top) x rows) i j t u r (omega (arith, lt)) here there same was

  pub new_until_told : (list : List (Txn (Named Args))) (rows : Rows (OnceRow Row Reply)) → NewUntilTold (once m most top) top list rows (serial (once m most top) list rows).1
  new_until_told [] rows j u here none quiet = absurd (cc)
  new_until_told (x ∷ xs) rows zero u here none quiet = none
  new_until_told (x ∷ xs) rows (suc j) u here none quiet =
      new_until_told xs (after_one (once m most top) x rows) j u here
      (stays_new x rows u.args.id none (λ same. unsome _ _ (quiet 0 x (omega arith) refl same)))
      (λ i t lt at same. quiet (suc i) t (omega (arith, lt)) at same)
