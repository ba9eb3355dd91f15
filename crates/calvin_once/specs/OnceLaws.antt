-- The proof that it keeps the laws of applications where the one within does.
--     one_key      keys of which one is the other are one
--     keys-kept      the keys of what is done and of the kept reply
--     get-inside, inside-view      what is within at a key;  within a view of some keys and of a kept reply's is the view of these keys
--     once_lawful      it keeps the laws
--     once_settles      its first reads show all rows that its sets depend on, where those of the one within do
use Rattle.std.specs.Prelude.{◌≡◌, ℕ, ◌+◌, ◌<◌, ◌≤◌, ◌&&◌, ◌||◌, Bool, true, false, min, List, [], ◌∷◌, ◌++◌, map, Option, Some, None, if◌then◌else◌, nat_le, refl}
use Rattle.std.proofs.Common.{sym, ap, ◌∙◌, arith, cond, T}
use Rattle.std.proofs.Math.Bool.{or-true, or-false}
use Rattle.std.proofs.lemmas.Bool.Decides.{nat_tests}
use Rattle.std.specs.Ordering.{is_eq, is_lt}
use Rattle.std.specs.Cmp.{Equal-is}
use Rattle.std.specs.declared.cmp.Ordering.{Ordering}
use Rattle.std.specs.declared.cmp.Ordering.TheVariants.{Less, Equal, Greater}
use Rattle.std.specs.FinMap.Entries.{below_all, find, is_sorted}
use Rattle.calvin_types.specs.declared.key_set.Sets.{Sets}
use Rattle.calvin_types.specs.KeyOrder.{key_cmp_exact, key_cmp_total, has-push}
use Rattle.calvin_types.proofs.KeySets.{has-insert_key}
use Rattle.calvin_types.proofs.Risings.{length-grows_by}
use Rattle.std.proofs.lemmas.Bool.{false≢true, leb-true, ltb-true}
use Rattle.std.specs.FinMap as finmap
use Rattle.calvin_types.specs.declared.key.Key.{Key}
use Rattle.calvin_types.specs.declared.place.RequestId.{RequestId}
use Rattle.calvin_types.specs.Keys.{key_cmp, has, same_key, by_order, insert_key}
use Rattle.calvin_types.specs.Exact.{first, second}
use Rattle.calvin_app.specs.Rows.{Rows, view}
use Rattle.calvin_app.specs.Meaning.{Meaning, IsLawful, IsBounded, AllUpTo, SettlesAtOnce}
use Rattle.calvin_app.proofs.Views.{get-view}
use Rattle.calvin_once.specs.declared.kept.Named.{Named}
use Rattle.calvin_once.specs.declared.kept.OnceRow.{OnceRow}
use Rattle.calvin_once.specs.declared.kept.OnceRow.TheVariants as kept
use Rattle.calvin_once.specs.Once.{once, once_outcome, inside, inner_entries, kept_key, kept_at, with_key, is_narrow}

T-first : (a b : Bool) → T (a && b) → T a
T-first true b h = tt
T-first false b h = absurd h

T-second : (a b : Bool) → T (a && b) → T b
T-second true b h = h
T-second false b h = absurd h

less : (o : Ordering) → T (is_lt o) → o ≡ Less
less Less p = refl
less Equal p = absurd p
less Greater p = absurd p

pub one_key : (a b : Key) → same_key a b ≡ true → a ≡ b
one_key a b h = key_cmp_exact a b ((Equal-is (key_cmp a b)).0 h)

above : (n : ℕ) → nat_le (n + 1) n ≡ false
above n = grind (arith, nat_tests)

-- ---- the rows within a view

none_either : {Row : Type 0} (b : Bool) → ◌≡◌ {A = Option Row} (if b then None else None) None
none_either true = refl
none_either false = refl

module _ {Row Reply : Type 0} (top : ℕ) where
  abbrev pub as_row : Option (OnceRow Row Reply) → Option Row
  as_row (Some (kept.Row r)) = Some r
  as_row _ = None

  -- what is within at a key
  abbrev pub picked : Key → Option (OnceRow Row Reply) → Option Row
  picked q o = if nat_le q.table top then as_row o else None

  absent_below : (q x : Key) (es : List (Key × OnceRow Row Reply)) → q ≡ x → T (below_all key_cmp x es) → find key_cmp q es ≡ None
  absent_below q x [] same below = refl
  absent_below q x (e ∷ es) same below =
      ap (λ o. cond (is_eq o) (Some e.1) (find key_cmp q es)) (ap (λ y. key_cmp y e.0) same ∙ less _ (T-first _ _ below))
      ∙ absent_below q x es same (T-second (is_lt (key_cmp x e.0)) _ below)

  find-inner : (q : Key) (es : List (Key × OnceRow Row Reply)) → T (is_sorted key_cmp es) → find key_cmp q (inner_entries top es) ≡ picked q (find key_cmp q es)
  find-inner q [] h = sym (none_either (nat_le q.table top))
  find-inner q ((k, kept.Row r) ∷ es) h =
      let rest = find-inner q es (T-second (below_all key_cmp k es) _ h) in
      elim (nat_le k.table top) as (λ b. nat_le k.table top ≡ b
      → find key_cmp q ((if b then (k, r) ∷ [] else []) ++ inner_entries top es) ≡ picked q
      (cond (same_key q k) (Some (kept.Row r)) (find key_cmp q es))) [
        | true ↦ λ is. elim (same_key q k) as (λ c. same_key q k ≡ c → cond c (Some r) (find key_cmp q (inner_entries top es)) ≡ picked q (cond c (Some (kept.Row r)) (find key_cmp q es))) [
          | true ↦ λ same. sym (ap (λ b. if b then Some r else None) (ap (λ (x : Key). nat_le x.table top) (one_key q k same) ∙ is))
          | false ↦ λ same. rest
        ] refl
        | false ↦ λ is. elim (same_key q k) as (λ c. same_key q k ≡ c → find key_cmp q (inner_entries top es) ≡ picked q (cond c (Some (kept.Row r)) (find key_cmp q es))) [
          | true ↦ λ same.
              let out : nat_le q.table top ≡ false = ap (λ (x : Key). nat_le x.table top) (one_key q k same) ∙ is in
              rest ∙ ap (λ b. if b then as_row (find key_cmp q es) else None) out ∙ sym (ap (λ b. if b then Some r else None) out)
          | false ↦ λ same. rest
        ] refl
      ] refl
  find-inner q ((k, kept.Reply r) ∷ es) h =
      let rest = find-inner q es (T-second (below_all key_cmp k es) _ h) in
      elim (same_key q k) as (λ c. same_key q k ≡ c → find key_cmp q (inner_entries top es) ≡ picked q (cond c (Some (kept.Reply r)) (find key_cmp q es))) [
        | true ↦ λ same. rest ∙ ap (picked q) (absent_below q k es (one_key q k same) (T-first _ _ h)) ∙ none_either (nat_le q.table top) ∙ sym (none_either (nat_le q.table top))
        | false ↦ λ same. rest
      ] refl

  pub get-inside : (rows : Rows (OnceRow Row Reply)) (q : Key) → finmap.get (inside top rows) q ≡ picked q (finmap.get rows q)
  get-inside rows q =
      finmap.get-from_entries key_cmp_total (inner_entries top (finmap.entries rows)) q
      ∙ find-inner q (finmap.entries rows) (finmap.entries_sorted rows)
      ∙ ap (picked q) (sym (finmap.get-entries rows q))

  -- within the view of some keys and of a kept reply's is the view of these keys within
  pub inside-view : (rows : Rows (OnceRow Row Reply)) (id : RequestId) (ks : List Key) → inside top (view rows (insert_key (kept_key top id) ks)) ≡ view (inside top rows) ks
  inside-view rows id ks = finmap.same_map key_cmp_total key_cmp_exact _ _ (λ q.
      get-inside (view rows (insert_key (kept_key top id) ks)) q
      ∙ ap (picked q) (get-view rows (insert_key (kept_key top id) ks) q ∙ ap (λ b. cond b (finmap.get rows q) None) (has-insert_key q (kept_key top id) ks))
      ∙ elim (has ks q) as (λ b. picked q (cond (same_key q (kept_key top id) || b) (finmap.get rows q) None) ≡ cond b (picked q (finmap.get rows q)) None) [
        | true ↦ ap (λ b. picked q (cond b (finmap.get rows q) None)) (or-true (same_key q (kept_key top id)))
        | false ↦ elim (same_key q (kept_key top id)) as (λ c. same_key q (kept_key top id) ≡ c → picked q (cond (c || false) (finmap.get rows q) None) ≡ None) [
          | true ↦ λ same. ap (λ b. if b then as_row (finmap.get rows q) else None) (ap (λ (x : Key). nat_le x.table top) (one_key q (kept_key top id) same) ∙ above top)
          | false ↦ λ same. none_either (nat_le q.table top)
        ] refl
      ]
      ∙ ap (λ o. cond (has ks q) o None) (sym (get-inside rows q))
      ∙ sym (get-view (inside top rows) ks q))

-- ---- one more key

tables-more : (n p : ℕ) (ks : List Key) → n ≤ p → AllUpTo n ks → AllUpTo p ks
tables-more n p [] h all = tt
tables-more n p (k ∷ ks) h all = (omega (arith, h, all.0), tables-more n p ks h all.1)

tables-insert_key : (n : ℕ) (q : Key) (ks : List Key) → q.table ≤ n → AllUpTo n ks → AllUpTo n (insert_key q ks)
tables-insert_key n q [] h all = (h, tt)
tables-insert_key n q (k ∷ ks) h all = elim (key_cmp q k) as (λ o. AllUpTo n (by_order o (q ∷ k ∷ ks) (k ∷ ks) (k ∷ insert_key q ks))) [
  | Less ↦ (h, all)
  | Equal ↦ all
  | Greater ↦ (all.0, tables-insert_key n q ks h all.1)
]

one_more : (most top : ℕ) (id : RequestId) (ks : List Key) → most ≤ 15 → top < 255 → IsBounded most top ks → IsBounded (min (most + 1) 16) (min (top + 1) 255) (insert_key (kept_key top id) ks)
one_more most top id ks few low h = record {
  number = omega (arith, few, h.number, length-grows_by (kept_key top id) ks);
  tables = tables-insert_key (min (top + 1) 255) (kept_key top id) ks (omega (arith, low)) (tables-more top (min (top + 1) 255) ks (omega (arith, low)) h.tables);
}

pub keys-kept : {Row Reply : Type 0} (key : Key) (reply : Reply) (ws : List (Key × Row))
    → map (λ (w : Key × OnceRow Row Reply). w.0) (map (λ w. (w.0, kept.Row w.1)) ws ++ (key, kept.Reply reply) ∷ []) ≡ map (λ w. w.0) ws ++ key ∷ []
keys-kept key reply [] = refl
keys-kept key reply (w ∷ ws) = ap (λ ks. w.0 ∷ ks) (keys-kept key reply ws)

module _ {Args Row Reply : Type 0} (m : Meaning Args Row Reply) (dependent : Args → Bool) (most top : ℕ) (lawful : IsLawful m dependent most top) where
  follow : (a : Named Args) (rows : Rows (OnceRow Row Reply)) → (once m most top).needs a (view rows ((once m most top).needs a rows).reads) ≡ (once m most top).needs a rows
  follow a rows = elim (is_narrow most top) as (λ b.
      (if b then with_key (kept_key top a.id) (m.needs a.args
      (inside top (view rows ((λ (s : Sets). s.reads)
      (if b then with_key (kept_key top a.id) (m.needs a.args (inside top rows)) else record { reads = []; writes = [] })))))
      else record { reads = []; writes = [] }) ≡ (if b then with_key (kept_key top a.id) (m.needs a.args (inside top rows))
      else record { reads = []; writes = [] })) [
        | true ↦ ap (with_key (kept_key top a.id)) (ap (m.needs a.args) (inside-view top rows a.id (m.needs a.args (inside top rows)).reads) ∙ lawful.sets_follow_from_their_reads a.args (inside top rows))
        | false ↦ refl
      ]

  bounded : (a : Named Args) (v : Rows (OnceRow Row Reply)) → IsBounded (min (most + 1) 16) (min (top + 1) 255) ((once m most top).needs a v).reads
      × IsBounded (min (most + 1) 16) (min (top + 1) 255) ((once m most top).needs a v).writes
  bounded a v = go (is_narrow most top) refl where
    go : (b : Bool) → is_narrow most top ≡ b
        → IsBounded (min (most + 1) 16) (min (top + 1) 255) ((λ (s : Sets). s.reads) (if b then with_key (kept_key top a.id) (m.needs a.args (inside top v)) else record { reads = []; writes = [] }))
        × IsBounded (min (most + 1) 16) (min (top + 1) 255) ((λ (s : Sets). s.writes) (if b then with_key (kept_key top a.id) (m.needs a.args (inside top v)) else record { reads = []; writes = [] }))
    go true is =
        let few : most ≤ 15 = leb-true most 15 (first _ _ is) in
        let low : top < 255 = ltb-true top 255 (second (nat_le most 15) _ is) in
        (one_more most top a.id _ few low (lawful.bounded_reads a.args (inside top v)), one_more most top a.id _ few low (lawful.bounded_writes a.args (inside top v)))
    go false is = (record { number = omega arith; tables = tt }, record { number = omega arith; tables = tt })

  within : (a : Named Args) (v : Rows (OnceRow Row Reply)) (k : Key) → has (map (λ w. w.0) ((once m most top).outcome a v).1) k ≡ true → has ((once m most top).needs a v).writes k ≡ true
  within a v k = go (is_narrow most top) where
    done : Reply × List (Key × Row)
    done = m.outcome a.args (inside top v)

    told : (o : Option Reply) → has (map (λ w. w.0) (once_outcome (kept_key top a.id) o (m.outcome a.args (inside top v))).1) k ≡ true
        → has (insert_key (kept_key top a.id) (m.needs a.args (inside top v)).writes) k ≡ true
    told (Some r) h = absurd (false≢true h)
    told None h = has-insert_key k (kept_key top a.id) (m.needs a.args (inside top v)).writes
        ∙ split (same_key k (kept_key top a.id)) (sym (has-push (map (λ w. w.0) (m.outcome a.args (inside top v)).1) (kept_key top a.id) k)
        ∙ sym (ap (λ ks. has ks k) (keys-kept (kept_key top a.id) (m.outcome a.args (inside top v)).0 (m.outcome a.args (inside top v)).1)) ∙ h) where
          split : (b : Bool) → (has (map (λ w. w.0) (m.outcome a.args (inside top v)).1) k || b) ≡ true → (b || has (m.needs a.args (inside top v)).writes k) ≡ true
          split true h = refl
          split false h = lawful.writes_within_the_sets a.args (inside top v) k (sym (or-false _) ∙ h)

    go : (b : Bool) → has (map (λ w. w.0)
        ((λ (o : Reply × List (Key × OnceRow Row Reply)). o.1)
        (if b then once_outcome (kept_key top a.id) (kept_at top v a.id) (m.outcome a.args (inside top v))
        else ((m.outcome a.args finmap.empty).0, [])))) k ≡ true
        → has ((λ (s : Sets). s.writes) (if b then with_key (kept_key top a.id) (m.needs a.args (inside top v))
        else record { reads = []; writes = [] })) k ≡ true
    go true h = told (kept_at top v a.id) h
    go false h = absurd (false≢true h)

  pub once_lawful : IsLawful (once m most top) (λ a. dependent a.args) (min (most + 1) 16) (min (top + 1) 255)
  once_lawful = record {
    writes_within_the_sets = λ a v k h. within a v k h;
    sets_follow_from_their_reads = λ a rows. follow a rows;
    independent_sets_are_fixed = λ a v w h. ap (λ s. if is_narrow most top then with_key (kept_key top a.id) s
        else record { reads = []; writes = [] }) (lawful.independent_sets_are_fixed a.args (inside top v) (inside top w) h);
    bounded_reads = λ a v. (bounded a v).0;
    bounded_writes = λ a v. (bounded a v).1;
    at_most_sixteen = omega arith;
  }

-- where no row is known, none is within
pub inside-none : (Row Reply : Type 0) (top : ℕ) → ◌≡◌ {A = Rows Row} (inside {Reply = Reply} top finmap.empty) finmap.empty
inside-none Row Reply top = finmap.same_map key_cmp_total key_cmp_exact _ _ (λ q.
    get-inside {Reply = Reply} top finmap.empty q
    ∙ ap (λ (o : Option (OnceRow Row Reply)). if nat_le q.table top then as_row top o else None) (finmap.get-empty key_cmp q)
    ∙ none_either (nat_le q.table top)
    ∙ sym (finmap.get-empty key_cmp q))

pub once_settles : {Args Row Reply : Type 0} (m : Meaning Args Row Reply) (most top : ℕ) → SettlesAtOnce m → SettlesAtOnce (once m most top)
once_settles {Args} {Row} {Reply} m most top settles a rows = elim (is_narrow most top) as
    (λ b. (if b then with_key (kept_key top a.id) (m.needs a.args
    (inside top (view rows ((λ (s : Sets). s.reads)
    (if b then with_key (kept_key top a.id) (m.needs a.args (inside {Reply = Reply} top finmap.empty)) else record { reads = []; writes = [] })))))
    else record { reads = []; writes = [] }) ≡ (if b then with_key (kept_key top a.id) (m.needs a.args (inside top rows))
    else record { reads = []; writes = [] })) [
      | true ↦ ap (with_key (kept_key top a.id))
          (ap (m.needs a.args) (inside-view top rows a.id (m.needs a.args (inside {Reply = Reply} top finmap.empty)).reads
          ∙ ap (λ v. view (inside top rows) (m.needs a.args v).reads) (inside-none Row Reply top))
          ∙ settles a.args (inside top rows))
      | false ↦ refl
    ]
