-- What follows where all keys of a request are stored at one partition, or its least participant is known.
use Rattle.std.proofs.Common.{◌≡◌, ℕ, ◌<◌, ◌≤◌, inl, inr, Bool, true, false, not, cond, ◌&&◌, List, [], ◌∷◌, ◌++◌, length, refl, sym, ap, subst, ◌∙◌, arith}
use Rattle.std.specs.Prelude.{◌==◌, nat_le, nat_lt, is_some}
use Rattle.std.specs.List.{filter, list_any, list_all, range_with_len}
use Rattle.std.proofs.lemmas.List.Folds.{list_all-append}
use Rattle.std.proofs.lemmas.Bool.{false≢true, false_from_ne_true, cases_lt, and_parts, and_cases, and_from, and_left, and_right, or_left, or_right, or_from, or_cases, eqb-true, eq-eqb, ne_eqb, leb-true, le-leb, lt-ltb, not_from_true, not_from_false}
use Rattle.calvin_types.specs.declared.key.Key.{Key}
use Rattle.calvin_types.specs.declared.txn.Txn.{Txn}
use Rattle.calvin_types.specs.Keys.{partition_of}
use Rattle.calvin_types.specs.Participants.{site, is_local, declared_keys, is_least, is_active}
use Rattle.std.specs.FinMap.{get}
use Rattle.calvin_sched.specs.Scheduling.{Turn, awaits, other_active, is_finished}
use Rattle.calvin_sched.specs.Keeping.{awaited}
use Rattle.calvin_sched.proofs.Partitions.{one_less}

first : (a b c d e : Bool) → a ≡ false → (a && b && c && d && e) ≡ false
first a b c d e h = and_left (a && b && c && d) e (and_left (a && b && c) d (and_left (a && b) c (and_left a b h)))

second : (a b c d e : Bool) → b ≡ false → (a && b && c && d && e) ≡ false
second a b c d e h = and_left (a && b && c && d) e (and_left (a && b && c) d (and_left (a && b) c (and_right a b h)))

pub third : (a b c d e : Bool) → c ≡ false → (a && b && c && d && e) ≡ false
third a b c d e h = and_left (a && b && c && d) e (and_left (a && b && c) d (and_right (a && b) c h))

pub fourth : (a b c d e : Bool) → d ≡ false → (a && b && c && d && e) ≡ false
fourth a b c d e h = and_left (a && b && c && d) e (and_right (a && b && c) d h)

pub fifth : (a b c d e : Bool) → e ≡ false → (a && b && c && d && e) ≡ false
fifth a b c d e h = and_right (a && b && c && d) e h

pub all_five : (a b c d e : Bool) → a ≡ true → b ≡ true → c ≡ true → d ≡ true → e ≡ true → (a && b && c && d && e) ≡ true
all_five a b c d e f g h i j = and_from (a && b && c && d) e (and_from (a && b && c) d (and_from (a && b) c (and_from a b f g) h) i) j

and_all : (b : Bool) → (b && true) ≡ b
and_all true = refl
and_all false = refl

none_pass : {X : Type 0} (f : X → Bool) → ((x : X) → f x ≡ false) → (xs : List X) → length (filter f xs) ≡ 0
none_pass f fails [] = refl
none_pass f fails (x ∷ xs) = subst (λ b. length (cond b (x ∷ filter f xs) (filter f xs)) ≡ 0) (sym (fails x)) (none_pass f fails xs)

any_in_first : {X : Type 0} (f : X → Bool) (xs ys : List X) → list_any f xs ≡ true → list_any f (xs ++ ys) ≡ true
any_in_first f [] ys h = absurd (false≢true h)
any_in_first f (x ∷ xs) ys h = elim (or_cases (f x) (list_any f xs) h) [
  | inl here ↦ or_left (f x) (list_any f (xs ++ ys)) here
  | inr later ↦ or_right (f x) (list_any f (xs ++ ys)) (any_in_first f xs ys later)
]

-- what passes one test, and so another that all pass
pub meets : {X : Type 0} (f h : X → Bool) (xs : List X) → list_any f xs ≡ true → list_all h xs ≡ true → (x : X) × ((f x ≡ true) × (h x ≡ true))
meets f h [] some all = absurd (false≢true some)
meets f h (x ∷ xs) some all =
    let parts = and_parts (h x) (list_all h xs) all in
    elim (or_cases (f x) (list_any f xs) some) [
      | inl here ↦ (x, (here, parts.0))
      | inr later ↦ meets f h xs later parts.1
    ]

module _ (partitions : ℕ) where
  abbrev pub at : ℕ → Key → Bool
  at p = is_local (site partitions p)

  abbrev pub from : ℕ → Key → Bool
  from p k = nat_le p (partition_of partitions k)

  elsewhere : (here p : ℕ) → (p ≡ here → ⊥) → (ks : List Key) → list_all (at here) ks ≡ true → list_any (at p) ks ≡ false
  elsewhere here p other [] h = refl
  elsewhere here p other (k ∷ ks) h =
      let parts = and_parts (at here k) (list_all (at here) ks) h in
      or_from (at p k) (list_any (at p) ks) (ne_eqb (partition_of partitions k) p (λ e. other (sym e ∙ eqb-true (partition_of partitions k) here parts.0))) (elsewhere here p other ks parts.1)

  -- a key that is stored elsewhere
  away : (here : ℕ) (ks : List Key) → list_all (at here) ks ≡ false → (k : Key) × ((at here k ≡ false) × (list_any (at (partition_of partitions k)) ks ≡ true))
  away here [] h = absurd (false≢true (sym h))
  away here (k ∷ ks) h = elim (and_cases (at here k) (list_all (at here) ks) h) [
    | inl missing ↦ (k, (missing, or_left (at (partition_of partitions k) k) (list_any (at (partition_of partitions k)) ks) (eq-eqb (partition_of partitions k) (partition_of partitions k) refl)))
    | inr later ↦
        let found = away here ks later in
        (found.0, (found.1.0, or_right (at (partition_of partitions found.0) k) (list_any (at (partition_of partitions found.0)) ks) found.1.1))
  ]

  pub lower : (a b : ℕ) → a ≤ b → (ks : List Key) → list_all (from b) ks ≡ true → list_all (from a) ks ≡ true
  lower a b le [] h = refl
  lower a b le (k ∷ ks) h =
      let parts = and_parts (from b k) (list_all (from b) ks) h in
      and_from (from a k) (list_all (from a) ks) (le-leb a (partition_of partitions k) (omega (arith, leb-true b (partition_of partitions k) parts.0))) (lower a b le ks parts.1)

  -- keys of one partition: none is stored in a lower one
  from_own : (here : ℕ) (ks : List Key) → list_all (at here) ks ≡ true → list_all (from here) ks ≡ true
  from_own here [] h = refl
  from_own here (k ∷ ks) h =
      let parts = and_parts (at here k) (list_all (at here) ks) h in
      and_from (from here k) (list_all (from here) ks) (le-leb here (partition_of partitions k) (omega (arith, eqb-true (partition_of partitions k) here parts.0))) (from_own here ks parts.1)

  -- the least partition of some keys
  abbrev IsLeastOf : List Key → ℕ → Type 0
  IsLeastOf ks m = (list_any (at m) ks ≡ true) × ((list_all (from m) ks ≡ true) × (m < partitions))

  module _ (some : 0 < partitions) where
    below : (k : Key) → partition_of partitions k < partitions
    below k = omega arith

    least_from : (k : Key) (ks : List Key) → (m : ℕ) × IsLeastOf (k ∷ ks) m
    least_from k [] =
        let m = partition_of partitions k in
        (m, (or_left (at m k) false (eq-eqb m m refl), (and_from (from m k) true (le-leb m m (omega arith)) refl, below k)))
    least_from k (j ∷ ks) =
        let m = partition_of partitions k in
        let rest = least_from j ks in
        let n = rest.0 in
        elim (cases_lt m n) [
          | inl less ↦ (m, (or_left (at m k) (list_any (at m) (j ∷ ks)) (eq-eqb m m refl), (and_from (from m k) (list_all (from m) (j ∷ ks)) (le-leb m m (omega arith)) (lower m n (omega (arith, less)) (j ∷ ks) rest.1.1.0), below k)))
          | inr le ↦ (n, (or_right (at n k) (list_any (at n) (j ∷ ks)) rest.1.0, (and_from (from n k) (list_all (from n) (j ∷ ks)) (le-leb n m le) rest.1.1.0, rest.1.1.1)))
        ]

    least_of : (here : ℕ) (ks : List Key) → list_any (at here) ks ≡ true → (m : ℕ) × IsLeastOf ks m
    least_of here [] h = absurd (false≢true h)
    least_of here (k ∷ ks) h = least_from k ks

    module _ {Args : Type 0} (here : ℕ) (t : Txn Args) where
      abbrev runs : ℕ → Bool
      runs p = not (p == here) && is_active (site partitions p) t

      counted : (p : ℕ) → runs p ≡ true → p < partitions → nat_lt 0 (length (other_active (site partitions here) t)) ≡ true
      counted p so lt = lt-ltb 0 (length (other_active (site partitions here) t)) (omega (arith, one_less runs (λ q. false) (λ q passed. absurd (false≢true passed)) p so refl partitions lt))

      -- it writes a key elsewhere: then another partition runs it
      pub runs_where_it_writes : list_all (at here) t.sets.writes ≡ false → nat_lt 0 (length (other_active (site partitions here) t)) ≡ true
      runs_where_it_writes some_away =
          let found = away here t.sets.writes some_away in
          let p = partition_of partitions found.0 in
          counted p (and_from (not (p == here)) (is_active (site partitions p) t) (not_from_false (p == here) found.1.0) (or_left (list_any (at p) t.sets.writes) (is_least (site partitions p) t) found.1.1)) (below found.0)

      module _ (reads : list_any (at here) t.sets.reads ≡ true) where
        there : list_any (at here) (declared_keys t) ≡ true
        there = any_in_first (at here) t.sets.reads t.sets.writes reads

        -- it isn't the least participant: then that one runs it
        pub runs_at_the_least : is_least (site partitions here) t ≡ false → nat_lt 0 (length (other_active (site partitions here) t)) ≡ true
        runs_at_the_least another =
            let least = least_of here (declared_keys t) there in
            let m = least.0 in
            let not_all : list_all (from here) (declared_keys t) ≡ false = elim (and_cases (list_any (at here) (declared_keys t)) (list_all (from here) (declared_keys t)) another) [
              | inl absent ↦ absurd (false≢true (sym absent ∙ there))
              | inr some_below ↦ some_below
            ] in
            elim (cases_lt m here) [
              | inl less ↦ counted m (and_from (not (m == here)) (is_active (site partitions m) t) (not_from_false (m == here) (ne_eqb m here (λ e. omega (arith, less, e))))
                  (or_right (list_any (at m) t.sets.writes) (is_least (site partitions m) t) (and_from (list_any (at m) (declared_keys t)) (list_all (from m) (declared_keys t)) least.1.0 least.1.1.0))) least.1.1.1
              | inr le ↦ absurd (false≢true (sym not_all ∙ lower here m le (declared_keys t) least.1.1.0))
            ]

        -- it is, and all that it writes is stored here: then no other partition runs it
        pub runs_here_alone : list_all (at here) t.sets.writes ≡ true → is_least (site partitions here) t ≡ true → length (other_active (site partitions here) t) ≡ 0
        runs_here_alone writes mine_least = none_pass runs alone (range_with_len 0 partitions)
          where
            mine : (list_any (at here) (declared_keys t) ≡ true) × (list_all (from here) (declared_keys t) ≡ true)
            mine = and_parts (list_any (at here) (declared_keys t)) (list_all (from here) (declared_keys t)) mine_least

            same : (p : ℕ) → is_least (site partitions p) t ≡ true → p ≡ here
            same p least =
                let parts = and_parts (list_any (at p) (declared_keys t)) (list_all (from p) (declared_keys t)) least in
                let a = meets (at here) (from p) (declared_keys t) mine.0 parts.1 in
                let b = meets (at p) (from here) (declared_keys t) parts.0 mine.1 in
                omega (arith, eqb-true (partition_of partitions a.0) here a.1.0, leb-true p (partition_of partitions a.0) a.1.1, eqb-true (partition_of partitions b.0) p b.1.0, leb-true here (partition_of partitions b.0) b.1.1)

            alone : (p : ℕ) → runs p ≡ false
            alone p = go (p == here) refl
              where
                go : (b : Bool) → (p == here) ≡ b → runs p ≡ false
                go true e = and_left (not (p == here)) (is_active (site partitions p) t) (not_from_true (p == here) e)
                go false e =
                    let other : p ≡ here → ⊥ = λ s. false≢true (sym e ∙ eq-eqb p here s) in
                    and_right (not (p == here)) (is_active (site partitions p) t)
                    (or_from (list_any (at p) t.sets.writes) (is_least (site partitions p) t) (elsewhere here p other t.sets.writes writes) (false_from_ne_true (is_least (site partitions p) t) (λ least. other (same p least))))

        serves_by_least : list_all (at here) t.sets.writes ≡ true → (b : Bool) → is_least (site partitions here) t ≡ b → (list_any (at here) t.sets.reads && nat_lt 0 (length (other_active (site partitions here) t))) ≡ not b
        serves_by_least writes true mine = and_right (list_any (at here) t.sets.reads) (nat_lt 0 (length (other_active (site partitions here) t))) (ap (nat_lt 0) (runs_here_alone writes mine))
        serves_by_least writes false other = and_from (list_any (at here) t.sets.reads) (nat_lt 0 (length (other_active (site partitions here) t))) reads (runs_at_the_least other)

        -- the same, by what it reads alone
        pub serves_by_reads : list_all (at here) t.sets.writes ≡ true → (b : Bool) → list_all (from here) t.sets.reads ≡ b → (list_any (at here) t.sets.reads && nat_lt 0 (length (other_active (site partitions here) t))) ≡ not b
        serves_by_reads writes b below =
            serves_by_least writes b (
            ap (λ c. c && list_all (from here) (declared_keys t)) there ∙ list_all-append (from here) t.sets.reads t.sets.writes
            ∙ ap (λ c. list_all (from here) t.sets.reads && c) (from_own here t.sets.writes writes) ∙ and_all (list_all (from here) t.sets.reads) ∙ below
            )

  module _ {Args Row : Type 0} (here : ℕ) (x : Turn Args Row) where
    -- all that it reads is stored here: then no rows are to come
    pub awaits_none : list_all (at here) x.request.sets.reads ≡ true → length (awaited (site partitions here) x) ≡ 0
    awaits_none all = none_pass (awaits (site partitions here) x) one (range_with_len 0 partitions)
      where
        one : (p : ℕ) → awaits (site partitions here) x p ≡ false
        one p = go (p == here) refl
          where
            go : (b : Bool) → (p == here) ≡ b → awaits (site partitions here) x p ≡ false
            go true e = third (not (is_finished x.phase)) (is_active (site partitions here) x.request) (not (p == here)) (list_any (at p) x.request.sets.reads) (not (is_some (get x.came p))) (not_from_true (p == here) e)
            go false e =
                fourth (not (is_finished x.phase)) (is_active (site partitions here) x.request) (not (p == here)) (list_any (at p) x.request.sets.reads) (not (is_some (get x.came p)))
                (elsewhere here p (λ s. false≢true (sym e ∙ eq-eqb p here s)) x.request.sets.reads all)

    -- it is done: the same
    pub done_awaits_none : is_finished x.phase ≡ true → length (awaited (site partitions here) x) ≡ 0
    done_awaits_none done =
        none_pass (awaits (site partitions here) x)
        (λ p. first (not (is_finished x.phase)) (is_active (site partitions here) x.request) (not (p == here)) (list_any (at p) x.request.sets.reads) (not (is_some (get x.came p))) (not_from_true (is_finished x.phase) done))
        (range_with_len 0 partitions)

    -- it isn't run here: the same
    pub passive_awaits_none : is_active (site partitions here) x.request ≡ false → length (awaited (site partitions here) x) ≡ 0
    passive_awaits_none passive =
        none_pass (awaits (site partitions here) x)
        (λ p. second (not (is_finished x.phase)) (is_active (site partitions here) x.request) (not (p == here)) (list_any (at p) x.request.sets.reads) (not (is_some (get x.came p))) passive)
        (range_with_len 0 partitions)
