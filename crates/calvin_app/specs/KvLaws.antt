-- The proof that Kv keeps the laws of applications.
--     followed_first      where no row is known, a key alone is followed
--     kv_lawful      it keeps them
--     kv_settles      the first reads show all rows that its sets depend on
use Rattle.std.specs.Prelude.{◌≡◌, ℕ, zero, suc, ◌+◌, ◌-◌, ◌^◌, ◌==◌, Bool, true, false, ◌||◌, nat_lt, if◌then◌else◌, List, [], ◌∷◌, map, take, Option, Some, None, unwrap_or, refl}
use Rattle.std.specs.List.{filter}
use Rattle.std.specs.FinMap as finmap
use Rattle.std.specs.declared.cmp.Ordering.TheVariants.{Less, Equal, Greater}
use Rattle.std.proofs.Common.{lit≤, arith, cond, sym, ap, ◌∙◌}
use Rattle.std.proofs.lemmas.Bool.{eqb-true, false≢true}
use Rattle.std.proofs.lemmas.List.{length-take}
use Rattle.calvin_types.specs.declared.limits.TheConstants.{MOST_KEYS}
use Rattle.calvin_types.specs.declared.key.Key.{Key}
use Rattle.calvin_types.specs.Keys.{key_cmp, has, same_key, by_order}
use Rattle.calvin_types.specs.KeyOrder.{same_key-self}
use Rattle.calvin_types.proofs.KeySets.{has-insert_key}
use Rattle.calvin_app.specs.declared.kv.KvRequest.{KvRequest}
use Rattle.calvin_app.specs.declared.kv.KvRequest.TheVariants.{Put, Get, Add, Move, Follow}
use Rattle.calvin_app.specs.declared.kv.KvReply.{KvReply}
use Rattle.calvin_app.specs.declared.kv.KvReply.TheVariants.{Done, Limit, Short}
use Rattle.calvin_app.specs.Kv.{key_of, asked, pair_of, followed, needs_of, is_dependent, sum_outcome, outcome_of, kv}
use Rattle.calvin_app.specs.Rows.{Rows, view}
use Rattle.calvin_app.specs.RowLaws.{get-seen}
use Rattle.calvin_app.specs.Meaning.{IsLawful, IsBounded, AllUpTo, SettlesAtOnce}

pub followed_first : (id : ℕ) → followed id (finmap.get (finmap.empty {R = key_cmp}) (key_of id)) ≡ followed id None
followed_first id = ap (followed id) (finmap.get-empty key_cmp (key_of id))

-- the keys of a pair are these two
has-pair : (a b : ℕ) (k : Key) → has (pair_of a b) k ≡ has (key_of a ∷ key_of b ∷ []) k
has-pair a b k = has-insert_key k (key_of b) (key_of a ∷ []) ∙ go (same_key k (key_of a)) (same_key k (key_of b)) where
  go : (p q : Bool) → (q || (p || false)) ≡ (p || (q || false))
  go true true = refl
  go true false = refl
  go false true = refl
  go false false = refl

writes_within : (a : KvRequest) (v : Rows ℕ) (k : Key) → has (map (λ w. w.0) (outcome_of a v).1) k ≡ true → has (needs_of a v).writes k ≡ true
writes_within (Put id value) v k h = h
writes_within (Get keys) v k h = h
writes_within (Add id amount) v k h = go (nat_lt (unwrap_or (finmap.get v (key_of id)) 0 + amount) (2 ^ 64)) h where
  go : (b : Bool) → has (map (λ w. w.0) (sum_outcome id (unwrap_or (finmap.get v (key_of id)) 0 + amount) b).1) k ≡ true → has (key_of id ∷ []) k ≡ true
  go true h = h
  go false h = absurd (false≢true h)
writes_within (Move from to amount) v k h = go (nat_lt source amount) (from == to) (nat_lt (target + amount) (2 ^ 64)) h where
  source : ℕ
  source = unwrap_or (finmap.get v (key_of from)) 0

  target : ℕ
  target = unwrap_or (finmap.get v (key_of to)) 0

  go : (b c d : Bool) → has (map (λ w. w.0)
      ((λ (r : KvReply × List (Key × ℕ)). r.1) (if b then (Short, []) else
      (if c then (Done, []) else (if d then (Done, (key_of from, source - amount) ∷ (key_of to, target + amount) ∷ []) else (Limit, [])))))) k ≡ true
      → has (pair_of from to) k ≡ true
  go true c d h = absurd (false≢true h)
  go false true d h = absurd (false≢true h)
  go false false false h = absurd (false≢true h)
  go false false true h = has-pair from to k ∙ h
writes_within (Follow id) v k h = absurd (false≢true h)

needs_fixed : (a : KvRequest) (v w : Rows ℕ) → is_dependent a ≡ false → needs_of a v ≡ needs_of a w
needs_fixed (Put id value) v w h = refl
needs_fixed (Get keys) v w h = refl
needs_fixed (Add id amount) v w h = refl
needs_fixed (Move from to amount) v w h = refl
needs_fixed (Follow id) v w h = absurd (false≢true (sym h))

-- a key that is followed is among those that are needed
has-followed : (id : ℕ) (named : Option ℕ) → has (followed id named) (key_of id) ≡ true
has-followed id None = ap (λ b. b || false) (same_key-self (key_of id))
has-followed id (Some other) = has-pair id other (key_of id) ∙ ap (λ b. b || (same_key (key_of id) (key_of other) || false)) (same_key-self (key_of id))

needs_follow : (a : KvRequest) (rows : Rows ℕ) → needs_of a (view rows (needs_of a rows).reads) ≡ needs_of a rows
needs_follow (Put id value) rows = refl
needs_follow (Get keys) rows = refl
needs_follow (Add id amount) rows = refl
needs_follow (Move from to amount) rows = refl
needs_follow (Follow id) rows = ap (λ (o : Option ℕ). record { reads = followed id o; writes = [] }) (get-seen rows _ (key_of id) (has-followed id (finmap.get rows (key_of id))))

one_bounded : (id : ℕ) → IsBounded MOST_KEYS 0 (key_of id ∷ [])
one_bounded id = record { number = lit≤ tt; tables = (lit≤ tt, tt) }

none_bounded : IsBounded MOST_KEYS 0 []
none_bounded = record { number = lit≤ tt; tables = tt }

tables-take : (n : ℕ) (ks : List Key) → AllUpTo 0 ks → AllUpTo 0 (take n ks)
tables-take n [] h = elim n as (λ m. AllUpTo 0 (take m [])) [ zero ↦ tt | suc m ↦ tt ]
tables-take n (k ∷ ks) h = elim n as (λ m. AllUpTo 0 (take m (k ∷ ks))) [ zero ↦ tt | suc m ↦ (h.0, tables-take m ks h.1) ]

tables-filter : (ks : List Key) → AllUpTo 0 (filter (λ k. k.table == 0) ks)
tables-filter [] = tt
tables-filter (k ∷ ks) = go (k.table == 0) refl (tables-filter ks) where
  go : (b : Bool) → (k.table == 0) ≡ b → AllUpTo 0 (filter (λ k. k.table == 0) ks) → AllUpTo 0 (cond b (k ∷ filter (λ k. k.table == 0) ks) (filter (λ k. k.table == 0) ks))
  go true is rest = (omega (arith, eqb-true k.table 0 is), rest)
  go false is rest = rest

asked_bounded : (keys : List Key) → IsBounded MOST_KEYS 0 (asked keys)
asked_bounded keys = record {
  number = omega (arith, length-take MOST_KEYS (filter (λ k. k.table == 0) keys));
  tables = tables-take MOST_KEYS _ (tables-filter keys);
}

pair_bounded : (a b : ℕ) → IsBounded MOST_KEYS 0 (pair_of a b)
pair_bounded a b = elim (key_cmp (key_of b) (key_of a)) as (λ o. IsBounded MOST_KEYS 0 (by_order o (key_of b ∷ key_of a ∷ []) (key_of a ∷ []) (key_of a ∷ key_of b ∷ []))) [
  | Less ↦ record { number = lit≤ tt; tables = (lit≤ tt, (lit≤ tt, tt)) }
  | Equal ↦ record { number = lit≤ tt; tables = (lit≤ tt, tt) }
  | Greater ↦ record { number = lit≤ tt; tables = (lit≤ tt, (lit≤ tt, tt)) }
]

followed_bounded : (id : ℕ) (named : Option ℕ) → IsBounded MOST_KEYS 0 (followed id named)
followed_bounded id None = one_bounded id
followed_bounded id (Some other) = pair_bounded id other

reads_bounded : (a : KvRequest) (v : Rows ℕ) → IsBounded MOST_KEYS 0 (needs_of a v).reads
reads_bounded (Put id value) v = none_bounded
reads_bounded (Get keys) v = asked_bounded keys
reads_bounded (Add id amount) v = one_bounded id
reads_bounded (Move from to amount) v = pair_bounded from to
reads_bounded (Follow id) v = followed_bounded id (finmap.get v (key_of id))

writes_bounded : (a : KvRequest) (v : Rows ℕ) → IsBounded MOST_KEYS 0 (needs_of a v).writes
writes_bounded (Put id value) v = one_bounded id
writes_bounded (Get keys) v = none_bounded
writes_bounded (Add id amount) v = one_bounded id
writes_bounded (Move from to amount) v = pair_bounded from to
writes_bounded (Follow id) v = none_bounded

pub kv_lawful : IsLawful kv is_dependent MOST_KEYS 0
kv_lawful = record {
  writes_within_the_sets = writes_within;
  sets_follow_from_their_reads = needs_follow;
  independent_sets_are_fixed = needs_fixed;
  bounded_reads = reads_bounded;
  bounded_writes = writes_bounded;
  at_most_sixteen = lit≤ tt;
}

pub kv_settles : SettlesAtOnce kv
kv_settles (Put id value) rows = refl
kv_settles (Get keys) rows = refl
kv_settles (Add id amount) rows = refl
kv_settles (Move from to amount) rows = refl
kv_settles (Follow id) rows = ap (λ (o : Option ℕ). record { reads = followed id o; writes = [] }) (get-seen rows _ (key_of id) (has-followed id (finmap.get finmap.empty (key_of id))))
