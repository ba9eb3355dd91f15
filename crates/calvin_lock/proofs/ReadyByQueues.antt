-- Where each key has its queue, a place is ready exactly where it waits in none.
use Rattle.std.proofs.Common.{◌≡◌, ℕ, zero, suc, ◌+◌, ◌<◌, Bool, true, false, cond, not, ◌&&◌, ◌⊎◌, inl, inr, T, List, [], ◌∷◌, ◌++◌, Option, Some, None, slice_get, take, drop, length, refl, sym, ap, subst, ◌∙◌, arith, append_assoc, length-append}
use Rattle.std.proofs.lemmas.Bool.{false≢true}
use Rattle.std.proofs.lemmas.Option.{none-some, same_Some}
use Rattle.std.specs.Ordering.{eq_by_cmp}
use Rattle.std.specs.List.{remove}
use Rattle.std.specs.FinMap.{find, is_sorted}
use Rattle.std.specs.FinMap.Entries.{below_all}
use Rattle.calvin_types.specs.declared.key.Key.{Key}
use Rattle.calvin_types.specs.declared.key_set.Sets.{Sets}
use Rattle.calvin_types.specs.declared.place.Place.{Place}
use Rattle.calvin_types.specs.Keys.{has}
use Rattle.calvin_types.specs.SameKeys.{equal_keys}
use Rattle.calvin_types.specs.SameKeysLaws.{equal_keys_equiv}
use Rattle.calvin_types.specs.Places.{place_cmp, IsBefore}
use Rattle.calvin_types.proofs.PlaceOrder.{not_before_itself, one_place, same_itself}
use Rattle.calvin_types.proofs.Conjunctions.{first, second}
use Rattle.calvin_lock.specs.declared.queue.Kind.TheVariants as kind
use Rattle.calvin_lock.specs.declared.queue.Ask.{Ask}
use Rattle.calvin_lock.specs.declared.queue.Queue.{Queue}
use Rattle.calvin_lock.specs.Ready.{Conflict}
use Rattle.calvin_lock.specs.ListOrder.{IsFree}
use Rattle.calvin_lock.specs.Queues.{is_shared, AllShared, IsQueueOf, IsQueueAt, IsFirst, ask_if, ask_of, asks_of, equal_places, place_is, is_of, waits_in, waits_of, queue_at, AreQueuesOrEmpty, Leaves}
use Rattle.calvin_lock.proofs.Conflicts.{of_either, in_first, in_second}
use Rattle.calvin_lock.proofs.Entries.{sum_part, sum_none}
use Rattle.calvin_lock.proofs.PlaceTests.{places_exact, places_self}
use Rattle.calvin_lock.proofs.Requests.{below_at, below_unfound, not_found}
use Rattle.calvin_lock.proofs.QueueLists.{shared_front, shared_back, waits_append, first_free, free_first, unasked_free}

-- ---- what a request asks of a key

abbrev pub asked_by : Place → Bool → Bool → List Ask
asked_by q writes reads = ask_if q kind.Exclusive (writes && true) ++ ask_if q kind.Shared (reads && not writes)

pub record AsksFor (k : Key) (e : Place × Sets) (a : Ask) : Type 0 where
  pub is : ask_of k e ≡ a ∷ []
  pub place : a.place ≡ e.0
  pub kinds : ((has e.1.writes k ≡ true) × (is_shared a.kind ≡ false)) ⊎ ((has e.1.writes k ≡ false) × ((has e.1.reads k ≡ true) × (is_shared a.kind ≡ true)))

pub record AsksNot (k : Key) (e : Place × Sets) : Type 0 where
  pub is : ask_of k e ≡ []
  pub writes : has e.1.writes k ≡ false
  pub reads : has e.1.reads k ≡ false

pub ask_cases : (k : Key) (e : Place × Sets) → AsksNot k e ⊎ ((a : Ask) × AsksFor k e a)
ask_cases k e = go (has e.1.writes k) refl (has e.1.reads k) refl
  where
    by : (w r : Bool) → has e.1.writes k ≡ w → has e.1.reads k ≡ r → ask_of k e ≡ asked_by e.0 w r
    by w r writes reads = λ i. asked_by e.0 (writes i) (reads i)

    go : (w : Bool) → has e.1.writes k ≡ w → (r : Bool) → has e.1.reads k ≡ r → AsksNot k e ⊎ ((a : Ask) × AsksFor k e a)
    go true writes true reads = inr (record { place = e.0; kind = kind.Exclusive }, record { is = by true true writes reads; place = refl; kinds = inl (writes, refl) })
    go true writes false reads = inr (record { place = e.0; kind = kind.Exclusive }, record { is = by true false writes reads; place = refl; kinds = inl (writes, refl) })
    go false writes true reads = inr (record { place = e.0; kind = kind.Shared }, record { is = by false true writes reads; place = refl; kinds = inr (writes, (reads, refl)) })
    go false writes false reads = inl (record { is = by false false writes reads; writes = writes; reads = reads })

-- a request that asks for a key reads or writes it
in_either : (k : Key) (e : Place × Sets) (a : Ask) → AsksFor k e a → has (e.1.reads ++ e.1.writes) k ≡ true
in_either k e a asks = elim asks.kinds [
  | inl written ↦ in_second e.1.reads e.1.writes k written.0
  | inr read ↦ in_first e.1.reads e.1.writes k read.1.0
]

-- two that ask for a key and don't conflict share it
pub no_clash : (k : Key) (e f : Place × Sets) (b a : Ask) → AsksFor k e b → AsksFor k f a → ¬ Conflict e.1 f.1 → (is_shared b.kind ≡ true) × (is_shared a.kind ≡ true)
no_clash k e f b a first second apart = elim first.kinds [
  | inl written ↦ absurd (apart (k, inl (written.0, in_either k f a second)))
  | inr read ↦ elim second.kinds [
    | inl written ↦ absurd (apart (k, inr (in_either k e b first, written.0)))
    | inr also ↦ (read.1.1, also.1.1)
  ]
]

-- and two that conflict ask for a key that they don't share
pub record Clash (e f : Place × Sets) : Type 0 where
  pub key : Key
  pub one : Ask
  pub other : Ask
  pub asks : AsksFor key e one
  pub asks_too : AsksFor key f other
  pub apart : ¬ ((is_shared one.kind ≡ true) × (is_shared other.kind ≡ true))

asks_written : (k : Key) (e : Place × Sets) → has e.1.writes k ≡ true → (a : Ask) × (AsksFor k e a × (is_shared a.kind ≡ false))
asks_written k e written = elim (ask_cases k e) [
  | inl none ↦ absurd (false≢true (sym none.writes ∙ written))
  | inr some ↦ (
    some.0,
    (
      some.1,
      elim some.1.kinds [
        | inl alone ↦ alone.1
        | inr read ↦ absurd (false≢true (sym read.0 ∙ written))
      ],
    ),
  )
]

asks_either : (k : Key) (e : Place × Sets) → has (e.1.reads ++ e.1.writes) k ≡ true → (a : Ask) × AsksFor k e a
asks_either k e there = elim (ask_cases k e) [
  | inl none ↦ absurd (elim (of_either e.1.reads e.1.writes k there) [
    | inl read ↦ false≢true (sym none.reads ∙ read)
    | inr written ↦ false≢true (sym none.writes ∙ written)
  ])
  | inr some ↦ some
]

pub clashing : (e f : Place × Sets) → Conflict e.1 f.1 → Clash e f
clashing e f (k, inl (written, there)) =
    let one = asks_written k e written in
    let other = asks_either k f there in
    record { key = k; one = one.0; other = other.0; asks = one.1.0; asks_too = other.1; apart = λ both. false≢true (sym one.1.1 ∙ both.0) }
clashing e f (k, inr (there, written)) =
    let one = asks_either k e there in
    let other = asks_written k f written in
    record { key = k; one = one.0; other = other.0; asks = one.1; asks_too = other.1.0; apart = λ both. false≢true (sym other.1.1 ∙ both.1) }

-- ---- what several requests ask of a key

pub asks_append : (k : Key) (xs ys : List (Place × Sets)) → asks_of k (xs ++ ys) ≡ asks_of k xs ++ asks_of k ys
asks_append k [] ys = refl
asks_append k (e ∷ xs) ys = ap (λ l. ask_of k e ++ l) (asks_append k xs ys) ∙ sym (append_assoc (ask_of k e) (asks_of k xs) (asks_of k ys))

not_place : (q p : Place) → eq_by_cmp place_cmp q p ≡ false → place_is q p ≡ 0
not_place q p other = go (equal_places q p) refl
  where
    go : (b : Bool) → equal_places q p ≡ b → place_is q p ≡ 0
    go true same = absurd (false≢true (sym other ∙ ap (eq_by_cmp place_cmp q) (sym (places_exact q p same)) ∙ same_itself q))
    go false is = ap (λ b. cond b 1 0) is

-- a place that isn't among the requests waits for none of them
pub unfound_waits : (k : Key) (q : Place) (xs : List (Place × Sets)) → find place_cmp q xs ≡ None → waits_in q (asks_of k xs) ≡ 0
unfound_waits k q [] none = refl
unfound_waits k q (e ∷ xs) none = go (eq_by_cmp place_cmp q e.0) refl none (unfound_waits k q xs)
  where
    parts : waits_in q (asks_of k (e ∷ xs)) ≡ waits_in q (ask_of k e) + waits_in q (asks_of k xs)
    parts = waits_append q (ask_of k e) (asks_of k xs)

    own : eq_by_cmp place_cmp q e.0 ≡ false → waits_in q (ask_of k e) ≡ 0
    own other = elim (ask_cases k e) [
      | inl unasked ↦ ap (waits_in q) unasked.is
      | inr asks ↦ let one = ap (waits_in q) asks.1.is in let zero = ap (place_is q) asks.1.place ∙ not_place q e.0 other in omega (arith, one, zero)
    ]

    go : (b : Bool) → eq_by_cmp place_cmp q e.0 ≡ b → cond b (Some e.1) (find place_cmp q xs) ≡ None → (find place_cmp q xs ≡ None → waits_in q (asks_of k xs) ≡ 0) → waits_in q (asks_of k (e ∷ xs)) ≡ 0
    go true same found rest = absurd (none-some e.1 (sym found))
    go false other found rest = let zero = own other in let more = rest found in omega (arith, parts, zero, more)

module _ (k : Key) (f : Place × Sets) (a : Ask) (asks : AsksFor k f a) where
  all_shared : (xs : List (Place × Sets)) → ((j : ℕ) (e : Place × Sets) → slice_get xs j ≡ Some e → ¬ Conflict e.1 f.1) → AllShared (asks_of k xs)
  all_shared [] apart = tt
  all_shared (e ∷ xs) apart = go (all_shared xs (λ j x at. apart (suc j) x at)) (ask_cases k e)
    where
      go : AllShared (asks_of k xs) → AsksNot k e ⊎ ((b : Ask) × AsksFor k e b) → AllShared (asks_of k (e ∷ xs))
      go rest (inl none) = subst (λ l. AllShared (l ++ asks_of k xs)) (sym none.is) rest
      go rest (inr (b, mine)) = subst (λ l. AllShared (l ++ asks_of k xs)) (sym mine.is) ((no_clash k e f b a mine asks (apart 0 e refl)).0, rest)

  none_asked : (xs : List (Place × Sets)) → ((j : ℕ) (e : Place × Sets) → slice_get xs j ≡ Some e → ¬ Conflict e.1 f.1) → is_shared a.kind ≡ false → asks_of k xs ≡ []
  none_asked [] apart alone = refl
  none_asked (e ∷ xs) apart alone = elim (ask_cases k e) [
    | inl none ↦ ap (λ l. l ++ asks_of k xs) none.is ∙ none_asked xs (λ j x at. apart (suc j) x at) alone
    | inr mine ↦ absurd (false≢true (sym alone ∙ (no_clash k e f mine.0 a mine.1 asks (apart 0 e refl)).1))
  ]

  -- who conflicts with none before it is first with them
  pub first_of : (xs : List (Place × Sets)) → ((j : ℕ) (e : Place × Sets) → slice_get xs j ≡ Some e → ¬ Conflict e.1 f.1) → IsFirst (asks_of k xs) a
  first_of xs apart = elim asks.kinds [
    | inl alone ↦ inl (none_asked xs apart alone.1)
    | inr read ↦ inr (all_shared xs apart, read.1.1)
  ]

-- and who is first shares the key with each before it
pub shared_with : (k : Key) (a : Ask) (xs : List (Place × Sets)) → IsFirst (asks_of k xs) a → (j : ℕ) (e : Place × Sets) (b : Ask) → slice_get xs j ≡ Some e → AsksFor k e b → (is_shared b.kind ≡ true) × (is_shared a.kind ≡ true)
shared_with k a xs first j e b at asks = elim first [
  | inl none ↦ absurd (some_asked xs j at none)
  | inr all ↦ (shared_there xs j at all.0, all.1)
]
  where
    some_asked : (ys : List (Place × Sets)) (n : ℕ) → slice_get ys n ≡ Some e → asks_of k ys ≡ [] → ⊥
    some_asked [] n there none = none-some e there
    some_asked (y ∷ ys) zero there none =
        let one = ap length (ap (ask_of k) (same_Some y e there) ∙ asks.is) in
        let long = length-append (ask_of k y) (asks_of k ys) in
        let zero_long = ap length none in
        omega (arith, one, long, zero_long)
    some_asked (y ∷ ys) (suc n) there none = go (asks_of k ys) refl none (some_asked ys n there)
      where
        go : (l : List Ask) → asks_of k ys ≡ l → ask_of k y ++ asks_of k ys ≡ [] → (asks_of k ys ≡ [] → ⊥) → ⊥
        go [] is none rest = rest is
        go (x ∷ l) is none rest =
            let long = length-append (ask_of k y) (asks_of k ys) in
            let zero_long = ap length none in
            let some = ap length is in
            omega (arith, long, zero_long, some)

    shared_there : (ys : List (Place × Sets)) (n : ℕ) → slice_get ys n ≡ Some e → AllShared (asks_of k ys) → is_shared b.kind ≡ true
    shared_there [] n there all = absurd (none-some e there)
    shared_there (y ∷ ys) zero there all = (subst AllShared (ap (ask_of k) (same_Some y e there) ∙ asks.is) (shared_front (ask_of k y) (asks_of k ys) all)).0
    shared_there (y ∷ ys) (suc n) there all = shared_there ys n there (shared_back (ask_of k y) (asks_of k ys) all)

-- ---- one request of a list in order

pub around_at : {X : Type 0} (xs : List X) (i : ℕ) (x : X) → slice_get xs i ≡ Some x → xs ≡ take i xs ++ x ∷ drop (suc i) xs
around_at [] i x at = absurd (none-some x at)
around_at (y ∷ xs) zero x at = ap (λ z. z ∷ xs) (same_Some y x at)
around_at (y ∷ xs) (suc i) x at = ap (λ l. y ∷ l) (around_at xs i x at)

take_index : {X : Type 0} (xs : List X) (i j : ℕ) (x : X) → slice_get (take i xs) j ≡ Some x → (j < i) × (slice_get xs j ≡ Some x)
take_index [] zero j x at = absurd (none-some x at)
take_index [] (suc i) j x at = absurd (none-some x at)
take_index (y ∷ xs) zero j x at = absurd (none-some x at)
take_index (y ∷ xs) (suc i) zero x at = (omega arith, at)
take_index (y ∷ xs) (suc i) (suc j) x at = let rest = take_index xs i j x at in let less = rest.0 in (omega (arith, less), rest.1)

index_take : {X : Type 0} (xs : List X) (i j : ℕ) (x : X) → j < i → slice_get xs j ≡ Some x → slice_get (take i xs) j ≡ Some x
index_take [] i j x less at = absurd (none-some x at)
index_take (y ∷ xs) zero j x less at = absurd (omega (arith, less))
index_take (y ∷ xs) (suc i) zero x less at = at
index_take (y ∷ xs) (suc i) (suc j) x less at = index_take xs i j x (omega (arith, less)) at

after_unfound : (xs : List (Place × Sets)) (i : ℕ) (e : Place × Sets) → T (is_sorted place_cmp xs) → slice_get xs i ≡ Some e → find place_cmp e.0 (drop (suc i) xs) ≡ None
after_unfound [] i e rising at = absurd (none-some e at)
after_unfound (x ∷ xs) zero e rising at = subst (λ (y : Place × Sets). find place_cmp y.0 xs ≡ None) (same_Some x e at) (below_unfound x.0 xs (first _ (is_sorted place_cmp xs) rising))
after_unfound (x ∷ xs) (suc i) e rising at = after_unfound xs i e (second (below_all place_cmp x.0 xs) _ rising) at

before_unfound : (xs : List (Place × Sets)) (i : ℕ) (e : Place × Sets) → T (is_sorted place_cmp xs) → slice_get xs i ≡ Some e → find place_cmp e.0 (take i xs) ≡ None
before_unfound [] i e rising at = absurd (none-some e at)
before_unfound (x ∷ xs) zero e rising at = refl
before_unfound (x ∷ xs) (suc i) e rising at =
    not_found (eq_by_cmp place_cmp e.0 x.0) Sets x.1 (find place_cmp e.0 (take i xs))
    (λ same. let before = below_at x.0 xs i e (first _ (is_sorted place_cmp xs) rising) at in not_before_itself x.0 (subst (λ q. IsBefore x.0 q) (one_place e.0 x.0 same) before))
    ∙ before_unfound xs i e (second (below_all place_cmp x.0 xs) _ rising) at

module _ (requests : List (Place × Sets)) (rising : T (is_sorted place_cmp requests)) (i : ℕ) (q : Place) (h : Sets) (at : slice_get requests i ≡ Some (q, h)) where
  pub asks_around : (k : Key) → asks_of k requests ≡ asks_of k (take i requests) ++ (ask_of k (q, h) ++ asks_of k (drop (suc i) requests))
  asks_around k = ap (asks_of k) (around_at requests i (q, h) at) ∙ asks_append k (take i requests) ((q, h) ∷ drop (suc i) requests)

  with_ask : (k : Key) (a : Ask) → AsksFor k (q, h) a → asks_of k requests ≡ asks_of k (take i requests) ++ a ∷ asks_of k (drop (suc i) requests)
  with_ask k a asks = asks_around k ∙ ap (λ l. asks_of k (take i requests) ++ (l ++ asks_of k (drop (suc i) requests))) asks.is

  apart_before : IsFree requests i → (j : ℕ) (e : Place × Sets) → slice_get (take i requests) j ≡ Some e → ¬ Conflict e.1 h
  apart_before free j e there = let before = take_index requests i j e there in free j e (q, h) before.0 before.1 at

  -- where it is free, the queue of a key that it asks for is left by one who is first
  pub leaves_queue : IsFree requests i → (k : Key) (a : Ask) → AsksFor k (q, h) a → Leaves (asks_of k requests) (asks_of k (remove requests i))
  leaves_queue free k a asks = record {
    front = asks_of k (take i requests);
    ask = a;
    back = asks_of k (drop (suc i) requests);
    was = with_ask k a asks;
    is = asks_append k (take i requests) (drop (suc i) requests);
    first = first_of k (q, h) a asks (take i requests) (apart_before free);
  }

  -- and of a key that it doesn't ask for stays
  pub stays_queue : (k : Key) → AsksNot k (q, h) → asks_of k requests ≡ asks_of k (remove requests i)
  stays_queue k none = asks_around k ∙ ap (λ l. asks_of k (take i requests) ++ (l ++ asks_of k (drop (suc i) requests))) none.is ∙ sym (asks_append k (take i requests) (drop (suc i) requests))

  module _ (queues : List (Key × Queue)) (are : AreQueuesOrEmpty (λ k. asks_of k requests) queues) where
    queue_is : (k : Key) (o : Option Queue) → queue_at queues k ≡ o → IsQueueAt (asks_of k requests) o
    queue_is k o found = subst (IsQueueAt (asks_of k requests)) found (are.at k)

    -- where it is free, it waits in no queue
    free_in : IsFree requests i → (k : Key) (v : Queue) → queue_at queues k ≡ Some v → waits_in q v.waiting.items ≡ 0
    free_in free k v found =
        let there = queue_is k (Some v) found in
        let front = unfound_waits k q (take i requests) (before_unfound requests i (q, h) rising at) in
        let back = unfound_waits k q (drop (suc i) requests) (after_unfound requests i (q, h) rising at) in
        elim (ask_cases k (q, h)) [
          | inl none ↦
              let parts = ap (waits_in q) (asks_around k) ∙ waits_append q (asks_of k (take i requests)) (ask_of k (q, h) ++ asks_of k (drop (suc i) requests)) in
              let more = ap (λ l. waits_in q (l ++ asks_of k (drop (suc i) requests))) none.is in
              unasked_free (asks_of k requests) v.holders v.waiting.items there.0 q (omega (arith, parts, more, front, back))
          | inr (a, asks) ↦ first_free (asks_of k (take i requests)) a (asks_of k (drop (suc i) requests)) v.holders v.waiting.items
              (subst (λ l. IsQueueOf l v.holders v.waiting.items) (with_ask k a asks) there.0) there.1 (first_of k (q, h) a asks (take i requests) (apart_before free)) q back
        ]

    pub free_waits : IsFree requests i → waits_of q queues ≡ 0
    free_waits free = sum_none (λ (v : Queue). waits_in q v.waiting.items) equal_keys_equiv queues are.distinct (free_in free)

    -- and where it waits in none, it is free
    pub waits_free : waits_of q queues ≡ 0 → IsFree requests i
    waits_free none j e f less there here conflict =
        let clash = clashing e (q, h) (subst (λ (y : Place × Sets). Conflict e.1 y.1) (same_Some f (q, h) (sym here ∙ at)) conflict) in
        go clash (queue_at queues clash.key) refl
      where
        go : (c : Clash e (q, h)) (o : Option Queue) → queue_at queues c.key ≡ o → ⊥
        go c None found =
            let long = length-append (asks_of c.key (take i requests)) (c.other ∷ asks_of c.key (drop (suc i) requests)) in
            let nothing = ap length (sym (with_ask c.key c.other c.asks_too) ∙ queue_is c.key None found) in
            omega (arith, long, nothing)
        go c (Some v) found =
            let zero = sum_part (λ (x : Queue). waits_in q x.waiting.items) (equal_keys c.key) v queues found none in
            let own = subst (λ p. waits_in p v.waiting.items ≡ 0) (sym c.asks_too.place) zero in
            let one : is_of c.other.place c.other ≡ 1 = ap (λ b. cond b 1 0) (places_self c.other.place) in
            let first = free_first (asks_of c.key (take i requests)) c.other (asks_of c.key (drop (suc i) requests)) v.holders v.waiting.items
            (subst (λ l. IsQueueOf l v.holders v.waiting.items) (with_ask c.key c.other c.asks_too) (queue_is c.key (Some v) found).0) one own in
            c.apart (shared_with c.key c.other (take i requests) first j e c.one (index_take requests i j e less there) c.asks)
