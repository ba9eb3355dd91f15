-- Lock queues beside the unreleased requests, and what a request and a release make of them.
use Rattle.std.proofs.Common.{◌≡◌, ◌↔◌, ℕ, ◌+◌, Bool, true, false, cond, not, ◌&&◌, if◌then◌else◌, inl, inr, List, [], ◌∷◌, ◌++◌, Option, Some, None, slice_get, length, refl, sym, ap, subst, ◌∙◌, arith, length-append}
use Rattle.std.proofs.lemmas.Bool.{false≢true, and_parts}
use Rattle.std.proofs.lemmas.Option.{none-some, same_Some}
use Rattle.std.specs.Ordering.{eq_by_cmp}
use Rattle.std.specs.Cmp.{eq_by_cmp_equiv}
use Rattle.std.specs.List.{remove}
use Rattle.std.specs.Option.{option_map}
use Rattle.std.specs.FinMap as map
use Rattle.std.specs.FinMap.{find, get, from_entries, get-from_entries, get-insert, same_map}
use Rattle.calvin_types.specs.declared.key.Key.{Key}
use Rattle.calvin_types.specs.declared.key_set.Sets.{Sets}
use Rattle.calvin_types.specs.declared.place.Place.{Place}
use Rattle.calvin_types.specs.Keys.{has}
use Rattle.calvin_types.specs.SameKeysLaws.{equal_keys_equiv}
use Rattle.calvin_types.specs.Places.{place_cmp, IsBefore}
use Rattle.calvin_types.proofs.HashMaps as maps
use Rattle.calvin_types.proofs.PlaceOrder.{place_total, place_exact}
use Rattle.calvin_lock.specs.declared.queue.Ask.{Ask}
use Rattle.calvin_lock.specs.declared.queue.Queue.{Queue}
use Rattle.calvin_lock.specs.declared.unreleased.Pending.{Pending}
use Rattle.calvin_lock.specs.declared.unreleased.Unreleased.{Unreleased}
use Rattle.calvin_lock.specs.Ready.{IsReady, IsPast, IsFirstReady}
use Rattle.calvin_lock.specs.ListOrder.{IsFree}
use Rattle.calvin_lock.specs.Queues.{equal_places, asked, ask_of, asks_of, waits_in, waits_of, queue_at, IsQueueAt, AreQueuesOrEmpty, AreQueues, NoneIsEmpty, Leaves}
use Rattle.calvin_lock.specs.Unreleased.{Among, pending_at, IsReadyIn, IsUnreleased, IsUpTo, WaitsFor, IsFirstReadyIn}
use Rattle.calvin_lock.specs.Queued.{requests_of, IsQueued}
use Rattle.calvin_lock.proofs.Entries.{sum_none}
use Rattle.calvin_lock.proofs.PlaceTests.{places_exact, places_self}
use Rattle.calvin_lock.proofs.QueueLists.{append_none, unasked_free}
use Rattle.calvin_lock.proofs.QueueMaps.{same_queues}
use Rattle.calvin_lock.proofs.ReadyByQueues.{AsksFor, ask_cases, asks_append, unfound_waits, leaves_queue, stays_queue, free_waits, waits_free}
use Rattle.calvin_lock.proofs.Requests.{found_index, index_found, find_without, free_ready, ready_free, stands, unfound, past_before, in_order_push, in_order_without, pushed, removed}

abbrev pub sets_of : Option Pending → Option Sets
sets_of o = option_map (λ (p : Pending). p.sets) o

alike : (a b : Place) → equal_places a b ≡ eq_by_cmp place_cmp a b
alike a b = maps.alike equal_places place_cmp place_total place_exact places_exact places_self a b

turned : (a b : Place) → eq_by_cmp place_cmp b a ≡ equal_places a b
turned a b = sym (alike a b ∙ (eq_by_cmp_equiv place_total).symm a b)

-- ---- the map of what is unreleased

requests_same : (es : List (Place × Pending)) (q : Place) → find place_cmp q (requests_of es) ≡ sets_of (pending_at es q)
requests_same [] q = refl
requests_same (e ∷ es) q = (λ i. cond (sym (alike q e.0) i) (Some e.1.sets) (requests_same es q i)) ∙ through (equal_places q e.0)
  where
    through : (b : Bool) → cond b (Some e.1.sets) (sets_of (pending_at es q)) ≡ sets_of (cond b (Some e.1) (pending_at es q))
    through true = refl
    through false = refl

pub map_is : (requests : List (Place × Sets)) (es : List (Place × Pending)) → ((q : Place) → find place_cmp q requests ≡ sets_of (pending_at es q)) → from_entries {R = place_cmp} (requests_of es) ≡ from_entries requests
map_is requests es same = same_map place_total place_exact _ _ (λ q. get-from_entries place_total (requests_of es) q ∙ requests_same es q ∙ sym (same q) ∙ sym (get-from_entries place_total requests q))

some_sets : (o : Option Pending) (h : Sets) → sets_of o ≡ Some h → (p : Pending) × ((o ≡ Some p) × (p.sets ≡ h))
some_sets None h is = absurd (none-some h is)
some_sets (Some p) h is = (p, (refl, same_Some p.sets h is))

no_sets : (o : Option Pending) → sets_of o ≡ None → o ≡ None
no_sets None is = refl
no_sets (Some p) is = absurd (none-some p.sets (sym is))

module _ (queues : List (Key × Queue)) (u : Unreleased) (last : Option Place) (k : IsQueued queues u last) where
  pub kept_map : from_entries {R = place_cmp} (requests_of u.places.entries) ≡ from_entries k.requests
  kept_map = map_is k.requests u.places.entries k.same

  pub at_request : (q : Place) (p : Pending) → pending_at u.places.entries q ≡ Some p → (i : ℕ) × (slice_get k.requests i ≡ Some (q, p.sets))
  at_request q p found = found_index k.requests q p.sets (k.same q ∙ ap sets_of found)

  -- a place that waits for no key is free
  pub free_at : (q : Place) (p : Pending) → pending_at u.places.entries q ≡ Some p → p.waits ≡ 0 → (i : ℕ) → slice_get k.requests i ≡ Some (q, p.sets) → IsFree k.requests i
  free_at q p found zero i at = waits_free k.requests k.order.rising i q p.sets at queues k.asked.served (sym (k.waits q p found) ∙ zero)

  -- the places that wait for no key are the ready ones
  pub ready_iff : (q : Place) → IsReadyIn u.places.entries q ↔ IsReady (from_entries (requests_of u.places.entries)) q
  ready_iff q = (there, back)
    where
      there : IsReadyIn u.places.entries q → IsReady (from_entries (requests_of u.places.entries)) q
      there (p, found, zero) =
          let at = at_request q p found in
          subst (λ m. IsReady m q) (sym kept_map) (free_ready k.requests k.order.rising at.0 (q, p.sets) at.1 (free_at q p found zero at.0 at.1))

      back : IsReady (from_entries (requests_of u.places.entries)) q → IsReadyIn u.places.entries q
      back said =
          let ready = subst (λ m. IsReady m q) kept_map said in
          let at = stands k.requests k.order.rising q ready.0 ready.1 in
          let pending = some_sets (pending_at u.places.entries q) ready.0 (sym (k.same q) ∙ index_found k.requests at.0 (q, ready.0) k.order.rising at.1) in
          let none = free_waits k.requests k.order.rising at.0 q ready.0 at.1 queues k.asked.served (ready_free k.requests k.order.rising at.0 (q, ready.0) at.1 ready) in
          (pending.0, pending.1.0, k.waits q pending.0 pending.1.0 ∙ none)

  pub first_is : (after answer : Option Place) → IsFirstReadyIn u.places.entries after answer → IsFirstReady (from_entries (requests_of u.places.entries)) after answer
  first_is after None none = λ q past ready. none q past ((ready_iff q).1 ready)
  first_is after (Some p) (past, ready, least) = (past, (ready_iff p).0 ready, λ q beyond there before. least q beyond ((ready_iff q).1 there) before)

  -- ---- a request at a place past the last one

  module _ (place : Place) (past : IsPast last place) where
    pub new_place : pending_at u.places.entries place ≡ None
    new_place = no_sets (pending_at u.places.entries place) (sym (k.same place) ∙ unfound last place k.requests k.order.up_to past)

    pub last_place : (q : Place) → Among u.order.items q → IsBefore q place
    last_place q there = past_before last q place (k.up_to q there) past

    unasked : (key : Key) → waits_in place (asks_of key k.requests) ≡ 0
    unasked key = unfound_waits key place k.requests (unfound last place k.requests k.order.up_to past)

    waits_nowhere : waits_of place queues ≡ 0
    waits_nowhere = sum_none (λ (v : Queue). waits_in place v.waiting.items) equal_keys_equiv queues k.asked.served.distinct (λ key v found.
        unasked_free (asks_of key k.requests) v.holders v.waiting.items (subst (IsQueueAt (asks_of key k.requests)) found (k.asked.served.at key)).0 place (unasked key))

    module _ (v : Unreleased) (p : Pending) (updated : (q : Place) → pending_at v.places.entries q ≡ cond (equal_places place q) (Some p) (pending_at u.places.entries q)) where
      pub more_is : (q : Place) → find place_cmp q (k.requests ++ (place, p.sets) ∷ []) ≡ sets_of (pending_at v.places.entries q)
      more_is q =
          sym (get-from_entries place_total (k.requests ++ (place, p.sets) ∷ []) q)
          ∙ ap (λ m. get m q) (pushed k.requests last place p.sets k.order past)
          ∙ get-insert place_total (from_entries k.requests) place p.sets q
          ∙ (λ i. cond (turned place q i) (Some p.sets) ((get-from_entries place_total k.requests q ∙ k.same q) i))
          ∙ through (equal_places place q) ∙ sym (ap sets_of (updated q))
        where
          through : (b : Bool) → cond b (Some p.sets) (sets_of (pending_at u.places.entries q)) ≡ sets_of (cond b (Some p) (pending_at u.places.entries q))
          through true = refl
          through false = refl

      pub requested_map : from_entries {R = place_cmp} (requests_of v.places.entries) ≡ map.insert (from_entries (requests_of u.places.entries)) place p.sets
      requested_map = map_is (k.requests ++ (place, p.sets) ∷ []) v.places.entries more_is ∙ pushed k.requests last place p.sets k.order past ∙ ap (λ m. map.insert m place p.sets) (sym kept_map)

      module _ (now : List (Key × Queue)) (kept : IsUnreleased v) (up_to : IsUpTo v (Some place))
          (joined : AreQueuesOrEmpty (λ key. asks_of key k.requests ++ ask_of key (place, p.sets)) now)
          (others : (key : Key) → asked p.sets.writes [] key ≡ false → asked p.sets.reads p.sets.writes key ≡ false → queue_at queues key ≡ None → queue_at now key ≡ None)
          (counted : (q : Place) → waits_of q now ≡ waits_of q queues + (if equal_places q place then p.waits else 0)) where
        more_waits : WaitsFor (λ q. waits_of q now) v.places.entries
        more_waits q r found = go (equal_places place q) refl
          where
            is_now : (b : Bool) → equal_places place q ≡ b → pending_at v.places.entries q ≡ cond b (Some p) (pending_at u.places.entries q)
            is_now b is = updated q ∙ ap (λ c. cond c (Some p) (pending_at u.places.entries q)) is

            go : (b : Bool) → equal_places place q ≡ b → r.waits ≡ waits_of q now
            go true is =
                let same = places_exact place q is in
                let mine = ap (λ (x : Pending). x.waits) (same_Some r p (sym found ∙ is_now true is)) in
                let whole = counted place ∙ ap (λ b. waits_of place queues + (if b then p.waits else 0)) (places_self place) in
                let none = waits_nowhere in
                let here = ap (λ x. waits_of x now) same in
                omega (arith, mine, whole, none, here)
            go false is =
                let old = k.waits q r (sym (is_now false is) ∙ found) in
                let flip : equal_places q place ≡ false = other (equal_places q place) refl is in
                let whole = counted q ∙ ap (λ b. waits_of q queues + (if b then p.waits else 0)) flip in
                omega (arith, old, whole)
              where
                other : (b : Bool) → equal_places q place ≡ b → equal_places place q ≡ false → equal_places q place ≡ false
                other true same apart = absurd (false≢true (sym apart ∙ ap (equal_places place) (places_exact q place same) ∙ places_self place))
                other false same apart = same

        nobody_joined : NoneIsEmpty (λ key. asks_of key k.requests ++ ask_of key (place, p.sets)) now
        nobody_joined key none = elim (ask_cases key (place, p.sets)) [
          | inl unasked ↦ others key (ap (λ b. b && true) unasked.writes) (ap (λ b. b && not (has p.sets.writes key)) unasked.reads) (k.asked.nobody key (sym (append_none (asks_of key k.requests)) ∙ ap (λ l. asks_of key k.requests ++ l) (sym unasked.is) ∙ none))
          | inr (a, mine) ↦ absurd (
              let long = length-append (asks_of key k.requests) (ask_of key (place, p.sets)) in
              let one = ap length mine.is in
              let zero = ap length none in
              omega (arith, long, one, zero)
              )
        ]

        pub requested : IsQueued now v (Some place)
        requested = record {
          requests = k.requests ++ (place, p.sets) ∷ [];
          order = in_order_push k.requests last place p.sets k.order past;
          same = more_is;
          asked = same_queues _ _ now (λ key. ap (λ l. asks_of key k.requests ++ l) (sym (append_none (ask_of key (place, p.sets)))) ∙ sym (asks_append key k.requests ((place, p.sets) ∷ []))) (record { served = joined; nobody = nobody_joined });
          waits = more_waits;
          unreleased = kept;
          up_to = up_to;
        }

  -- ---- the release of a ready place

  module _ (place : Place) (h : Sets) (n : ℕ) (ready : pending_at u.places.entries place ≡ Some (record { sets = h; waits = 0; near = n })) where
    at_index : slice_get k.requests (at_request place (record { sets = h; waits = 0; near = n }) ready).0 ≡ Some (place, h)
    at_index = (at_request place (record { sets = h; waits = 0; near = n }) ready).1

    free : IsFree k.requests (at_request place (record { sets = h; waits = 0; near = n }) ready).0
    free = free_at place (record { sets = h; waits = 0; near = n }) ready refl (at_request place (record { sets = h; waits = 0; near = n }) ready).0 at_index

    abbrev pub before_release : Key → List Ask
    before_release key = asks_of key k.requests

    abbrev pub after_release : Key → List Ask
    after_release key = asks_of key (remove k.requests (at_request place (record { sets = h; waits = 0; near = n }) ready).0)

    leaves_asked : (key : Key) (a : Ask) → AsksFor key (place, h) a → Leaves (before_release key) (after_release key)
    leaves_asked key a asks = leaves_queue k.requests k.order.rising (at_request place (record { sets = h; waits = 0; near = n }) ready).0 place h at_index free key a asks

    written : (key : Key) (b : Bool) → has h.writes key ≡ b → asked h.writes [] key ≡ (b && true)
    written key b is = ap (λ c. c && true) is

    -- it leaves the queues of the keys that it writes
    pub leaves_written : (key : Key) → asked h.writes [] key ≡ true → Leaves (before_release key) (after_release key)
    leaves_written key asks = elim (ask_cases key (place, h)) [
      | inl unasked ↦ absurd (false≢true (sym (written key false unasked.writes) ∙ asks))
      | inr (a, mine) ↦ leaves_asked key a mine
    ]

    abbrev pub mid_release : Key → List Ask
    mid_release key = cond (asked h.writes [] key) (after_release key) (before_release key)

    not_true : (b : Bool) → not b ≡ true → b ≡ false
    not_true true is = absurd (false≢true is)
    not_true false is = refl

    -- and then of those that it only reads
    pub leaves_read : (key : Key) → asked h.reads h.writes key ≡ true → Leaves (mid_release key) (after_release key)
    leaves_read key asks =
        let parts = and_parts (has h.reads key) (not (has h.writes key)) asks in
        let unwritten = not_true (has h.writes key) parts.1 in
        subst (λ l. Leaves l (after_release key)) (sym (ap (λ b. cond b (after_release key) (before_release key)) (written key false unwritten)))
        (elim (ask_cases key (place, h)) [
          | inl unasked ↦ absurd (false≢true (sym unasked.reads ∙ parts.0))
          | inr (a, mine) ↦ leaves_asked key a mine
        ])

    -- so all of them
    pub left_all : (key : Key) → cond (asked h.reads h.writes key) (after_release key) (mid_release key) ≡ after_release key
    left_all key = elim (ask_cases key (place, h)) [
      | inl unasked ↦
          ap (λ b. cond (b && not (has h.writes key)) (after_release key) (mid_release key)) unasked.reads
          ∙ ap (λ b. cond b (after_release key) (before_release key)) (written key false unasked.writes)
          ∙ stays_queue k.requests k.order.rising (at_request place (record { sets = h; waits = 0; near = n }) ready).0 place h at_index key unasked
      | inr (a, mine) ↦ elim mine.kinds [
        | inl alone ↦ ap (λ l. cond (asked h.reads h.writes key) (after_release key) l) (ap (λ b. cond b (after_release key) (before_release key)) (written key true alone.0)) ∙ either (asked h.reads h.writes key)
        | inr shared ↦ (λ i. cond (shared.1.0 i && not (shared.0 i)) (after_release key) (mid_release key))
      ]
    ]
      where
        either : (b : Bool) → cond b (after_release key) (after_release key) ≡ after_release key
        either true = refl
        either false = refl

    module _ (gone : List (Place × Pending)) (taken : (q : Place) → pending_at gone q ≡ cond (equal_places place q) None (pending_at u.places.entries q)) where
      pub taken_waits : WaitsFor (λ q. waits_of q queues) gone
      taken_waits q p found = go (equal_places place q) refl
        where
          go : (b : Bool) → equal_places place q ≡ b → p.waits ≡ waits_of q queues
          go true is = absurd (none-some p (sym (taken q ∙ ap (λ c. cond c None (pending_at u.places.entries q)) is) ∙ found))
          go false is = k.waits q p (sym (taken q ∙ ap (λ c. cond c None (pending_at u.places.entries q)) is) ∙ found)

      module _ (v : Unreleased) (sets : (q : Place) → sets_of (pending_at v.places.entries q) ≡ sets_of (pending_at gone q)) where
        less_is : (q : Place) → find place_cmp q (remove k.requests (at_request place (record { sets = h; waits = 0; near = n }) ready).0) ≡ sets_of (pending_at v.places.entries q)
        less_is q =
            find_without k.requests (at_request place (record { sets = h; waits = 0; near = n }) ready).0 (place, h) q k.order.rising at_index
            ∙ (λ i. cond (turned place q i) None (k.same q i))
            ∙ through (equal_places place q) ∙ sym (ap sets_of (taken q)) ∙ sym (sets q)
          where
            through : (b : Bool) → cond b None (sets_of (pending_at u.places.entries q)) ≡ sets_of (cond b None (pending_at u.places.entries q))
            through true = refl
            through false = refl

        pub released : v.order.items ≡ u.order.items → (now : List (Key × Queue)) → IsUnreleased v → AreQueues (λ key. cond (asked h.reads h.writes key) (after_release key) (mid_release key)) now → WaitsFor (λ q. waits_of q now) v.places.entries → IsQueued now v last
        released same now kept left waits = record {
          requests = remove k.requests (at_request place (record { sets = h; waits = 0; near = n }) ready).0;
          order = in_order_without k.requests last (at_request place (record { sets = h; waits = 0; near = n }) ready).0 k.order;
          same = less_is;
          asked = same_queues _ _ now left_all left;
          waits = waits;
          unreleased = kept;
          up_to = λ q there. k.up_to q (subst (λ l. Among l q) same there);
        }

        pub released_map : from_entries {R = place_cmp} (requests_of v.places.entries) ≡ map.remove (from_entries (requests_of u.places.entries)) place
        released_map = map_is (remove k.requests (at_request place (record { sets = h; waits = 0; near = n }) ready).0) v.places.entries less_is
            ∙ removed k.requests (at_request place (record { sets = h; waits = 0; near = n }) ready).0 (place, h) k.order.rising at_index
            ∙ ap (λ m. map.remove m place) (sym kept_map)
