-- What is true of every scheduler stays so at each step.
use Rattle.std.proofs.Common.{◌≡◌, ◌≢◌, Bor, ℕ, ◌+◌, ◌<◌, ◌≤◌, Bool, true, false, cond, not, ◌&&◌, ◌⊎◌, inl, inr, List, [], ◌∷◌, length, Option, Some, None, refl, sym, ap, subst, ◌∙◌}
use Rattle.std.proofs.lemmas.Bool.{false≢true, and_parts, or_cases, eqb-true}
use Rattle.std.proofs.lemmas.Map.Lookups.{exact_unsigned}
use Rattle.std.proofs.lemmas.Nat.{mod_below}
use Rattle.std.proofs.lemmas.Option.{none-some, same_Some}
use Rattle.std.specs.Prelude.{◌==◌, map, is_some}
use Rattle.std.specs.List.{list_any, range_with_len}
use Rattle.std.specs.Option.{option_map, option_copied, MatchOption}
use Rattle.std.specs.declared.cmp.Ordering.{Ordering}
use Rattle.std.specs.declared.cmp.Ordering.TheVariants.{Less, Equal, Greater}
use Rattle.std.specs.Ordering.{eq_by_cmp, nat_cmp, is_lt}
use Rattle.std.specs.Cmp.{nat_cmp_total}
use Rattle.std.specs.FinMap.{FinMap, find, get, insert, empty, entries, same_map, get-entries, get-from_entries, get-insert, get-empty}
use Rattle.calvin_types.specs.declared.key.Key.{Key}
use Rattle.calvin_types.specs.declared.place.Place.{Place}
use Rattle.calvin_types.specs.declared.txn.Txn.{Txn}
use Rattle.calvin_types.specs.Keys.{partition_of}
use Rattle.calvin_types.specs.Participants.{Site, is_active}
use Rattle.calvin_types.specs.Places.{place_cmp, IsBefore}
use Rattle.calvin_types.proofs.PlaceOrder.{place_total, place_exact, one_place}
use Rattle.calvin_types.proofs.ExactMaps.{same_or_not, insert_here, insert_other}
use Rattle.calvin_app.specs.Rows.{Rows}
use Rattle.calvin_app.specs.Stores.{Store}
use Rattle.calvin_lock.specs.Local.{local_sets}
use Rattle.calvin_lock.specs.Locking.{Locking, IsUpToLast, no_locks, with_request, without}
use Rattle.calvin_lock.specs.Ready.{IsReady, IsPast}
use Rattle.calvin_lock.proofs.LocalLocks.{locked_none, locked_same, locked_requested, locked_released}
use Rattle.calvin_lock.proofs.ReadyLaws.{ready_with_request, ready_without, requested_before}
use Rattle.calvin_sched.specs.declared.phase.Phase.TheVariants.{Waiting, Begun, Done}
use Rattle.calvin_sched.specs.Scheduling.{Turn, Scheduling, is_finished, awaits, with_turn}
use Rattle.calvin_sched.specs.Standing.{unreleased, unreleased_at, unreleased_by}
use Rattle.calvin_sched.specs.Steps.{begun_turn, with_rows}
use Rattle.calvin_sched.specs.Keeping.{Kept, turns_of, awaited, scheduling_of, IsScheduler}
use Rattle.calvin_sched.proofs.Partitions.{no_more, one_less}
use Rattle.calvin_sched.proofs.Readiness.{both_true}

-- ---- the requests without the room

module _ {Args Row : Type 0} where
  found_turn : (q : Place) (es : List (Place × Kept Args Row)) → find place_cmp q (map (λ e. (e.0, e.1.turn)) es) ≡ option_map (λ k. k.turn) (find place_cmp q es)
  found_turn q [] = refl
  found_turn q (e ∷ es) = go (eq_by_cmp place_cmp q e.0) (found_turn q es)
    where
      go : (b : Bool) → find place_cmp q (map (λ e. (e.0, e.1.turn)) es) ≡ option_map (λ k. k.turn) (find place_cmp q es)
          → cond b (Some e.1.turn) (find place_cmp q (map (λ e. (e.0, e.1.turn)) es)) ≡ option_map (λ k. k.turn) (cond b (Some e.1) (find place_cmp q es))
      go true rest = refl
      go false rest = rest

  pub get_turn : (m : FinMap {K = Place} place_cmp (Kept Args Row)) (q : Place) → get (turns_of m) q ≡ option_map (λ k. k.turn) (get m q)
  get_turn m q = get-from_entries place_total (map (λ e. (e.0, e.1.turn)) (entries m)) q ∙ found_turn q (entries m) ∙ ap (option_map (λ k. k.turn)) (sym (get-entries m q))

  pub put_turn : (m : FinMap {K = Place} place_cmp (Kept Args Row)) (q : Place) (k : Kept Args Row) → turns_of (insert m q k) ≡ insert (turns_of m) q k.turn
  put_turn m q k = same_map place_total place_exact _ _ (λ n.
      get_turn (insert m q k) n ∙ ap (option_map (λ k. k.turn)) (get-insert place_total m q k n) ∙ go n (eq_by_cmp place_cmp n q)
      ∙ ap (cond (eq_by_cmp place_cmp n q) (Some k.turn)) (sym (get_turn m n)) ∙ sym (get-insert place_total (turns_of m) q k.turn n))
    where
      go : (n : Place) (b : Bool) → option_map (λ (k : Kept Args Row). k.turn) (cond b (Some k) (get m n)) ≡ cond b (Some k.turn) (option_map (λ k. k.turn) (get m n))
      go n true = refl
      go n false = refl

  pub no_turns : turns_of (empty {X = Kept Args Row} {R = place_cmp}) ≡ empty
  no_turns = same_map place_total place_exact _ _ (λ n. get_turn empty n ∙ ap (option_map (λ k. k.turn)) (get-empty place_cmp n) ∙ sym (get-empty place_cmp n))

  -- a request that is kept is there, and the other way round
  pub turn_kept : (m : FinMap {K = Place} place_cmp (Kept Args Row)) (q : Place) (k : Kept Args Row) → get m q ≡ Some k → get (turns_of m) q ≡ Some k.turn
  turn_kept m q k is = get_turn m q ∙ ap (option_map (λ k. k.turn)) is

  pub kept_turn : (m : FinMap {K = Place} place_cmp (Kept Args Row)) (q : Place) (x : Turn Args Row) → get (turns_of m) q ≡ Some x → (k : Kept Args Row) × (get m q ≡ Some k) × (k.turn ≡ x)
  kept_turn m q x is = go (get m q) refl (sym (get_turn m q) ∙ is)
    where
      go : (o : Option (Kept Args Row)) → get m q ≡ o → option_map (λ (k : Kept Args Row). k.turn) (get m q) ≡ Some x → (k : Kept Args Row) × (get m q ≡ Some k) × (k.turn ≡ x)
      go None e h = absurd (none-some x (sym (ap (option_map (λ (k : Kept Args Row). k.turn)) e) ∙ h))
      go (Some k) e h = (k, e, same_Some k.turn x (sym (ap (option_map (λ (k : Kept Args Row). k.turn)) e) ∙ h))

-- ---- what is still to come

and_false : (a : Bool) → (a && false) ≡ false
and_false true = refl
and_false false = refl

not_both_so : (b : Bool) → b ≡ true → not b ≡ false
not_both_so b e = ap not e

module _ {Args Row : Type 0} (here : Site) (x : Turn Args Row) where
  abbrev is_read : ℕ → Bool
  is_read from = list_any (λ k. partition_of here.partitions k == from) x.request.sets.reads

  abbrev is_run : ℕ → Bool
  is_run from = not (is_finished x.phase) && is_active here x.request && not (from == here.partition)

  -- a request that begins awaits no more
  pub begun_awaits : (rows : Rows Row) → x.phase ≡ Waiting → length (awaited here (begun_turn here rows x)) ≤ length (awaited here x)
  begun_awaits rows waits = no_more (awaits here x) (awaits here (begun_turn here rows x)) fewer (range_with_len 0 here.partitions)
    where
      fewer : (k : ℕ) → awaits here (begun_turn here rows x) k ≡ true → awaits here x k ≡ true
      fewer k h =
          let began = not (is_finished (begun_turn here rows x).phase) in
          let e = and_parts (began && is_active here x.request && not (k == here.partition) && is_read k) (not (is_some (get x.came k))) h in
          let d = and_parts (began && is_active here x.request && not (k == here.partition)) (is_read k) e.0 in
          let c = and_parts (began && is_active here x.request) (not (k == here.partition)) d.0 in
          let b = and_parts began (is_active here x.request) c.0 in
          both_true (is_run k && is_read k) (not (is_some (get x.came k)))
          (both_true (is_run k) (is_read k)
          (both_true (not (is_finished x.phase) && is_active here x.request) (not (k == here.partition)) (both_true (not (is_finished x.phase)) (is_active here x.request) (ap (λ f. not (is_finished f)) waits) b.1) c.1)
          d.1)
          e.1

  -- one that is done awaits nothing
  pub done_awaits : length (awaited here (record x { phase = Done })) ≤ length (awaited here x)
  done_awaits = no_more (awaits here x) (awaits here (record x { phase = Done })) (λ k h. absurd (false≢true h)) (range_with_len 0 here.partitions)

  from_there : (ks : List Key) (from : ℕ) → 0 < here.partitions → list_any (λ k. partition_of here.partitions k == from) ks ≡ true → from < here.partitions
  from_there [] from some h = absurd (false≢true h)
  from_there (k ∷ ks) from some h = elim (or_cases (partition_of here.partitions k == from) (list_any (λ k. partition_of here.partitions k == from) ks) h) [
    | inl this ↦ subst (λ n. n < here.partitions) (eqb-true (partition_of here.partitions k) from this) (mod_below k.id here.partitions some)
    | inr later ↦ from_there ks from some later
  ]

  module _ (from : ℕ) (rows : Rows Row) (is : awaits here x from ≡ true) where
    -- rows that came are awaited no more
    pub came_awaits : 0 < here.partitions → length (awaited here (with_rows from rows x)) + 1 ≤ length (awaited here x)
    came_awaits some = one_less (awaits here x) (awaits here (with_rows from rows x)) fewer from is stopped here.partitions there
      where
        there : from < here.partitions
        there =
            let e = and_parts (is_run from && is_read from) (not (is_some (get x.came from))) is in
            let d = and_parts (is_run from) (is_read from) e.0 in
            from_there x.request.sets.reads from some d.1

        stopped : awaits here (with_rows from rows x) from ≡ false
        stopped = ap (λ o. is_run from && is_read from && not (is_some o)) (insert_here nat_cmp nat_cmp_total exact_unsigned x.came from rows) ∙ and_false (is_run from && is_read from)

        fewer : (k : ℕ) → awaits here (with_rows from rows x) k ≡ true → awaits here x k ≡ true
        fewer k h = by_test (same_or_not nat_cmp nat_cmp_total exact_unsigned k from)
          where
            by_test : (k ≡ from) ⊎ (k ≢ from) → awaits here x k ≡ true
            by_test (inl same) = subst (λ n. awaits here x n ≡ true) (sym same) is
            by_test (inr far) = ap (λ o. is_run k && is_read k && not (is_some o)) (sym (insert_other nat_cmp nat_cmp_total exact_unsigned x.came from rows k far)) ∙ h

-- ---- the steps

pub less_of : (r : Ordering) → is_lt r ≡ true → r ≡ Less
less_of Less h = refl
less_of Equal h = absurd (false≢true h)
less_of Greater h = absurd (false≢true h)

past_on : (last : Option Place) (q n : Place) → IsPast last q → IsBefore q n → IsPast last n
past_on None q n past later = tt
past_on (Some a) q n past later = place_total.trans a q n past later

module _ {Args Row : Type 0} (here : Site) (s : Scheduling Args Row) (kept : FinMap {K = Place} place_cmp (Kept Args Row)) (locking : Locking) (is : IsScheduler here s kept locking) where
  asked_after : (q : Place) (x : Turn Args Row) (n : Place) → unreleased (with_turn s q x) n ≡ cond (eq_by_cmp place_cmp n q) (unreleased_at (Some x)) (unreleased s n)
  asked_after q x n = ap unreleased_at (get-insert place_total s.turns q x n) ∙ go (eq_by_cmp place_cmp n q)
    where
      go : (b : Bool) → unreleased_at (cond b (Some x) (get s.turns n)) ≡ cond b (unreleased_at (Some x)) (unreleased_at (get s.turns n))
      go true = refl
      go false = refl

  -- what is at a place after one was put
  roomy_after : (q : Place) (k : Kept Args Row) → length (awaited here k.turn) ≤ k.room → (n : Place) (j : Kept Args Row) → get (insert kept q k) n ≡ Some j → length (awaited here j.turn) ≤ j.room
  roomy_after q k fits n j there = by_test (same_or_not place_cmp place_total place_exact n q)
    where
      by_test : (n ≡ q) ⊎ (n ≢ q) → length (awaited here j.turn) ≤ j.room
      by_test (inl same) = subst (λ (i : Kept Args Row). length (awaited here i.turn) ≤ i.room) (same_Some k j (sym (ap (get (insert kept q k)) same ∙ insert_here place_cmp place_total place_exact kept q k) ∙ there)) fits
      by_test (inr far) = is.roomy n j (sym (insert_other place_cmp place_total place_exact kept q k n far) ∙ there)

  begun_after : (q : Place) (x : Turn Args Row) (l : Locking) → (x.phase ≡ Begun → IsReady l.requested q) → ((n : Place) → n ≢ q → IsReady locking.requested n → IsReady l.requested n)
      → (n : Place) (y : Turn Args Row) → get (insert s.turns q x) n ≡ Some y → y.phase ≡ Begun → IsReady l.requested n
  begun_after q x l own others n y there begun = by_test (same_or_not place_cmp place_total place_exact n q)
    where
      by_test : (n ≡ q) ⊎ (n ≢ q) → IsReady l.requested n
      by_test (inl same) = subst (IsReady l.requested) (sym same) (own (ap (λ (z : Turn Args Row). z.phase) (same_Some x y (sym (ap (get (insert s.turns q x)) same ∙ insert_here place_cmp place_total place_exact s.turns q x) ∙ there)) ∙ begun))
      by_test (inr far) = others n far (is.begun n y (sym (insert_other place_cmp place_total place_exact s.turns q x n far) ∙ there) begun)

  -- a request is admitted, and its locks are asked for
  pub keeps_admitted : (q : Place) (t : Txn Args) (k : Kept Args Row) → k.turn.request ≡ t → k.turn.phase ≡ Waiting → length (awaited here k.turn) ≤ k.room
      → IsUpToLast locking → IsPast locking.last q → IsScheduler here (record (with_turn s q k.turn) { last = Some q }) (insert kept q k) (with_request q (local_sets here t.sets) locking)
  keeps_admitted q t k request waits fits upto past = record {
    locked = locked_requested here (unreleased s) locking.requested is.locked (unreleased (with_turn s q k.turn)) q t.sets
        (λ n. asked_after q k.turn n ∙ ap (λ o. cond (eq_by_cmp place_cmp n q) o (unreleased s n)) (ap (unreleased_by k.turn.request.sets) waits ∙ ap (λ (u : Txn Args). Some u.sets) request));
    asked = λ n after. less_of (place_cmp q n) after;
    begun = begun_after q k.turn (with_request q (local_sets here t.sets) locking) (λ begun. absurd (not_waiting begun)) (λ n far ready. ready_with_request locking n q (local_sets here t.sets) ready (requested_before locking n q upto ready past));
    roomy = roomy_after q k fits;
  }
    where
      not_waiting : k.turn.phase ≡ Begun → ⊥
      not_waiting begun = let e : Begun ≡ Waiting = sym begun ∙ waits in absurd (cc)

  -- a request that has no key here is passed over
  pub keeps_passed : (q : Place) → IsPast locking.last q → IsScheduler here (record s { last = Some q }) kept locking
  keeps_passed q past = record { locked = is.locked; asked = λ n after. past_on locking.last q n past (less_of (place_cmp q n) after); begun = is.begun; roomy = is.roomy }

  -- the request at a place changed, and asks for what it asked for
  pub keeps_stepped : (q : Place) (x : Turn Args Row) (k : Kept Args Row) → get s.turns q ≡ Some x → unreleased_at (Some k.turn) ≡ unreleased_at (Some x) → (k.turn.phase ≡ Begun → IsReady locking.requested q)
      → length (awaited here k.turn) ≤ k.room → IsScheduler here (with_turn s q k.turn) (insert kept q k) locking
  keeps_stepped q x k there same ready fits = record {
    locked = locked_same here (unreleased s) locking.requested is.locked (unreleased (with_turn s q k.turn)) (λ n. asked_after q k.turn n ∙ unchanged n);
    asked = is.asked;
    begun = begun_after q k.turn locking ready (λ n far r. r);
    roomy = roomy_after q k fits;
  }
    where
      unchanged : (n : Place) → cond (eq_by_cmp place_cmp n q) (unreleased_at (Some k.turn)) (unreleased s n) ≡ unreleased s n
      unchanged n = go (eq_by_cmp place_cmp n q) refl
        where
          go : (b : Bool) → eq_by_cmp place_cmp n q ≡ b → cond b (unreleased_at (Some k.turn)) (unreleased s n) ≡ unreleased s n
          go true e = same ∙ ap unreleased_at (sym (ap (get s.turns) (one_place n q e) ∙ there))
          go false e = refl

  -- the request at a place is done, and its locks are released
  pub keeps_released : (q : Place) (k : Kept Args Row) → k.turn.phase ≡ Done → length (awaited here k.turn) ≤ k.room → IsScheduler here (with_turn s q k.turn) (insert kept q k) (without q locking)
  keeps_released q k done fits = record {
    locked = locked_released here (unreleased s) locking.requested is.locked (unreleased (with_turn s q k.turn)) q
        (λ n. asked_after q k.turn n ∙ ap (λ o. cond (eq_by_cmp place_cmp n q) o (unreleased s n)) (ap (unreleased_by k.turn.request.sets) done));
    asked = is.asked;
    begun = begun_after q k.turn (without q locking) (λ begun. absurd (not_done begun)) (λ n far ready. ready_without locking n q ready far);
    roomy = roomy_after q k fits;
  }
    where
      not_done : k.turn.phase ≡ Begun → ⊥
      not_done begun = let e : Begun ≡ Done = sym begun ∙ done in absurd (cc)

-- ---- the opening

module _ {Args Row : Type 0} (here : Site) (opened : ℕ) (store : Store Row) where
  at_first : IsScheduler here (scheduling_of {Args = Args} opened None empty store) empty no_locks
  at_first = record {
    locked = locked_none here (unreleased (scheduling_of opened None empty store)) (λ n. ap unreleased_at (nothing n));
    asked = λ q past. tt;
    begun = λ q x there begun. absurd (none-some x (sym (nothing q) ∙ there));
    roomy = λ q k there. absurd (none-some k (sym (get-empty place_cmp q) ∙ there));
  }
    where
      nothing : (n : Place) → get (turns_of (empty {X = Kept Args Row} {R = place_cmp})) n ≡ None
      nothing n = ap (λ m. get m n) no_turns ∙ get-empty place_cmp n

  pub keeps_opened : (kept : FinMap {K = Place} place_cmp (Kept Args Row)) (locking : Locking) → kept ≡ empty → locking ≡ no_locks → IsScheduler here (scheduling_of opened None kept store) kept locking
  keeps_opened kept locking none free = subst (λ l. IsScheduler here (scheduling_of opened None kept store) kept l) (sym free) (subst (λ m. IsScheduler here (scheduling_of opened None m store) m no_locks) (sym none) at_first)

-- ---- what is found

module _ {Args Row : Type 0} where
  pub found_or_not : (t : Option (Turn Args Row)) (o : Option (Bor (Kept Args Row))) → t ≡ option_map (λ k. k.turn) (option_copied o) → MatchOption o (t ≡ None) (λ k. t ≡ Some k.now.turn)
  found_or_not t None e = e
  found_or_not t (Some k) e = e
