-- Admitted requests in a list in which the places rise: what stands at a place, and what is put at the end.
use Rattle.std.proofs.Common.{◌≡◌, ℕ, zero, suc, ◌+◌, ◌<◌, ◌≤◌, Bool, true, false, cond, List, [], ◌∷◌, ◌++◌, length, get_or, Some, None, slice_get, slice_set, refl, sym, ap, subst, ◌∙◌, arith}
use Rattle.std.specs.Prelude.{T, Result, Ok, Err, MatchOption}
use Rattle.std.specs.List.Sorted.{IsNonDecreasingBy, IsBinarySearchResult, IsSearchInRange}
use Rattle.std.specs.Result.{result_ok}
use Rattle.std.specs.FinMap as map
use Rattle.std.specs.FinMap.Entries.{below_all, by_order, is_sorted-put}
use Rattle.std.specs.Cmp.{tied_itself}
use Rattle.std.specs.Ordering.{is_lt, is_eq, ordering_index, ordering_reverse}
use Rattle.std.specs.declared.cmp.Ordering.{Ordering}
use Rattle.std.specs.declared.cmp.Ordering.TheVariants.{Less, Equal, Greater}
use Rattle.std.proofs.lemmas.Bool.{false≢true}
use Rattle.std.proofs.lemmas.List.Sorted.{searchable_from_sorted}
use Rattle.std.proofs.lemmas.Option.{none-some, same_Some, slice_get-get_or, slice_get_within, get_or_from_slice_get}
use Rattle.calvin_types.specs.declared.place.Place.{Place}
use Rattle.calvin_types.specs.Exact.{first, second}
use Rattle.calvin_types.specs.Places.{place_cmp, IsBefore}
use Rattle.calvin_types.proofs.PlaceOrder.{place_total, place_exact}
use Rattle.calvin_sched.specs.Seating.{rising, seated, IsAt, IsPastAll}

holds : (b : Bool) → T b → b ≡ true
holds true h = refl
holds false h = absurd h

less : (o : Ordering) → is_lt o ≡ true → o ≡ Less
less Less h = refl
less Equal h = absurd (false≢true h)
less Greater h = absurd (false≢true h)

turned : (a b : Place) → IsBefore a b → place_cmp b a ≡ Greater
turned a b h = place_total.antisymm b a ∙ ap ordering_reverse h

not_less : (a b : Place) → IsBefore a b → is_lt (place_cmp b a) ≡ false
not_less a b h = ap is_lt (turned a b h)

module _ {X : Type 0} where
  -- a place that is before all is before each
  below_at : (a : Place) (es : List (Place × X)) (i : ℕ) (e : Place × X) → below_all place_cmp a es ≡ true → slice_get es i ≡ Some e → IsBefore a e.0
  below_at a [] i e h at = absurd (none-some e at)
  below_at a (x ∷ es) zero e h at = ap (λ (y : Place × X). place_cmp a y.0) (sym (same_Some x e at)) ∙ less _ (first _ _ h)
  below_at a (x ∷ es) (suc i) e h at = below_at a es i e (second _ _ h) at

  rises_at : (es : List (Place × X)) (i j : ℕ) (a b : Place × X) → map.is_sorted place_cmp es ≡ true → slice_get es i ≡ Some a → slice_get es j ≡ Some b → i < j → IsBefore a.0 b.0
  rises_at [] i j a b h first_at at lower = absurd (none-some a first_at)
  rises_at (x ∷ es) i zero a b h first_at at lower = absurd (omega (arith, lower))
  rises_at (x ∷ es) zero (suc j) a b h first_at at lower = subst (λ (y : Place × X). IsBefore y.0 b.0) (same_Some x a first_at) (below_at x.0 es j b (first _ _ h) at)
  rises_at (x ∷ es) (suc i) (suc j) a b h first_at at lower = rises_at es i j a b (second _ _ h) first_at at (omega (arith, lower))

  -- ---- what stands at a place

  find_there : (es : List (Place × X)) (i : ℕ) (q : Place) (v : X) → map.is_sorted place_cmp es ≡ true → slice_get es i ≡ Some (q, v) → map.find place_cmp q es ≡ Some v
  find_there [] i q v h at = absurd (none-some _ at)
  find_there (e ∷ es) zero q v h at =
      let same = same_Some e (q, v) at in
      ap (λ o. cond (is_eq o) (Some e.1) (map.find place_cmp q es)) (ap (λ (y : Place × X). place_cmp q y.0) same ∙ tied_itself place_total q) ∙ ap (λ (y : Place × X). Some y.1) same
  find_there (e ∷ es) (suc i) q v h at =
      ap (λ o. cond (is_eq o) (Some e.1) (map.find place_cmp q es)) (turned e.0 q (below_at e.0 es i (q, v) (first _ _ h) at)) ∙ find_there es i q v (second _ _ h) at

  put_there : (es : List (Place × X)) (i : ℕ) (q : Place) (v w : X) → map.is_sorted place_cmp es ≡ true → slice_get es i ≡ Some (q, v) → map.put place_cmp q w es ≡ slice_set es i (q, w)
  put_there [] i q v w h at = absurd (none-some _ at)
  put_there (e ∷ es) zero q v w h at =
      let same = same_Some e (q, v) at in
      ap (λ (o : Ordering). by_order o ((q, w) ∷ e ∷ es) ((e.0, w) ∷ es) (e ∷ map.put place_cmp q w es)) (ap (λ (y : Place × X). place_cmp q y.0) same ∙ tied_itself place_total q)
      ∙ ap (λ (y : Place × X). (y.0, w) ∷ es) same
  put_there (e ∷ es) (suc i) q v w h at =
      ap (λ (o : Ordering). by_order o ((q, w) ∷ e ∷ es) ((e.0, w) ∷ es) (e ∷ map.put place_cmp q w es)) (turned e.0 q (below_at e.0 es i (q, v) (first _ _ h) at))
      ∙ ap (λ xs. e ∷ xs) (put_there es i q v w (second _ _ h) at)

  -- ---- the map that they show

  entries_seated : (es : List (Place × X)) → rising es → map.entries (seated es) ≡ es
  entries_seated es h = map.entries-from_sorted place_cmp es h

  -- no requests show the empty map
  pub seated_none : seated {X = X} [] ≡ map.empty
  seated_none = map.empty_of_len (seated {X = X} []) (map.len-entries (seated {X = X} []) ∙ ap length (entries_seated [] tt))

  pub rising_put : (es : List (Place × X)) (q : Place) (v : X) → rising es → rising (map.put place_cmp q v es)
  rising_put es q v h = is_sorted-put place_cmp place_total q v es h

  pub seated_put : (es : List (Place × X)) (q : Place) (v : X) → rising es → seated (map.put place_cmp q v es) ≡ map.insert (seated es) q v
  seated_put es q v h = map.same_entries_map _ _ (entries_seated _ (rising_put es q v h) ∙ ap (map.put place_cmp q v) (sym (entries_seated es h)) ∙ sym (map.entries-insert place_total (seated es) q v))

  pub got : (es : List (Place × X)) (q : Place) → rising es → map.get (seated es) q ≡ map.find place_cmp q es
  got es q h = map.get-from_sorted place_cmp es q h

  pub missing_there : (es : List (Place × X)) (q : Place) → rising es → map.find place_cmp q es ≡ None → map.get (seated es) q ≡ None
  missing_there es q h missing = got es q h ∙ missing

  -- the value that stands beside a place is the place's in the map
  pub got_at : (es : List (Place × X)) (i : ℕ) (q : Place) (v : X) → rising es → slice_get es i ≡ Some (q, v) → map.get (seated es) q ≡ Some v
  got_at es i q v h at = got es q h ∙ find_there es i q v (holds _ h) at

  -- a value that is written where a place stands is put there
  pub put_is_set : (es : List (Place × X)) (i : ℕ) (q : Place) (v w : X) → rising es → slice_get es i ≡ Some (q, v) → map.put place_cmp q w es ≡ slice_set es i (q, w)
  put_is_set es i q v w h at = put_there es i q v w (holds _ h) at

  -- a seat that was read there, and into which a value is written: so the value is the place's in the map
  module _ (es : List (Place × X)) (i : ℕ) (q : Place) (v : X) (h : rising es) (at : slice_get es i ≡ Some (q, v)) (seat : Place × X) (read : seat ≡ get_or es i seat) (w : X) where
    pub seat_is : seat ≡ (q, v)
    seat_is = read ∙ get_or_from_slice_get es i (q, v) seat at

    rewritten : slice_set es i (seat.0, w) ≡ map.put place_cmp q w es
    rewritten = ap (λ (y : Place × X). slice_set es i (y.0, w)) seat_is ∙ sym (put_is_set es i q v w h at)

    pub written_rises : rising (slice_set es i (seat.0, w))
    written_rises = subst rising (sym rewritten) (rising_put es q w h)

    pub written : seated (slice_set es i (seat.0, w)) ≡ map.insert (seated es) q w
    written = ap seated rewritten ∙ seated_put es q w h

  -- ---- a search

  searchable : (es : List (Place × X)) (q : Place) → rising es → IsNonDecreasingBy (λ (y : Place × X). ordering_index (place_cmp y.0 q)) es
  searchable es q h = searchable_from_sorted place_total (λ (y : Place × X). y.0) es q (λ k d from lower.
      not_less (get_or es k d).0 (get_or es (k + 1) d).0 (rises_at es k (k + 1) (get_or es k d) (get_or es (k + 1) d) (holds _ h) (slice_get-get_or es k d (omega (arith, lower))) (slice_get-get_or es (k + 1) d lower) (omega arith)))

  -- what is met there stands there
  at_equal : (es : List (Place × X)) (q : Place) (i : ℕ) → i < length es → ((d : Place × X) → place_cmp (get_or es i d).0 q ≡ Equal) → IsAt q es i
  at_equal [] q i within equal = absurd (omega (arith, within))
  at_equal (e ∷ es) q i within equal =
      let x = get_or (e ∷ es) i e in
      (x.1, slice_get-get_or (e ∷ es) i e within ∙ ap (λ (p : Place). Some (p, x.1)) (place_exact x.0 q (equal e)))

  find_missing : (es : List (Place × X)) (q : Place) (i : ℕ) → ((k : ℕ) (e : Place × X) → slice_get es k ≡ Some e → k < i → IsBefore e.0 q) → ((k : ℕ) (e : Place × X) → slice_get es k ≡ Some e → i ≤ k → IsBefore q e.0) → map.find place_cmp q es ≡ None
  find_missing [] q i front back = refl
  find_missing (e ∷ es) q zero front back =
      ap (λ o. cond (is_eq o) (Some e.1) (map.find place_cmp q es)) (back 0 e refl (omega arith))
      ∙ find_missing es q zero (λ k x at lower. absurd (omega (arith, lower))) (λ k x at most. back (suc k) x at (omega arith))
  find_missing (e ∷ es) q (suc i) front back =
      ap (λ o. cond (is_eq o) (Some e.1) (map.find place_cmp q es)) (turned e.0 q (front 0 e refl (omega arith)))
      ∙ find_missing es q i (λ k x at lower. front (suc k) x at (omega (arith, lower))) (λ k x at most. back (suc k) x at (omega (arith, most)))

  -- what isn't met is missing
  missing_between : (es : List (Place × X)) (q : Place) (i : ℕ) → ((k : ℕ) (d : Place × X) → 0 ≤ k → k < i → place_cmp (get_or es k d).0 q ≡ Less) → ((k : ℕ) (d : Place × X) → i ≤ k → k < length es → place_cmp (get_or es k d).0 q ≡ Greater) → map.find place_cmp q es ≡ None
  missing_between es q i front back =
      find_missing es q i (λ k e at lower. subst (λ (x : Place × X). IsBefore x.0 q) (get_or_from_slice_get es k e e at) (front k e (omega arith) lower))
      (λ k e at most. subst (λ (x : Place × X). IsBefore q x.0) (get_or_from_slice_get es k e e at)
      (place_total.antisymm q (get_or es k e).0 ∙ ap ordering_reverse (back k e most (slice_get_within es k e at))))

  pub searched : (es : List (Place × X)) (q : Place) (r : Result ℕ ℕ) → rising es → IsSearchInRange r (length es) → IsBinarySearchResult (λ (y : Place × X). place_cmp y.0 q) es r → MatchOption (result_ok r) (map.find place_cmp q es ≡ None) (IsAt q es)
  searched es q (Ok i) h within found = at_equal es q i within found
  searched es q (Err i) h within found = let point = found (searchable es q h) in missing_between es q i point.0 point.1

  -- ---- past all

  put_past : (es : List (Place × X)) (q : Place) (w : X) → ((k : ℕ) (e : Place × X) → slice_get es k ≡ Some e → IsBefore e.0 q) → es ++ (q, w) ∷ [] ≡ map.put place_cmp q w es
  put_past [] q w past = refl
  put_past (e ∷ es) q w past =
      ap (λ xs. e ∷ xs) (put_past es q w (λ k x at. past (suc k) x at))
      ∙ sym (ap (λ (o : Ordering). by_order o ((q, w) ∷ e ∷ es) ((e.0, w) ∷ es) (e ∷ map.put place_cmp q w es)) (turned e.0 q (past 0 e refl)))

  -- what is put past all stands at the end
  pub put_last : (es : List (Place × X)) (q : Place) (w : X) → rising es → IsPastAll q (seated es) → es ++ (q, w) ∷ [] ≡ map.put place_cmp q w es
  put_last es q w h past = put_past es q w (λ k e at. past e.0 e.1 (got_at es k e.0 e.1 h at))
