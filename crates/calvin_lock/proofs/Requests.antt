-- A list of requests in the order of their places, beside the finite map that it is.
use Rattle.std.proofs.Common.{◌≡◌, ℕ, zero, suc, ◌+◌, ◌<◌, ◌≤◌, Bool, true, false, cond, T, inl, inr, List, [], ◌∷◌, ◌++◌, Option, Some, None, is_some, slice_get, length, refl, sym, ap, subst, ◌∙◌, arith}
use Rattle.std.proofs.lemmas.Bool.{false≢true, cases_lt}
use Rattle.std.proofs.lemmas.Option.{none-some, same_Some, slice_get_within}
use Rattle.std.specs.declared.cmp.Ordering.{Ordering}
use Rattle.std.specs.declared.cmp.Ordering.TheVariants.{Less, Equal, Greater}
use Rattle.std.specs.Ordering.{is_lt, eq_by_cmp}
use Rattle.std.specs.List.{remove}
use Rattle.std.specs.FinMap as map
use Rattle.std.specs.FinMap.{find, is_sorted, get, from_entries, get-from_entries, get-remove, same_map, from_entries_push}
use Rattle.std.specs.FinMap.Entries.{below_all}
use Rattle.calvin_types.specs.declared.key_set.Sets.{Sets}
use Rattle.calvin_types.specs.declared.place.Place.{Place}
use Rattle.calvin_types.specs.Places.{place_cmp, IsBefore}
use Rattle.calvin_lock.specs.Ready.{Conflict, IsReady, IsPast, IsFirstReady}
use Rattle.calvin_lock.specs.Locking.{IsUpToLast}
use Rattle.calvin_lock.specs.ListOrder.{UpTo, IsAt, IsFree, IsInOrder}
use Rattle.calvin_types.proofs.PlaceOrder.{place_total, place_exact, not_before_itself, not_both, one_place, same_itself, not_same}
use Rattle.calvin_types.proofs.Conjunctions.{first, second, both, less}

is_less : (o : Ordering) → o ≡ Less → T (is_lt o)
is_less o h = subst (λ r. T (is_lt r)) (sym h) tt

pub not_found : (b : Bool) (X : Type 0) (x : X) (o : Option X) → (b ≡ true → ⊥) → cond b (Some x) o ≡ o
not_found true X x o h = absurd (h refl)
not_found false X x o h = refl

module _ {X : Type 0} where
  -- a place below all is below each
  pub below_at : (q : Place) (es : List (Place × X)) (i : ℕ) (e : Place × X) → T (below_all place_cmp q es) → slice_get es i ≡ Some e → IsBefore q e.0
  below_at q [] i e h at = absurd (none-some e at)
  below_at q (x ∷ es) zero e h at = less (place_cmp q e.0) (subst (λ (y : Place × X). T (is_lt (place_cmp q y.0))) (same_Some x e at) (first _ (below_all place_cmp q es) h))
  below_at q (x ∷ es) (suc i) e h at = below_at q es i e (second (is_lt (place_cmp q x.0)) _ h) at

  -- what a search finds stands somewhere
  pub found_index : (es : List (Place × X)) (q : Place) (h : X) → find place_cmp q es ≡ Some h → (i : ℕ) × (slice_get es i ≡ Some (q, h))
  found_index [] q h is = absurd (none-some h is)
  found_index (e ∷ es) q h is = go (eq_by_cmp place_cmp q e.0) refl is (λ rest. found_index es q h rest)
    where
      go : (b : Bool) → eq_by_cmp place_cmp q e.0 ≡ b → cond b (Some e.1) (find place_cmp q es) ≡ Some h → (find place_cmp q es ≡ Some h → (i : ℕ) × (slice_get es i ≡ Some (q, h))) → (i : ℕ) × (slice_get (e ∷ es) i ≡ Some (q, h))
      go true same at more = (0, λ i. Some (sym (one_place q e.0 same) i, same_Some e.1 h at i))
      go false other at more = let there = more at in (suc there.0, there.1)

  -- a search for a place below all finds nothing
  pub below_unfound : (q : Place) (es : List (Place × X)) → T (below_all place_cmp q es) → find place_cmp q es ≡ None
  below_unfound q [] h = refl
  below_unfound q (e ∷ es) h =
      not_found (eq_by_cmp place_cmp q e.0) X e.1 (find place_cmp q es) (λ same. not_same q e.0 (less (place_cmp q e.0) (first _ (below_all place_cmp q es) h)) same)
      ∙ below_unfound q es (second (is_lt (place_cmp q e.0)) _ h)

  -- in a list that rises, what stands somewhere is found
  pub index_found : (es : List (Place × X)) (i : ℕ) (e : Place × X) → T (is_sorted place_cmp es) → slice_get es i ≡ Some e → find place_cmp e.0 es ≡ Some e.1
  index_found [] i e h at = absurd (none-some e at)
  index_found (x ∷ es) zero e h at = subst (λ (y : Place × X). find place_cmp e.0 (y ∷ es) ≡ Some e.1) (sym (same_Some x e at)) (ap (λ b. cond b (Some e.1) (find place_cmp e.0 es)) (same_itself e.0))
  index_found (x ∷ es) (suc i) e h at =
      not_found (eq_by_cmp place_cmp e.0 x.0) X x.1 (find place_cmp e.0 es)
      (λ same. let before = below_at x.0 es i e (first _ (is_sorted place_cmp es) h) at in not_before_itself x.0 (subst (λ q. IsBefore x.0 q) (one_place e.0 x.0 same) before))
      ∙ index_found es i e (second (below_all place_cmp x.0 es) _ h) at

  -- an earlier place stands earlier
  pub before_index : (es : List (Place × X)) (i j : ℕ) (e f : Place × X) → T (is_sorted place_cmp es) → slice_get es i ≡ Some e → slice_get es j ≡ Some f → IsBefore f.0 e.0 → j < i
  before_index [] i j e f h at there before = absurd (none-some e at)
  before_index (x ∷ es) zero zero e f h at there before = absurd (not_before_itself e.0 (subst (λ (y : Place × X). IsBefore y.0 e.0) (sym (same_Some x f there) ∙ same_Some x e at) before))
  before_index (x ∷ es) zero (suc j) e f h at there before =
      absurd (not_both e.0 f.0 (subst (λ (y : Place × X). IsBefore y.0 f.0) (same_Some x e at) (below_at x.0 es j f (first _ (is_sorted place_cmp es) h) there)) before)
  before_index (x ∷ es) (suc i) zero e f h at there before = omega arith
  before_index (x ∷ es) (suc i) (suc j) e f h at there before = let less = before_index es i j e f (second (below_all place_cmp x.0 es) _ h) at there before in omega (arith, less)

  -- and what stands earlier is at an earlier place
  pub index_before : (es : List (Place × X)) (i j : ℕ) (e f : Place × X) → T (is_sorted place_cmp es) → slice_get es i ≡ Some e → slice_get es j ≡ Some f → j < i → IsBefore f.0 e.0
  index_before [] i j e f h at there less = absurd (none-some e at)
  index_before (x ∷ es) zero j e f h at there less = absurd (omega (arith, less))
  index_before (x ∷ es) (suc i) zero e f h at there less = subst (λ (y : Place × X). IsBefore y.0 e.0) (same_Some x f there) (below_at x.0 es i e (first _ (is_sorted place_cmp es) h) at)
  index_before (x ∷ es) (suc i) (suc j) e f h at there less = index_before es i j e f (second (below_all place_cmp x.0 es) _ h) at there (omega (arith, less))

  -- what rises does so without one of its requests
  below_without : (q : Place) (es : List (Place × X)) (i : ℕ) → T (below_all place_cmp q es) → T (below_all place_cmp q (remove es i))
  below_without q [] zero h = tt
  below_without q [] (suc i) h = tt
  below_without q (x ∷ es) zero h = second (is_lt (place_cmp q x.0)) _ h
  below_without q (x ∷ es) (suc i) h = both _ _ (first _ (below_all place_cmp q es) h) (below_without q es i (second (is_lt (place_cmp q x.0)) _ h))

  rising_without : (es : List (Place × X)) (i : ℕ) → T (is_sorted place_cmp es) → T (is_sorted place_cmp (remove es i))
  rising_without [] zero h = tt
  rising_without [] (suc i) h = tt
  rising_without (x ∷ es) zero h = second (below_all place_cmp x.0 es) _ h
  rising_without (x ∷ es) (suc i) h = both _ _ (below_without x.0 es i (first _ (is_sorted place_cmp es) h)) (rising_without es i (second (below_all place_cmp x.0 es) _ h))

  -- and a search then finds all but that one
  pub find_without : (es : List (Place × X)) (i : ℕ) (e : Place × X) (q : Place) → T (is_sorted place_cmp es) → slice_get es i ≡ Some e → find place_cmp q (remove es i) ≡ cond (eq_by_cmp place_cmp q e.0) None (find place_cmp q es)
  find_without [] i e q h at = absurd (none-some e at)
  find_without (x ∷ es) zero e q h at = go (eq_by_cmp place_cmp q e.0) refl
    where
      same : x ≡ e
      same = same_Some x e at

      go : (b : Bool) → eq_by_cmp place_cmp q e.0 ≡ b → find place_cmp q es ≡ cond b None (find place_cmp q (x ∷ es))
      go true is = ap (λ p. find place_cmp p es) (one_place q e.0 is ∙ ap (λ y. y.0) (sym same)) ∙ below_unfound x.0 es (first _ (is_sorted place_cmp es) h)
      go false other = sym (not_found (eq_by_cmp place_cmp q x.0) X x.1 (find place_cmp q es) (λ is. false≢true (sym other ∙ ap (λ (y : Place × X). eq_by_cmp place_cmp q y.0) (sym same) ∙ is)))
  find_without (x ∷ es) (suc i) e q h at = ap (cond (eq_by_cmp place_cmp q x.0) (Some x.1)) (find_without es i e q (second (below_all place_cmp x.0 es) _ h) at) ∙ go (eq_by_cmp place_cmp q x.0) refl (eq_by_cmp place_cmp q e.0) refl
    where
      go : (b : Bool) → eq_by_cmp place_cmp q x.0 ≡ b → (c : Bool) → eq_by_cmp place_cmp q e.0 ≡ c → cond b (Some x.1) (cond c None (find place_cmp q es)) ≡ cond c None (cond b (Some x.1) (find place_cmp q es))
      go true is true also =
          let before = below_at x.0 es i e (first _ (is_sorted place_cmp es) h) at in
          absurd (not_before_itself e.0 (subst (λ p. IsBefore p e.0) (sym (one_place q x.0 is) ∙ one_place q e.0 also) before))
      go true is false other = refl
      go false other c is = refl

  -- what rises does so with one more behind all
  below_push : (q p : Place) (h : X) (es : List (Place × X)) → T (below_all place_cmp q es) → IsBefore q p → T (below_all place_cmp q (es ++ (p, h) ∷ []))
  below_push q p h [] all before = both _ _ (is_less _ before) tt
  below_push q p h (x ∷ es) all before = both _ _ (first _ (below_all place_cmp q es) all) (below_push q p h es (second (is_lt (place_cmp q x.0)) _ all) before)

-- a place past another comes after those that aren't
pub past_before : (last : Option Place) (p q : Place) → ¬ IsPast last p → IsPast last q → IsBefore p q
past_before None p q upto past = absurd (upto tt)
past_before (Some a) p q upto past = go (place_cmp p a) refl
  where
    go : (o : Ordering) → place_cmp p a ≡ o → IsBefore p q
    go Less is = place_total.trans p a q is past
    go Equal is = subst (λ x. IsBefore x q) (sym (place_exact p a is)) past
    go Greater is = absurd (upto (place_total.antisymm a p ∙ ap Rattle.std.specs.Ordering.ordering_reverse is))

-- requests up to a place come before each place past it
rising_push : (last : Option Place) (q : Place) (h : Sets) (es : List (Place × Sets)) → T (is_sorted place_cmp es) → UpTo last es → IsPast last q → T (is_sorted place_cmp (es ++ (q, h) ∷ []))
rising_push last q h [] rising upto past = tt
rising_push last q h (x ∷ es) rising upto past = both _ _
    (below_push x.0 q h es (first _ (is_sorted place_cmp es) rising) (past_before last x.0 q upto.0 past))
    (rising_push last q h es (second (below_all place_cmp x.0 es) _ rising) upto.1 past)

up_to_push : (last : Option Place) (q : Place) (h : Sets) (es : List (Place × Sets)) → UpTo last es → IsPast last q → UpTo (Some q) (es ++ (q, h) ∷ [])
up_to_push last q h [] upto past = (λ before. not_before_itself q before, tt)
up_to_push last q h (x ∷ es) upto past = (λ before. not_both q x.0 before (past_before last x.0 q upto.0 past), up_to_push last q h es upto.1 past)

pub unfound : (last : Option Place) (q : Place) (es : List (Place × Sets)) → UpTo last es → IsPast last q → find place_cmp q es ≡ None
unfound last q [] upto past = refl
unfound last q (x ∷ es) upto past =
    not_found (eq_by_cmp place_cmp q x.0) Sets x.1 (find place_cmp q es) (λ same. not_before_itself x.0 (subst (λ p. IsBefore x.0 p) (one_place q x.0 same) (past_before last x.0 q upto.0 past)))
    ∙ unfound last q es upto.1 past

up_to_without : (last : Option Place) (es : List (Place × Sets)) (i : ℕ) → UpTo last es → UpTo last (remove es i)
up_to_without last [] zero upto = tt
up_to_without last [] (suc i) upto = tt
up_to_without last (x ∷ es) zero upto = upto.1
up_to_without last (x ∷ es) (suc i) upto = (upto.0, up_to_without last es i upto.1)

-- requests stay in order with one more past the last, and without one
pub in_order_push : (es : List (Place × Sets)) (last : Option Place) (q : Place) (h : Sets) → IsInOrder es last → IsPast last q → IsInOrder (es ++ (q, h) ∷ []) (Some q)
in_order_push es last q h order past = record { rising = rising_push last q h es order.rising order.up_to past; up_to = up_to_push last q h es order.up_to past }

pub in_order_without : (es : List (Place × Sets)) (last : Option Place) (i : ℕ) → IsInOrder es last → IsInOrder (remove es i) last
in_order_without es last i order = record { rising = rising_without es i order.rising; up_to = up_to_without last es i order.up_to }

-- and the map follows
pub pushed : (es : List (Place × Sets)) (last : Option Place) (q : Place) (h : Sets) → IsInOrder es last → IsPast last q → from_entries {R = place_cmp} (es ++ (q, h) ∷ []) ≡ map.insert (from_entries es) q h
pushed es last q h order past = from_entries_push place_total place_exact es q h (unfound last q es order.up_to past)

pub removed : (es : List (Place × Sets)) (i : ℕ) (e : Place × Sets) → T (is_sorted place_cmp es) → slice_get es i ≡ Some e → from_entries {R = place_cmp} (remove es i) ≡ map.remove (from_entries es) e.0
removed es i e rising at = same_map place_total place_exact _ _ (λ q.
    get-from_entries place_total (remove es i) q ∙ find_without es i e q rising at
    ∙ sym (get-remove place_total (from_entries es) e.0 q ∙ ap (cond (eq_by_cmp place_cmp q e.0) None) (get-from_entries place_total es q)))

-- what holds below a number and at it holds below the next one
pub next_below : (P : ℕ → Type 0) (i : ℕ) → ((k : ℕ) → k < i → P k) → P i → (k : ℕ) → k < i + 1 → P k
next_below P i all here k within = elim (cases_lt k i) [
  | inl below ↦ all k below
  | inr above ↦ let same : i ≡ k = omega (arith, within, above) in subst P same here
]

-- a request that stands nowhere in a list isn't found
pub unfound_anywhere : (es : List (Place × Sets)) (q : Place) (n : ℕ) → length es ≤ n → ((k : ℕ) (e : Place × Sets) → k < n → slice_get es k ≡ Some e → ¬ (e.0 ≡ q)) → find place_cmp q es ≡ None
unfound_anywhere es q n past nowhere = go (find place_cmp q es) refl
  where
    go : (o : Option Sets) → find place_cmp q es ≡ o → find place_cmp q es ≡ None
    go None is = is
    go (Some h) is =
        let there = found_index es q h is in
        let within = slice_get_within es there.0 (q, h) there.1 in
        absurd (nowhere there.0 (q, h) (omega (arith, within, past)) there.1 refl)

-- none of the first requests of a list is both past a place and ready
abbrev pub NoneReady : Option Place → List (Place × Sets) → ℕ → Type 0
NoneReady after es n = (k : ℕ) (f : Place × Sets) → k < n → slice_get es k ≡ Some f → IsPast after f.0 → ¬ IsReady (from_entries es) f.0

module _ (es : List (Place × Sets)) (rising : T (is_sorted place_cmp es)) where
  -- what stands in the list is requested there, and back
  pub requested_at : (i : ℕ) (e : Place × Sets) → slice_get es i ≡ Some e → get (from_entries {R = place_cmp} es) e.0 ≡ Some e.1
  requested_at i e at = get-from_entries place_total es e.0 ∙ index_found es i e rising at

  pub stands : (q : Place) (h : Sets) → get (from_entries {R = place_cmp} es) q ≡ Some h → (i : ℕ) × (slice_get es i ≡ Some (q, h))
  stands q h is = found_index es q h (sym (get-from_entries place_total es q) ∙ is)

  -- a request is ready where no earlier one of the list conflicts with it
  pub free_ready : (i : ℕ) (e : Place × Sets) → slice_get es i ≡ Some e → IsFree es i → IsReady (from_entries es) e.0
  free_ready i e at free = (
    e.1,
    requested_at i e at,
    λ n g there before c.
        let other = stands n g there in
        free other.0 (n, g) e (before_index es i other.0 e (n, g) rising at other.1 before) other.1 at c,
  )

  pub ready_free : (i : ℕ) (e : Place × Sets) → slice_get es i ≡ Some e → IsReady (from_entries es) e.0 → IsFree es i
  ready_free i e at ready j x f less there here c =
      let same : e ≡ f = same_Some e f (sym at ∙ here) in
      let sets : e.1 ≡ ready.0 = same_Some e.1 ready.0 (sym (requested_at i e at) ∙ ready.1) in
      ready.2 x.0 x.1 (requested_at j x there) (index_before es i j e x rising at there less) (subst (λ h. Conflict x.1 h) (ap (λ y. y.1) (sym same) ∙ sets) c)

  pub ready_at : (q : Place) (i : ℕ) → IsAt es q i → IsFree es i → IsReady (from_entries es) q
  ready_at q i (h, at) free = free_ready i (q, h) at free

  pub free_at : (q : Place) (i : ℕ) → IsAt es q i → IsReady (from_entries es) q → IsFree es i
  free_at q i (h, at) ready = ready_free i (q, h) at ready

  -- what isn't found isn't ready
  pub unfound_unready : (q : Place) → find place_cmp q es ≡ None → IsReady (from_entries es) q → ⊥
  unfound_unready q none ready = none-some ready.0 (sym none ∙ sym (get-from_entries place_total es q) ∙ ready.1)

  module _ (after : Option Place) where
    -- the first ready one past a place is the least one
    pub first_at : (i : ℕ) (e : Place × Sets) → slice_get es i ≡ Some e → IsPast after e.0 → IsFree es i → NoneReady after es i → IsFirstReady (from_entries es) after (Some e.0)
    first_at i e at past free none = (
      past,
      free_ready i e at free,
      λ q beyond ready before.
          let there = stands q ready.0 ready.1 in
          none there.0 (q, ready.0) (before_index es i there.0 e (q, ready.0) rising at there.1 before) there.1 beyond ready,
    )

    -- and where there is none, none is ready
    pub none_at : (n : ℕ) → length es ≤ n → NoneReady after es n → IsFirstReady (from_entries es) after None
    none_at n past none q beyond ready =
        let there = stands q ready.0 ready.1 in
        let within = slice_get_within es there.0 (q, ready.0) there.1 in
        none there.0 (q, ready.0) (omega (arith, within, past)) there.1 beyond ready

    pub none_next : (i : ℕ) (e : Place × Sets) → slice_get es i ≡ Some e → (IsPast after e.0 → IsFree es i → ⊥) → NoneReady after es i → NoneReady after es (i + 1)
    none_next i e at neither none =
        let P : ℕ → Type 0 = λ k. (f : Place × Sets) → slice_get es k ≡ Some f → IsPast after f.0 → ¬ IsReady (from_entries es) f.0 in
        let all = next_below P i (λ k less f. none k f less) (λ f there past ready.
        let same : e ≡ f = same_Some e f (sym at ∙ there) in
        neither (subst (λ (y : Place × Sets). IsPast after y.0) (sym same) past) (ready_free i f there ready)) in
        λ k f less. all k less f

-- no requested place of a list in order is past the last one
up_to_at : (last : Option Place) (es : List (Place × Sets)) (i : ℕ) (e : Place × Sets) → UpTo last es → slice_get es i ≡ Some e → ¬ IsPast last e.0
up_to_at last [] i e upto at = absurd (none-some e at)
up_to_at last (x ∷ es) zero e upto at = subst (λ (y : Place × Sets). ¬ IsPast last y.0) (same_Some x e at) upto.0
up_to_at last (x ∷ es) (suc i) e upto at = up_to_at last es i e upto.1 at

pub up_to_last : (es : List (Place × Sets)) (last : Option Place) → IsInOrder es last → IsUpToLast (record { requested = from_entries es; last = last })
up_to_last es last order q some = go (get (from_entries {R = place_cmp} es) q) refl
  where
    go : (o : Option Sets) → get (from_entries {R = place_cmp} es) q ≡ o → ¬ IsPast last q
    go None is = absurd (false≢true (sym (ap is_some is) ∙ some))
    go (Some h) is = let there = stands es order.rising q h is in up_to_at last es there.0 (q, h) order.up_to there.1
