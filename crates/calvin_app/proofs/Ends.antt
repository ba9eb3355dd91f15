-- Rising entries: a key above the last one is put at their end; what is found of a key from the entries beside it.
use Rattle.std.proofs.Common.{◌≡◌, ℕ, zero, suc, Bool, true, false, cond, List, [], ◌∷◌, ◌++◌, length, drop, add-one, ◌+◌, Option, Some, None, slice_get, refl, sym, ◌∙◌, ap, arith}
use Rattle.std.specs.Prelude.{T}
use Rattle.std.specs.Option.{is_some}
use Rattle.std.specs.Bool.{passes}
use Rattle.std.proofs.lemmas.Bool.{false≢true}
use Rattle.std.specs.FinMap as map
use Rattle.std.specs.FinMap.Entries.{below_all, by_order}
use Rattle.std.specs.List.{insert}
use Rattle.std.specs.Ordering.{is_lt, is_eq, ordering_reverse}
use Rattle.std.specs.declared.cmp.Ordering.{Ordering}
use Rattle.std.specs.declared.cmp.Ordering.TheVariants.{Less, Equal, Greater}
use Rattle.std.proofs.lemmas.List.{drop_all, take_all}
use Rattle.calvin_types.specs.declared.key.Key.{Key}
use Rattle.calvin_types.specs.Exact.{first, second, both}
use Rattle.calvin_types.specs.Keys.{key_cmp}
use Rattle.calvin_types.specs.KeyOrder.{key_cmp_exact, key_cmp_total}
use Rattle.calvin_types.proofs.Risings.{less}
use Rattle.calvin_app.specs.Entries.{rising}
use Rattle.calvin_app.specs.EntryPlaces.{IsMissingAt}

pub holds : (b : Bool) → T b → b ≡ true
holds true h = refl
holds false h = absurd h

-- a key that is below all entries is below each
pub below_at : {Row : Type 0} (a : Key) (es : List (Key × Row)) (i : ℕ) (e : Key × Row) → below_all key_cmp a es ≡ true → slice_get es i ≡ Some e → key_cmp a e.0 ≡ Less
below_at {Row} a [] i e h here = absurd (cc)
below_at {Row} a (x ∷ es) zero e h here = let same : x ≡ e = cc in ap (λ (y : Key × Row). key_cmp a y.0) (sym same) ∙ less _ (first _ _ h)
below_at {Row} a (x ∷ es) (suc i) e h here = below_at a es i e (second _ _ h) here

-- a key above a later entry is above an earlier one
above : (a b k : Key) → key_cmp a b ≡ Less → key_cmp k b ≡ Greater → key_cmp k a ≡ Greater
above a b k low high = key_cmp_total.antisymm k a ∙ ap ordering_reverse (key_cmp_total.trans a b k low (key_cmp_total.antisymm b k ∙ ap ordering_reverse high))

at_end : {Row : Type 0} (k : Key) (r : Row) (es : List (Key × Row)) (i : ℕ) (e : Key × Row) → map.is_sorted key_cmp es ≡ true → slice_get es i ≡ Some e → suc i ≡ length es → key_cmp k e.0 ≡ Greater → map.put key_cmp k r es ≡ es ++ (k, r) ∷ []
at_end {Row} k r [] i e h here end high = absurd (cc)
at_end {Row} k r (x ∷ []) zero e h here end high = let same : x ≡ e = cc in ap (λ o. by_order o ((k, r) ∷ x ∷ []) ((x.0, r) ∷ []) (x ∷ (k, r) ∷ [])) (ap (λ (y : Key × Row). key_cmp k y.0) same ∙ high)
at_end {Row} k r (x ∷ y ∷ es) zero e h here end high = absurd (omega (arith, end))
at_end {Row} k r (x ∷ es) (suc i) e h here end high =
    ap (λ o. by_order o ((k, r) ∷ x ∷ es) ((x.0, r) ∷ es) (x ∷ map.put key_cmp k r es)) (above x.0 e.0 k (below_at x.0 es i e (first _ _ h) here) high)
    ∙ ap (λ xs. x ∷ xs) (at_end k r es i e (second _ _ h) here (omega (arith, end)) high)

inserted : {X : Type 0} (xs : List X) (x : X) → insert xs (length xs) x ≡ xs ++ x ∷ []
inserted xs x = λ j. take_all (length xs) xs (omega arith) j ++ x ∷ drop_all (length xs) xs (omega arith) j

-- so it is missing, and would stand at the end
pub missing_at_end : {Row : Type 0} (k : Key) (es : List (Key × Row)) (i : ℕ) (e : Key × Row) → rising es → slice_get es i ≡ Some e → suc i ≡ length es → key_cmp k e.0 ≡ Greater → IsMissingAt k es (length es)
missing_at_end k es i e h here end high = record { within = omega arith; put_is = λ r. at_end k r es i e (holds _ h) here end high ∙ sym (inserted es (k, r)) }

below_trans : {Row : Type 0} (a b : Key) (es : List (Key × Row)) → key_cmp a b ≡ Less → below_all key_cmp b es ≡ true → below_all key_cmp a es ≡ true
below_trans a b [] low h = refl
below_trans a b (x ∷ es) low h = both _ _ (ap is_lt (key_cmp_total.trans a b x.0 low (less _ (first _ _ h)))) (below_trans a b es low (second _ _ h))

-- a key below all entries has none
find_below : {Row : Type 0} (k : Key) (es : List (Key × Row)) → below_all key_cmp k es ≡ true → map.find key_cmp k es ≡ None
find_below k [] h = refl
find_below k (x ∷ es) h = ap (λ o. cond (is_eq o) (Some x.1) (map.find key_cmp k es)) (less _ (first _ _ h)) ∙ find_below k es (second _ _ h)

find_above : {Row : Type 0} (k : Key) (x : Key × Row) (es : List (Key × Row)) → key_cmp k x.0 ≡ Greater → map.find key_cmp k (x ∷ es) ≡ map.find key_cmp k es
find_above k x es high = ap (λ o. cond (is_eq o) (Some x.1) (map.find key_cmp k es)) high

-- a key below the first entry has none
pub find_before : {Row : Type 0} (k : Key) (es : List (Key × Row)) → rising es → ((e : Key × Row) → slice_get es 0 ≡ Some e → key_cmp k e.0 ≡ Less) → map.find key_cmp k es ≡ None
find_before k [] h low = refl
find_before k (x ∷ es) h low = ap (λ o. cond (is_eq o) (Some x.1) (map.find key_cmp k es)) (low x refl) ∙ find_below k es (below_trans k x.0 es (low x refl) (first _ _ (holds _ h)))

sorted-drop : {Row : Type 0} (es : List (Key × Row)) (n : ℕ) → map.is_sorted key_cmp es ≡ true → map.is_sorted key_cmp (drop n es) ≡ true
sorted-drop es zero h = h
sorted-drop [] (suc n) h = refl
sorted-drop (x ∷ es) (suc n) h = sorted-drop es n (second _ _ h)

pub rising-drop : {Row : Type 0} (es : List (Key × Row)) (n : ℕ) → rising es → rising (drop n es)
rising-drop es n h = passes _ (sorted-drop es n (holds _ h))

-- where the key of a later entry is found, the next key passes the first one
past_first : {Row : Type 0} (k l : Key) (x : Key × Row) (es : List (Key × Row)) (o : Ordering) → key_cmp k x.0 ≡ o → map.is_sorted key_cmp (x ∷ es) ≡ true → is_some (map.find key_cmp k (x ∷ es)) ≡ true → key_cmp k l ≡ Less → key_cmp l x.0 ≡ Greater
past_first k l x es Less is h there less_is = absurd (false≢true (sym (ap is_some (find_below k (x ∷ es) (both _ _ (ap is_lt is) (below_trans k x.0 es is (first _ _ h))))) ∙ there))
past_first k l x es Equal is h there less_is = key_cmp_total.antisymm l x.0 ∙ ap ordering_reverse (ap (λ (q : Key). key_cmp q l) (sym (key_cmp_exact k x.0 is)) ∙ less_is)
past_first k l x es Greater is h there less_is = key_cmp_total.antisymm l x.0 ∙ ap ordering_reverse (key_cmp_total.trans x.0 k l (key_cmp_total.antisymm x.0 k ∙ ap ordering_reverse is) less_is)

find_past-suc : {Row : Type 0} (k l : Key) (es : List (Key × Row)) (n : ℕ) → map.is_sorted key_cmp es ≡ true → is_some (map.find key_cmp k (drop n es)) ≡ true → key_cmp k l ≡ Less → map.find key_cmp l (drop (suc n) es) ≡ map.find key_cmp l (drop n es)
find_past-suc k l [] zero h there less_is = refl
find_past-suc k l [] (suc n) h there less_is = refl
find_past-suc k l (x ∷ es) zero h there less_is = sym (find_above l x es (past_first k l x es (key_cmp k x.0) refl h there less_is))
find_past-suc k l (x ∷ es) (suc n) h there less_is = find_past-suc k l es n (second _ _ h) there less_is

-- where a key is found from a place on, the next keys are found behind that place
pub find_past : {Row : Type 0} (k l : Key) (es : List (Key × Row)) (n : ℕ) → rising es → is_some (map.find key_cmp k (drop n es)) ≡ true → key_cmp k l ≡ Less → map.find key_cmp l (drop (n + 1) es) ≡ map.find key_cmp l (drop n es)
find_past k l es n h there less_is = rw (add-one) (find_past-suc k l es n (holds _ h) there less_is)

pub slice_get-drop : {X : Type 0} (xs : List X) (n : ℕ) → slice_get (drop n xs) 0 ≡ slice_get xs n
slice_get-drop xs zero = refl
slice_get-drop [] (suc n) = refl
slice_get-drop (x ∷ xs) (suc n) = slice_get-drop xs n

-- there is one entry at a place
pub one_entry : {Row : Type 0} (o : Option (Key × Row)) (e f : Key × Row) → o ≡ Some e → o ≡ Some f → e.0 ≡ f.0
one_entry {Row} o e f is also = let same : e ≡ f = cc in ap (λ (x : Key × Row). x.0) same
