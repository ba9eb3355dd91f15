-- A set of keys is read key by key.
--     grown form ds all      the set that a list spells of which ds is left, where all is what was read before
use Rattle.std.proofs.Common.{◌≡◌, ◌≢◌, ℕ, suc, ◌+◌, ◌≤◌, ◌<◌, ◌&&◌, ◌==◌, Bool, true, false, List, ◌∷◌, length, Option, Some, None, option_and_then, nat_le, nat_lt, drop, get_or, refl, arith}
use Rattle.std.proofs.lemmas.List.{drop_more}
use Rattle.std.proofs.Math.Bool.{and-false}
use Rattle.serde_json.specs.View.{view, items_view}
use Rattle.serde_json.specs.declared.value.Value.{Value}
use Rattle.std.proofs.lemmas.Bool.Decides.{nat_tests}
use Rattle.serde_json.specs.Data.{Data, Items, no_items, item}
use Rattle.calvin_types.specs.declared.key.Key.{Key}
use Rattle.calvin_types.specs.Keys.{insert_key, insert_all, takes}
use Rattle.calvin_types.proofs.Risings.{length-grows, length-grows_by, insert_all-grows_by}
use Rattle.calvin_script.specs.Spelling.{only_if, each}

-- the set of several keys more, all of which are new
abbrev pub with_more : List Key → List Key → Option (List Key)
with_more all ks = only_if (nat_le (length all + length ks) 16 && (length (insert_all ks all) == length all + length ks)) (Some (insert_all ks all))

abbrev pub grown : (Data → Option Key) → Items → List Key → Option (List Key)
grown form ds all = option_and_then (with_more all) (each form ds)

-- ---- one key more

-- the number n is below another
not_below : (m n : ℕ) → m < n → (m == n) ≡ false
not_below m n h = grind (arith, nat_tests)

too_many : (n : ℕ) → 16 < n → nat_le n 16 ≡ false
too_many n h = grind (arith, nat_tests)

more_new : (k : Key) (ks all : List Key) → length (insert_key k all) ≢ length all → with_more all (k ∷ ks) ≡ with_more (insert_key k all) ks
more_new k ks all h =
    let a = length-grows_by k all in
    let b = length-grows k all in
    let e : length all + suc (length ks) ≡ length (insert_key k all) + length ks = omega arith in
    rw e refl

more_full : (k : Key) (ks all : List Key) → 16 < length (insert_key k all) → with_more all (k ∷ ks) ≡ None
more_full k ks all h =
    let a = length-grows_by k all in
    let e = too_many (length all + suc (length ks)) (omega arith) in
    rw e refl

more_twice : (k : Key) (ks all : List Key) → length (insert_key k all) ≡ length all → with_more all (k ∷ ks) ≡ None
more_twice k ks all h =
    let a = insert_all-grows_by ks (insert_key k all) in
    let e = not_below (length (insert_all ks (insert_key k all))) (length all + suc (length ks)) (omega arith) in
    rw (e, and-false) refl

-- whether a key more is taken decides whether the whole list may be one
refused_by : (a b : Bool) (k : Key) (ks all : List Key) → nat_lt (length all) (length (insert_key k all)) ≡ a → nat_le (length (insert_key k all)) 16 ≡ b → (a && b) ≡ false → with_more all (k ∷ ks) ≡ None
refused_by false b k ks all e f h = more_twice k ks all (let l = length-grows k all in let m : length (insert_key k all) ≤ length all = grind (arith, nat_tests) in omega arith)
refused_by true false k ks all e f h = more_full k ks all (grind (arith, nat_tests))
refused_by true true k ks all e f h = absurd (cc)

taken_by : (a b : Bool) (k : Key) (ks all : List Key) → nat_lt (length all) (length (insert_key k all)) ≡ a → (a && b) ≡ true → with_more all (k ∷ ks) ≡ with_more (insert_key k all) ks
taken_by true b k ks all e h = more_new k ks all (λ same. let m : length all < length (insert_key k all) = grind (arith, nat_tests) in omega arith)
taken_by false b k ks all e h = absurd (cc)

more_refused : (k : Key) (ks all : List Key) → takes k all ≡ false → with_more all (k ∷ ks) ≡ None
more_refused k ks all h = refused_by _ _ k ks all refl refl h

more_taken : (k : Key) (ks all : List Key) → takes k all ≡ true → with_more all (k ∷ ks) ≡ with_more (insert_key k all) ks
more_taken k ks all h = taken_by _ _ k ks all refl h

grown_more : (form : Data → Option Key) (d : Data) (ds : Items) (k : Key) (all : List Key) → form d ≡ Some k → takes k all ≡ true → grown form (item d ds) all ≡ grown form ds (insert_key k all)
grown_more form d ds k all e h = rw e (elim (each form ds) as (λ o. option_and_then (with_more all) (option_and_then (λ xs. Some (k ∷ xs)) o) ≡ option_and_then (with_more (insert_key k all)) o) [ None ↦ refl | Some ks ↦ more_taken k ks all h ])

grown_refused : (form : Data → Option Key) (d : Data) (ds : Items) (k : Key) (all : List Key) → form d ≡ Some k → takes k all ≡ false → grown form (item d ds) all ≡ None
grown_refused form d ds k all e h = rw e (elim (each form ds) as (λ o. option_and_then (with_more all) (option_and_then (λ xs. Some (k ∷ xs)) o) ≡ None) [ None ↦ refl | Some ks ↦ more_refused k ks all h ])

-- ---- item by item

pub items_more : (form : Data → Option Key) (vs : List Value) (i : ℕ) (v : Value) (k : Key) (all more : List Key) → i < length vs → v ≡ get_or vs i v → form (view v) ≡ Some k → takes k all ≡ true → more ≡ insert_key k all → grown form (items_view (drop i vs)) all ≡ grown form (items_view (drop (i + 1) vs)) more
items_more form vs i v k all more below at e h is = rw (is, drop_more vs i v below, ← at) (grown_more form (view v) (items_view (drop (i + 1) vs)) k all e h)

pub items_refused : (form : Data → Option Key) (vs : List Value) (i : ℕ) (v : Value) (k : Key) (all : List Key) → i < length vs → v ≡ get_or vs i v → form (view v) ≡ Some k → takes k all ≡ false → grown form (items_view (drop i vs)) all ≡ None
items_refused form vs i v k all below at e h = rw (drop_more vs i v below, ← at) (grown_refused form (view v) (items_view (drop (i + 1) vs)) k all e h)

pub grown_end : (form : Data → Option Key) (all : List Key) → length all ≤ 16 → grown form no_items all ≡ Some all
grown_end form all h =
    let a : nat_le (length all + 0) 16 ≡ true = grind (arith, nat_tests) in
    let b : (length all == length all + 0) ≡ true = grind (arith, nat_tests) in
    rw (a, b) refl
