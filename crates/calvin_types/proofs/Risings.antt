-- Keys that rise, and a key put among them.
use Rattle.std.proofs.Common.{◌≡◌, ◌≢◌, ℕ, ◌+◌, ◌<◌, ◌≤◌, Bool, true, false, cond, ◌||◌, List, [], ◌∷◌, ◌++◌, length, take, drop, Some, slice_get, refl, sym, ◌∙◌, ap, append_assoc, arith}
use Rattle.std.specs.List.{filter, insert}
use Rattle.std.proofs.lemmas.Bool.{false≢true}
use Rattle.std.proofs.lemmas.List.{drop_all, take-append-drop, length-drop, append-nil}
use Rattle.std.proofs.lemmas.Option.{slice_get_within}
use Rattle.std.specs.declared.cmp.Ordering.{Ordering}
use Rattle.std.specs.declared.cmp.Ordering.TheVariants.{Less, Equal, Greater}
use Rattle.std.specs.Ordering.{is_lt, is_eq, ordering_reverse}
use Rattle.calvin_types.specs.declared.key.Key.{Key}
use Rattle.calvin_types.specs.Exact.{first, second, both}
use Rattle.calvin_types.specs.Keys.{key_cmp, has, below_all, rises, by_order, insert_key, insert_all}
use Rattle.calvin_types.specs.KeyOrder.{key_cmp_total}
use Rattle.calvin_types.specs.KeyPlaces.{IsThere, IsMissingAt}
use Rattle.calvin_types.proofs.Fews.{drop_at, take_at}

pub less : (o : Ordering) → is_lt o ≡ true → o ≡ Less
less Less h = refl
less Equal h = absurd (false≢true h)
less Greater h = absurd (false≢true h)

below_less : (x y : Key) (ks : List Key) → key_cmp x y ≡ Less → below_all y ks ≡ true → below_all x ks ≡ true
below_less x y [] p h = refl
below_less x y (k ∷ ks) p h = both _ _ (ap is_lt (key_cmp_total.trans x y k p (less _ (first _ _ h)))) (below_less x y ks p (second _ _ h))

-- a key below all of a list isn't in it
pub has-below : (q : Key) (ks : List Key) → below_all q ks ≡ true → has ks q ≡ false
has-below q [] h = refl
has-below q (k ∷ ks) h = ap (λ o. is_eq o || has ks q) (less (key_cmp q k) (first _ _ h)) ∙ has-below q ks (second _ _ h)

below_insert : (x q : Key) (ks : List Key) → key_cmp x q ≡ Less → below_all x ks ≡ true → below_all x (insert_key q ks) ≡ true
below_insert x q [] p h = both _ _ (ap is_lt p) refl
below_insert x q (k ∷ ks) p h =
    elim (key_cmp q k) as (λ o. below_all x (by_order o (q ∷ k ∷ ks) (k ∷ ks) (k ∷ insert_key q ks)) ≡ true) [
      | Less ↦ both _ _ (ap is_lt p) h
      | Equal ↦ h
      | Greater ↦ both _ _ (first _ _ h) (below_insert x q ks p (second _ _ h))
    ]

-- keys rise with one more
pub rises-insert_key : (q : Key) (ks : List Key) → rises ks ≡ true → rises (insert_key q ks) ≡ true
rises-insert_key q [] h = refl
rises-insert_key q (k ∷ ks) h =
    elim (key_cmp q k) as (λ o. key_cmp q k ≡ o → rises (by_order o (q ∷ k ∷ ks) (k ∷ ks) (k ∷ insert_key q ks)) ≡ true) [
      | Less ↦ λ p. both _ _ (both _ _ (ap is_lt p) (below_less q k ks p (first _ _ h))) h
      | Equal ↦ λ p. h
      | Greater ↦ λ p. both _ _ (below_insert k q ks (key_cmp_total.antisymm k q ∙ ap ordering_reverse p) (first _ _ h)) (rises-insert_key q ks (second _ _ h))
    ] refl

module _ (q : Key) (ks : List Key) (i : ℕ) (k : Key) (here : slice_get ks i ≡ Some k) (in_order : rises (drop i ks) ≡ true)
    (so : insert_key q ks ≡ take i ks ++ insert_key q (drop i ks)) (missing : has ks q ≡ has (drop i ks) q) where
  rest_rises : rises (k ∷ drop (i + 1) ks) ≡ true
  rest_rises = ap rises (sym (drop_at ks i k here)) ∙ in_order

  insert_at : (o : Ordering) → key_cmp q k ≡ o → insert_key q ks ≡ take i ks ++ by_order o (q ∷ k ∷ drop (i + 1) ks) (k ∷ drop (i + 1) ks) (k ∷ insert_key q (drop (i + 1) ks))
  insert_at o is = so ∙ ap (λ xs. take i ks ++ insert_key q xs) (drop_at ks i k here) ∙ ap (λ (o : Ordering). take i ks ++ by_order o (q ∷ k ∷ drop (i + 1) ks) (k ∷ drop (i + 1) ks) (k ∷ insert_key q (drop (i + 1) ks))) is

  has_at : (o : Ordering) → key_cmp q k ≡ o → has ks q ≡ (is_eq o || has (drop (i + 1) ks) q)
  has_at o is = missing ∙ ap (λ xs. has xs q) (drop_at ks i k here) ∙ ap (λ o. is_eq o || has (drop (i + 1) ks) q) is

  together : take i ks ++ k ∷ drop (i + 1) ks ≡ ks
  together = ap (λ xs. take i ks ++ xs) (sym (drop_at ks i k here)) ∙ take-append-drop i ks

  pub found_key : key_cmp q k ≡ Equal → IsThere q ks
  found_key is = record { there = has_at Equal is; insert_is = insert_at Equal is ∙ together }

  pub free_key : key_cmp q k ≡ Less → IsMissingAt q ks i
  free_key is = record {
    within = let h : i < length ks = slice_get_within ks i k here in omega arith;
    missing = has_at Less is ∙ has-below q (drop (i + 1) ks) (below_less q k (drop (i + 1) ks) is (first _ _ rest_rises));
    insert_is = insert_at Less is ∙ ap (λ xs. take i ks ++ q ∷ xs) (sym (drop_at ks i k here));
  }

  pub next_insert : key_cmp q k ≡ Greater → insert_key q ks ≡ take (i + 1) ks ++ insert_key q (drop (i + 1) ks)
  next_insert is = insert_at Greater is ∙ sym (append_assoc (take i ks) (k ∷ []) (insert_key q (drop (i + 1) ks))) ∙ ap (λ xs. xs ++ insert_key q (drop (i + 1) ks)) (sym (take_at ks i k here))

  pub next_has : key_cmp q k ≡ Greater → has ks q ≡ has (drop (i + 1) ks) q
  next_has is = has_at Greater is

  pub next_rises : rises (drop (i + 1) ks) ≡ true
  next_rises = second _ _ rest_rises

pub last_key : (q : Key) (ks : List Key) (i n : ℕ) → length ks ≤ i → i ≤ n → n ≡ length ks → insert_key q ks ≡ take i ks ++ insert_key q (drop i ks) → has ks q ≡ has (drop i ks) q → IsMissingAt q ks n
last_key q ks i n past upto is so missing =
    let all : n ≡ i = omega arith in
    record {
      within = omega arith;
      missing = missing ∙ ap (λ xs. has xs q) (drop_all i ks past);
      insert_is = so ∙ ap (λ xs. take i ks ++ insert_key q xs) (drop_all i ks past) ∙ ap (λ xs. take i ks ++ q ∷ xs) (sym (drop_all i ks past)) ∙ ap (λ (m : ℕ). insert ks m q) (sym all);
    }

-- with one key more there are no fewer, and at most one more
pub length-grows : (q : Key) (ks : List Key) → length ks ≤ length (insert_key q ks)
length-grows q [] = omega arith
length-grows q (k ∷ ks) = elim (key_cmp q k) as (λ o. length (k ∷ ks) ≤ length (by_order o (q ∷ k ∷ ks) (k ∷ ks) (k ∷ insert_key q ks))) [
  | Less ↦ omega arith
  | Equal ↦ omega arith
  | Greater ↦ omega (arith, length-grows q ks)
]

pub length-grows_by : (q : Key) (ks : List Key) → length (insert_key q ks) ≤ length ks + 1
length-grows_by q [] = omega arith
length-grows_by q (k ∷ ks) = elim (key_cmp q k) as (λ o. length (by_order o (q ∷ k ∷ ks) (k ∷ ks) (k ∷ insert_key q ks)) ≤ length (k ∷ ks) + 1) [
  | Less ↦ omega arith
  | Equal ↦ omega arith
  | Greater ↦ omega (arith, length-grows_by q ks)
]

-- more keys leave no fewer, and at most so many more
pub insert_all-grows : (qs ks : List Key) → length ks ≤ length (insert_all qs ks)
insert_all-grows [] ks = omega arith
insert_all-grows (q ∷ qs) ks = omega (arith, length-grows q ks, insert_all-grows qs (insert_key q ks))

pub insert_all-grows_by : (qs ks : List Key) → length (insert_all qs ks) ≤ length ks + length qs
insert_all-grows_by [] ks = omega arith
insert_all-grows_by (q ∷ qs) ks = omega (arith, length-grows_by q ks, insert_all-grows_by qs (insert_key q ks))

-- where keys are put in turn, the one at a place goes next
pub insert_all-at : (qs ks : List Key) (i : ℕ) (q : Key) → slice_get qs i ≡ Some q → insert_all (drop i qs) ks ≡ insert_all (drop (i + 1) qs) (insert_key q ks)
insert_all-at qs ks i q here = ap (λ xs. insert_all xs ks) (drop_at qs i q here)

pub too_many : (qs ks all : List Key) (i : ℕ) (q : Key) → slice_get qs i ≡ Some q → insert_all (drop i qs) ks ≡ all → 16 < length (insert_key q ks) → 16 < length all
too_many qs ks all i q here so h = omega (arith, insert_all-grows (drop (i + 1) qs) (insert_key q ks), ap length (sym (insert_all-at qs ks i q here) ∙ so))

-- a key that adds nothing leaves fewer keys than there are
pub fewer : (qs ks all : List Key) (i : ℕ) (q : Key) → slice_get qs i ≡ Some q → insert_all (drop i qs) ks ≡ all → length ks ≡ i → length (insert_key q ks) ≡ length ks → length all < length qs
fewer qs ks all i q here so number same =
    let within : i < length qs = slice_get_within qs i q here in
    omega (arith, insert_all-grows_by (drop (i + 1) qs) (insert_key q ks), length-drop (i + 1) qs, ap length (sym (insert_all-at qs ks i q here) ∙ so))

pub one_more : (ks : List Key) (q : Key) → length (insert_key q ks) ≢ length ks → length (insert_key q ks) ≡ length ks + 1
one_more ks q h = omega (arith, length-grows q ks, length-grows_by q ks)

below_filter : (p : Key → Bool) (x : Key) (ks : List Key) → below_all x ks ≡ true → below_all x (filter p ks) ≡ true
below_filter p x [] h = refl
below_filter p x (k ∷ ks) h = elim (p k) as (λ b. below_all x (cond b (k ∷ filter p ks) (filter p ks)) ≡ true) [ true ↦ both _ _ (first _ _ h) (below_filter p x ks (second _ _ h)) | false ↦ below_filter p x ks (second _ _ h) ]

-- the keys that pass a test rise
pub rises-filter : (p : Key → Bool) (ks : List Key) → rises ks ≡ true → rises (filter p ks) ≡ true
rises-filter p [] h = refl
rises-filter p (k ∷ ks) h = elim (p k) as (λ b. rises (cond b (k ∷ filter p ks) (filter p ks)) ≡ true) [ true ↦ both _ _ (below_filter p k ks (first _ _ h)) (rises-filter p ks (second _ _ h)) | false ↦ rises-filter p ks (second _ _ h) ]

module _ (p : Key → Bool) (ks out all : List Key) (i : ℕ) (k : Key) (here : slice_get ks i ≡ Some k) (so : out ++ filter p (drop i ks) ≡ all) where
  at_place : (b : Bool) → p k ≡ b → out ++ cond b (k ∷ filter p (drop (i + 1) ks)) (filter p (drop (i + 1) ks)) ≡ all
  at_place b is = ap (λ b. out ++ cond b (k ∷ filter p (drop (i + 1) ks)) (filter p (drop (i + 1) ks))) (sym is) ∙ ap (λ xs. out ++ filter p xs) (sym (drop_at ks i k here)) ∙ so

  pub kept : p k ≡ true → (out ++ k ∷ []) ++ filter p (drop (i + 1) ks) ≡ all
  kept is = append_assoc out (k ∷ []) (filter p (drop (i + 1) ks)) ∙ at_place true is

  pub passed : p k ≡ false → out ++ filter p (drop (i + 1) ks) ≡ all
  passed is = at_place false is

pub all_passed : (p : Key → Bool) (ks out : List Key) (i : ℕ) → length ks ≤ i → out ++ filter p (drop i ks) ≡ filter p ks → out ≡ filter p ks
all_passed p ks out i past so = sym (append-nil out) ∙ ap (λ xs. out ++ filter p xs) (sym (drop_all i ks past)) ∙ so
