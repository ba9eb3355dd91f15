-- Lists of places that rise.
use Rattle.std.proofs.Common.{◌≡◌, ◌↔◌, ℕ, zero, suc, ◌+◌, ◌<◌, ◌≤◌, Bool, true, false, cond, ◌⊎◌, inl, inr, List, [], ◌∷◌, ◌++◌, length, get_or, slice_get, Some, refl, sym, ap, subst, ◌∙◌, arith}
use Rattle.std.proofs.Math.Nat.{eq-or-lt_of_le}
use Rattle.std.proofs.lemmas.Bool.{false≢true, cases_lt}
use Rattle.std.proofs.lemmas.Option.{none-some, same_Some, slice_get-get_or, slice_get_within, get_or_from_slice_get}
use Rattle.std.proofs.lemmas.List.Sorted.{searchable_from_sorted}
use Rattle.std.specs.declared.cmp.Ordering.{Ordering}
use Rattle.std.specs.declared.cmp.Ordering.TheVariants.{Less, Equal, Greater}
use Rattle.std.specs.Ordering.{is_lt, ordering_index, ordering_reverse}
use Rattle.std.specs.List.{filter}
use Rattle.std.specs.List.Sorted.{IsNonDecreasingBy}
use Rattle.calvin_types.specs.declared.place.Place.{Place}
use Rattle.calvin_types.specs.Places.{place_cmp, IsBefore}
use Rattle.calvin_types.proofs.PlaceOrder.{place_total, place_exact, not_before_itself, not_both}
use Rattle.calvin_lock.specs.Unreleased.{Among, Rises, SplitsAt, IsNumberOf}

-- ---- one more behind all

pub among_push : (xs : List Place) (q n : Place) → Among (xs ++ q ∷ []) n → (q ≡ n) ⊎ Among xs n
among_push [] q n (inl same) = inl same
among_push [] q n (inr none) = absurd none
among_push (x ∷ xs) q n (inl same) = inr (inl same)
among_push (x ∷ xs) q n (inr there) = elim (among_push xs q n there) [
  | inl same ↦ inl same
  | inr old ↦ inr (inr old)
]

pub push_last : (xs : List Place) (q : Place) → Among (xs ++ q ∷ []) q
push_last [] q = inl refl
push_last (x ∷ xs) q = inr (push_last xs q)

pub push_keeps : (xs : List Place) (q n : Place) → Among xs n → Among (xs ++ q ∷ []) n
push_keeps [] q n none = absurd none
push_keeps (x ∷ xs) q n (inl same) = inl same
push_keeps (x ∷ xs) q n (inr there) = inr (push_keeps xs q n there)

pub rises_push : (xs : List Place) (q : Place) → Rises xs → ((p : Place) → Among xs p → IsBefore p q) → Rises (xs ++ q ∷ [])
rises_push [] q rises last = (λ p none. absurd none, tt)
rises_push (x ∷ xs) q rises last = (
  λ p there. elim (among_push xs q p there) [
    | inl same ↦ subst (IsBefore x) same (last x (inl refl))
    | inr old ↦ rises.0 p old
  ],
  rises_push xs q rises.1 (λ p there. last p (inr there)),
)

-- ---- those that pass a test

module _ (test : Place → Bool) where
  pub among_filter : (xs : List Place) (q : Place) → Among (filter test xs) q ↔ (Among xs q × (test q ≡ true))
  among_filter [] q = (λ none. absurd none, λ none. absurd none.0)
  among_filter (x ∷ xs) q = go (test x) refl (among_filter xs q)
    where
      go : (b : Bool) → test x ≡ b → Among (filter test xs) q ↔ (Among xs q × (test q ≡ true)) → Among (cond b (x ∷ filter test xs) (filter test xs)) q ↔ (Among (x ∷ xs) q × (test q ≡ true))
      go true is rest = (
        λ there. elim there [
          | inl same ↦ (inl same, subst (λ p. test p ≡ true) same is)
          | inr later ↦ (inr (rest.0 later).0, (rest.0 later).1)
        ],
        λ both. elim both.0 [
          | inl same ↦ inl same
          | inr later ↦ inr (rest.1 (later, both.1))
        ],
      )
      go false is rest = (
        λ there. (inr (rest.0 there).0, (rest.0 there).1),
        λ both. elim both.0 [
          | inl same ↦ absurd (false≢true (sym is ∙ subst (λ p. test p ≡ true) (sym same) both.1))
          | inr later ↦ rest.1 (later, both.1)
        ],
      )

  pub rises_filter : (xs : List Place) → Rises xs → Rises (filter test xs)
  rises_filter [] rises = tt
  rises_filter (x ∷ xs) rises = elim (test x) as (λ b. Rises (cond b (x ∷ filter test xs) (filter test xs))) [
    | true ↦ (λ q there. rises.0 q ((among_filter xs q).0 there).0, rises_filter xs rises.1)
    | false ↦ rises_filter xs rises.1
  ]

-- ---- where a place stands

stands_among : (xs : List Place) (i : ℕ) (q : Place) → slice_get xs i ≡ Some q → Among xs q
stands_among [] i q at = absurd (none-some q at)
stands_among (x ∷ xs) zero q at = inl (same_Some x q at)
stands_among (x ∷ xs) (suc i) q at = inr (stands_among xs i q at)

pub among_stands : (xs : List Place) (q : Place) → Among xs q → (i : ℕ) × (slice_get xs i ≡ Some q)
among_stands [] q none = absurd none
among_stands (x ∷ xs) q (inl same) = (0, ap Some same)
among_stands (x ∷ xs) q (inr there) = let at = among_stands xs q there in (suc at.0, at.1)

pub rises_at : (xs : List Place) → Rises xs → (i j : ℕ) (p q : Place) → slice_get xs i ≡ Some p → slice_get xs j ≡ Some q → i < j → IsBefore p q
rises_at [] rises i j p q first second less = absurd (none-some p first)
rises_at (x ∷ xs) rises i zero p q first second less = absurd (omega (arith, less))
rises_at (x ∷ xs) rises zero (suc j) p q first second less = subst (λ y. IsBefore y q) (same_Some x p first) (rises.0 q (stands_among xs j q second))
rises_at (x ∷ xs) rises (suc i) (suc j) p q first second less = rises_at xs rises.1 i j p q first second (omega (arith, less))

stands_once : (xs : List Place) → Rises xs → (i j : ℕ) (q : Place) → slice_get xs i ≡ Some q → slice_get xs j ≡ Some q → j ≡ i
stands_once xs rises i j q first second = elim (cases_lt i j) [
  | inl less ↦ absurd (not_before_itself q (rises_at xs rises i j q q first second less))
  | inr most ↦ elim (eq-or-lt_of_le most) [
    | inl same ↦ same
    | inr less ↦ absurd (not_before_itself q (rises_at xs rises j i q q second first less))
  ]
]

pub number_there : (xs : List Place) (q : Place) (i : ℕ) → Rises xs → slice_get xs i ≡ Some q → IsNumberOf xs q i
number_there xs q i rises at = (at, λ k there. stands_once xs rises i k q at there)

pub number_pushed : (xs : List Place) (q : Place) (n : ℕ) → Rises (xs ++ q ∷ []) → n ≡ length xs → IsNumberOf (xs ++ q ∷ []) q n
number_pushed xs q n rises is = number_there (xs ++ q ∷ []) q n rises (ap (slice_get (xs ++ q ∷ [])) is ∙ last xs)
  where
    last : (ys : List Place) → slice_get (ys ++ q ∷ []) (length ys) ≡ Some q
    last [] = refl
    last (y ∷ ys) = last ys

-- those up to a place, and those past it
pub splits_there : (xs : List Place) (q : Place) (i : ℕ) → Rises xs → slice_get xs i ≡ Some q → SplitsAt xs q (i + 1)
splits_there xs q i rises at = record {
  front = λ k p there less before. elim (cases_lt k i) [
    | inl early ↦ not_both q p before (rises_at xs rises k i p q there at early)
    | inr late ↦ (
        let here : k ≡ i = omega (arith, late, less) in
        not_before_itself q (subst (IsBefore q) (same_Some p q (sym there ∙ ap (slice_get xs) here ∙ at)) before)
        )
  ];
  back = λ k p there most. rises_at xs rises i k q p at there (omega (arith, most));
  within = (let inside = slice_get_within xs i q at in omega (arith, inside));
}

-- ---- a search in such a list

not_less : (p q : Place) → IsBefore p q → is_lt (place_cmp q p) ≡ false
not_less p q before = go (place_cmp q p) refl
  where
    go : (o : Ordering) → place_cmp q p ≡ o → is_lt o ≡ false
    go Less is = absurd (not_both p q before is)
    go Equal is = refl
    go Greater is = refl

pub searchable : (xs : List Place) (q : Place) → Rises xs → IsNonDecreasingBy (λ y. ordering_index (place_cmp y q)) xs
searchable xs q rises = searchable_from_sorted place_total (λ y. y) xs q (λ k d from less.
    not_less (get_or xs k d) (get_or xs (k + 1) d) (rises_at xs rises k (k + 1) (get_or xs k d) (get_or xs (k + 1) d) (slice_get-get_or xs k d (omega (arith, less))) (slice_get-get_or xs (k + 1) d less) (omega arith)))

-- what is met there stands there
pub at_equal : (xs : List Place) (q : Place) (i : ℕ) → i < length xs → ((d : Place) → place_cmp (get_or xs i d) q ≡ Equal) → slice_get xs i ≡ Some q
at_equal xs q i less equal = slice_get-get_or xs i q less ∙ ap Some (place_exact (get_or xs i q) q (equal q))

-- what isn't met would stand between those before it and those past it
module _ (xs : List Place) (q : Place) (i : ℕ) (front : (k : ℕ) (d : Place) → 0 ≤ k → k < i → place_cmp (get_or xs k d) q ≡ Less)
    (back : (k : ℕ) (d : Place) → i ≤ k → k < length xs → place_cmp (get_or xs k d) q ≡ Greater) where
  front_is : (k : ℕ) (p : Place) → slice_get xs k ≡ Some p → k < i → IsBefore p q
  front_is k p there less = subst (λ x. IsBefore x q) (get_or_from_slice_get xs k p p there) (front k p (omega arith) less)

  back_is : (k : ℕ) (p : Place) → slice_get xs k ≡ Some p → i ≤ k → IsBefore q p
  back_is k p there most = subst (IsBefore q) (get_or_from_slice_get xs k p p there)
      (place_total.antisymm q (get_or xs k p) ∙ ap ordering_reverse (back k p most (slice_get_within xs k p there)))

  pub splits_between : i ≤ length xs → SplitsAt xs q i
  splits_between within = record {
    front = λ k p there less before. not_both q p before (front_is k p there less);
    back = back_is;
    within = within;
  }

  pub absent_between : ¬ Among xs q
  absent_between there =
      let at = among_stands xs q there in
      elim (cases_lt at.0 i) [
        | inl early ↦ not_before_itself q (front_is at.0 q at.1 early)
        | inr late ↦ not_before_itself q (back_is at.0 q at.1 late)
      ]
