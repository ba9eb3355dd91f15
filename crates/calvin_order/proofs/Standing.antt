-- What stands in two orders joined, when their places rise, and the part from a place on.
use Rattle.std.proofs.Common.{◌≡◌, Bool, true, false, cond, not, [], ◌∷◌, ◌++◌, ◌⊎◌, inl, inr, refl, ap, ◌∙◌}
use Rattle.std.specs.Ordering.{is_lt}
use Rattle.calvin_types.specs.declared.place.Place.{Place}
use Rattle.calvin_types.specs.declared.txn.Txn.{Txn}
use Rattle.calvin_types.specs.Places.{place_cmp, IsBefore}
use Rattle.calvin_types.specs.Orders.{Order, StandsAt, Rises, from_place}
use Rattle.calvin_order.proofs.Places.{is_lt_false}

module _ {Args : Type 0} where
  pub stands_split : (xs ys : Order Args) (q : Place) (t : Txn Args) → StandsAt (xs ++ ys) q t → StandsAt xs q t ⊎ StandsAt ys q t
  stands_split [] ys q t at = inr at
  stands_split (e ∷ xs) ys q t (inl here) = inl (inl here)
  stands_split (e ∷ xs) ys q t (inr at) = elim (stands_split xs ys q t at) [ inl h ↦ inl (inr h) | inr h ↦ inr h ]

  pub stands_left : (xs ys : Order Args) (q : Place) (t : Txn Args) → StandsAt xs q t → StandsAt (xs ++ ys) q t
  stands_left [] ys q t at = absurd at
  stands_left (e ∷ xs) ys q t (inl here) = inl here
  stands_left (e ∷ xs) ys q t (inr at) = inr (stands_left xs ys q t at)

  pub stands_right : (xs ys : Order Args) (q : Place) (t : Txn Args) → StandsAt ys q t → StandsAt (xs ++ ys) q t
  stands_right [] ys q t at = at
  stands_right (e ∷ xs) ys q t at = inr (stands_right xs ys q t at)

  pub rises_joined : (xs ys : Order Args) → Rises xs → Rises ys → ((p : Place) (t : Txn Args) → StandsAt xs p t → (q : Place) (u : Txn Args) → StandsAt ys q u → IsBefore p q) → Rises (xs ++ ys)
  rises_joined [] ys left right across = right
  rises_joined (e ∷ xs) ys left right across = (
    λ q t at. elim (stands_split xs ys q t at) [ inl h ↦ left.0 q t h | inr h ↦ across e.0 e.1 (inl (refl, refl)) q t h ],
    rises_joined xs ys left.1 right (λ p t at. across p t (inr at)),
  )

  pub from_joined : (xs ys : Order Args) (q : Place) → from_place q (xs ++ ys) ≡ from_place q xs ++ from_place q ys
  from_joined [] ys q = refl
  from_joined (e ∷ xs) ys q = go (not (is_lt (place_cmp e.0 q))) (from_joined xs ys q)
    where
      go : (b : Bool) → from_place q (xs ++ ys) ≡ from_place q xs ++ from_place q ys → cond b (e ∷ from_place q (xs ++ ys)) (from_place q (xs ++ ys)) ≡ cond b (e ∷ from_place q xs) (from_place q xs) ++ from_place q ys
      go true rest = ap (λ es. e ∷ es) rest
      go false rest = rest

  pub from_none : (xs : Order Args) (q : Place) → ((n : Place) (t : Txn Args) → StandsAt xs n t → IsBefore n q) → from_place q xs ≡ []
  from_none [] q early = refl
  from_none (e ∷ xs) q early = ap (λ r. cond (not (is_lt r)) (e ∷ from_place q xs) (from_place q xs)) (early e.0 e.1 (inl (refl, refl))) ∙ from_none xs q (λ n t at. early n t (inr at))

  pub from_all : (xs : Order Args) (q : Place) → ((n : Place) (t : Txn Args) → StandsAt xs n t → IsBefore n q → ⊥) → from_place q xs ≡ xs
  from_all [] q late = refl
  from_all (e ∷ xs) q late = ap (λ b. cond (not b) (e ∷ from_place q xs) (from_place q xs)) (is_lt_false (place_cmp e.0 q) (late e.0 e.1 (inl (refl, refl)))) ∙ ap (λ es. e ∷ es) (from_all xs q (λ n t at. late n t (inr at)))
