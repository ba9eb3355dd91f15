-- What stands in an order from a place on.
use Rattle.std.proofs.Common.{◌≡◌, Bool, true, false, cond, not, [], ◌∷◌, inl, inr, refl, sym, ap, subst}
use Rattle.std.specs.Ordering.{is_lt}
use Rattle.calvin_types.specs.declared.place.Place.{Place}
use Rattle.calvin_types.specs.declared.txn.Txn.{Txn}
use Rattle.calvin_types.specs.Orders.{Order, StandsAt, Rises, from_place}
use Rattle.calvin_types.specs.Places.{place_cmp, IsBefore}
use Rattle.calvin_bench.proofs.Placing.{is_lt_true}

pub from_place_stands : {Args : Type 0} (q : Place) (es : Order Args) (n : Place) (t : Txn Args) → StandsAt (from_place q es) n t → StandsAt es n t × (IsBefore n q → ⊥)
from_place_stands q [] n t at = absurd at
from_place_stands {Args} q (e ∷ es) n t at = go (is_lt (place_cmp e.0 q)) refl at (from_place_stands q es n t)
  where
    go : (b : Bool) → is_lt (place_cmp e.0 q) ≡ b → StandsAt (cond (not b) (e ∷ from_place q es) (from_place q es)) n t
        → (StandsAt (from_place q es) n t → StandsAt es n t × (IsBefore n q → ⊥)) → StandsAt (e ∷ es) n t × (IsBefore n q → ⊥)
    go true h at rest = (inr (rest at).0, (rest at).1)
    go false h (inl here) rest = (inl here, λ g. let lt = ap is_lt (subst (λ x. IsBefore x q) (sym here.0) g) in cc)
    go false h (inr at) rest = (inr (rest at).0, (rest at).1)

pub stands_from_place : {Args : Type 0} (q : Place) (es : Order Args) (n : Place) (t : Txn Args) → StandsAt es n t → (IsBefore n q → ⊥) → StandsAt (from_place q es) n t
stands_from_place q [] n t at h = at
stands_from_place {Args} q (e ∷ es) n t at h = go (is_lt (place_cmp e.0 q)) refl at (λ at. stands_from_place q es n t at h)
  where
    go : (b : Bool) → is_lt (place_cmp e.0 q) ≡ b → StandsAt (e ∷ es) n t → (StandsAt es n t → StandsAt (from_place q es) n t) → StandsAt (cond (not b) (e ∷ from_place q es) (from_place q es)) n t
    go true l (inl here) rest = absurd (h (subst (λ x. IsBefore x q) here.0 (is_lt_true (place_cmp e.0 q) l)))
    go true l (inr at) rest = rest at
    go false l (inl here) rest = inl here
    go false l (inr at) rest = inr (rest at)

pub from_place_rises : {Args : Type 0} (q : Place) (es : Order Args) → Rises es → Rises (from_place q es)
from_place_rises q [] rises = tt
from_place_rises {Args} q (e ∷ es) rises = go (not (is_lt (place_cmp e.0 q))) (from_place_rises q es rises.1)
  where
    go : (b : Bool) → Rises (from_place q es) → Rises (cond b (e ∷ from_place q es) (from_place q es))
    go true rest = (λ n t at. rises.0 n t (from_place_stands q es n t at).0, rest)
    go false rest = rest
