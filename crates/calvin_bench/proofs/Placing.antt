-- How two places lie to each other.
--     Places a b      a is before b, or at it, or after it
--     upto_before      what is before one place is before a later one
use Rattle.std.proofs.Common.{◌≡◌, true, refl, subst}
use Rattle.std.specs.declared.cmp.Ordering.{Ordering}
use Rattle.std.specs.declared.cmp.Ordering.TheVariants.{Less, Equal, Greater}
use Rattle.std.specs.Ordering.{is_lt, ordering_reverse}
use Rattle.calvin_types.specs.declared.place.Place.{Place}
use Rattle.calvin_types.specs.Places.{place_cmp, IsBefore}
use Rattle.calvin_types.proofs.PlaceOrder.{place_total, place_exact}

pub before_trans : (a b c : Place) → IsBefore a b → IsBefore b c → IsBefore a c
before_trans a b c = place_total.trans a b c

pub data Places (a b : Place) : Type 0 where
  earlier : IsBefore a b → Places a b
  same_place : a ≡ b → Places a b
  later : IsBefore b a → Places a b

turned : (r : Ordering) → r ≡ Greater → (s : Ordering) → r ≡ ordering_reverse s → s ≡ Less
turned r e Less h = refl
turned r e Equal h = absurd (cc)
turned r e Greater h = absurd (cc)

pub places : (a b : Place) → Places a b
places a b = go (place_cmp a b) refl
  where
    go : (r : Ordering) → place_cmp a b ≡ r → Places a b
    go Less e = earlier e
    go Equal e = same_place (place_exact a b e)
    go Greater e = later (turned (place_cmp a b) e (place_cmp b a) (place_total.antisymm a b))

-- what is before b and not after a
pub upto_before : (n a b : Place) → IsBefore n a → (IsBefore b a → ⊥) → IsBefore n b
upto_before n a b h not = elim (places a b) [
  | earlier g ↦ before_trans n a b h g
  | same_place e ↦ subst (λ x. IsBefore n x) e h
  | later g ↦ absurd (not g)
]

pub is_lt_true : (r : Ordering) → is_lt r ≡ true → r ≡ Less
is_lt_true Less h = refl
is_lt_true Equal h = absurd (cc)
is_lt_true Greater h = absurd (cc)
