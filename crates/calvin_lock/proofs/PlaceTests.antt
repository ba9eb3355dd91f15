-- The test whether two places are the same is exact.
use Rattle.std.proofs.Common.{◌≡◌, true, ◌&&◌, nat_eq, refl, eqb-true, eq-eqb}
use Rattle.std.proofs.lemmas.Bool.{and_parts}
use Rattle.calvin_types.specs.declared.place.Place.{Place}
use Rattle.calvin_lock.specs.Queues.{equal_places}

pub places_exact : (a b : Place) → equal_places a b ≡ true → a ≡ b
places_exact a b h =
    let parts = and_parts (nat_eq a.epoch b.epoch) (nat_eq a.n b.n) h in
    let epoch = eqb-true a.epoch b.epoch parts.0 in
    let n = eqb-true a.n b.n parts.1 in
    λ i. record { epoch = epoch i; n = n i }

pub places_self : (a : Place) → equal_places a a ≡ true
places_self a = λ i. eq-eqb a.epoch a.epoch refl i && eq-eqb a.n a.n refl i
