-- Lemmas: places that tie in their order are one, and so are slots.
use Rattle.std.specs.Prelude.{ℕ}
use Rattle.std.specs.Ordering.{nat_cmp}
use Rattle.std.specs.FinMap.{IsAntisymmetric}
use Rattle.std.proofs.Common.{ap}
use Rattle.std.proofs.lemmas.Map.Lookups.{exact_pairs, exact_unsigned}
use Rattle.calvin_types.specs.Places.{place_cmp, slot_cmp}

pub place_exact : IsAntisymmetric place_cmp
place_exact a b h = ap (λ (p : ℕ × ℕ). record { epoch = p.0; n = p.1 }) (exact_pairs nat_cmp nat_cmp exact_unsigned exact_unsigned (a.epoch, a.n) (b.epoch, b.n) h)

pub slot_exact : IsAntisymmetric slot_cmp
slot_exact a b h = ap (λ (p : ℕ × ℕ). record { epoch = p.0; group = p.1 }) (exact_pairs nat_cmp nat_cmp exact_unsigned exact_unsigned (a.epoch, a.group) (b.epoch, b.group) h)
