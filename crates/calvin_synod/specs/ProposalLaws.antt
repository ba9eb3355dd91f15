-- Lemmas: ballots that tie in their order are one, and so are proposals.
use Rattle.std.specs.Prelude.{ℕ}
use Rattle.std.specs.Ordering.{nat_cmp}
use Rattle.std.specs.FinMap.{IsAntisymmetric}
use Rattle.std.proofs.Common.{ap}
use Rattle.std.proofs.lemmas.Map.Lookups.{exact_pairs, exact_unsigned}
use Rattle.calvin_types.specs.declared.place.Ballot.{Ballot}
use Rattle.calvin_types.specs.declared.place.Slot.{Slot}
use Rattle.calvin_types.specs.PlaceLaws.{slot_exact}
use Rattle.calvin_types.specs.Places.{slot_cmp, ballot_cmp}
use Rattle.calvin_synod.specs.declared.tallies.Proposal.{Proposal}
use Rattle.calvin_synod.specs.Roles.{proposal_cmp}

pub ballot_exact : IsAntisymmetric ballot_cmp
ballot_exact a b h = ap (λ (p : ℕ × ℕ). record { round = p.0; replica = p.1 }) (exact_pairs nat_cmp nat_cmp exact_unsigned exact_unsigned (a.round, a.replica) (b.round, b.replica) h)

pub proposal_exact : IsAntisymmetric proposal_cmp
proposal_exact a b h = ap (λ (p : Slot × Ballot). record { slot = p.0; ballot = p.1 }) (exact_pairs slot_cmp ballot_cmp slot_exact ballot_exact (a.slot, a.ballot) (b.slot, b.ballot) h)
