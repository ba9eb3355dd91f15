-- Ballots and proposals in their orders, and maps of proposals.
use Rattle.std.proofs.Common.{◌≡◌, ◌≢◌, ℕ, ◌⊎◌, ap, Some, None, List, []}
use Rattle.std.specs.Ordering.{nat_cmp}
use Rattle.std.specs.Option.{unwrap_or}
use Rattle.std.specs.Cmp.{IsTotalOrder, nat_cmp_total}
use Rattle.std.specs.FinMap.{FinMap, get, insert, remove}
use Rattle.std.proofs.lemmas.Cmp.{on_total, then_total}
use Rattle.calvin_types.specs.declared.place.Ballot.{Ballot}
use Rattle.calvin_types.specs.declared.place.Slot.{Slot}
use Rattle.calvin_types.specs.Places.{slot_cmp, ballot_cmp}
use Rattle.calvin_types.proofs.ExactMaps.{same_or_not, insert_here, insert_other, remove_here, remove_other}
use Rattle.calvin_types.proofs.SlotMaps.{slot_total}
use Rattle.calvin_synod.specs.declared.tallies.Proposal.{Proposal}
use Rattle.calvin_synod.specs.Roles.{proposal_cmp}
pub use Rattle.calvin_synod.specs.ProposalLaws.{ballot_exact, proposal_exact}

pub ballot_total : IsTotalOrder ballot_cmp
ballot_total = then_total (on_total (λ (b : Ballot). b.round) nat_cmp_total) (on_total (λ (b : Ballot). b.replica) nat_cmp_total)

pub proposal_total : IsTotalOrder proposal_cmp
proposal_total = then_total (on_total (λ (p : Proposal). p.slot) slot_total) (on_total (λ (p : Proposal). p.ballot) ballot_total)

-- whose votes are counted, after those of one proposal changed
abbrev at : Slot → Ballot → Proposal
at s b = record { slot = s; ballot = b }

module _ (m : FinMap proposal_cmp (List ℕ)) (slot : Slot) (ballot : Ballot) where
  pub voters_here : (voters : List ℕ) → unwrap_or (get (insert m (at slot ballot) voters) (at slot ballot)) [] ≡ voters
  voters_here voters = ap (λ o. unwrap_or o []) (insert_here proposal_cmp proposal_total proposal_exact m (at slot ballot) voters)

  pub voters_other : (voters : List ℕ) (s : Slot) (b : Ballot) → (s ≡ slot → b ≡ ballot → ⊥) → unwrap_or (get (insert m (at slot ballot) voters) (at s b)) [] ≡ unwrap_or (get m (at s b)) []
  voters_other voters s b far = ap (λ o. unwrap_or o []) (insert_other proposal_cmp proposal_total proposal_exact m (at slot ballot) voters (at s b) (λ e. far (ap (λ p. p.slot) e) (ap (λ p. p.ballot) e)))

  pub no_voters_here : unwrap_or (get (remove m (at slot ballot)) (at slot ballot)) [] ≡ []
  no_voters_here = ap (λ o. unwrap_or o []) (remove_here proposal_cmp proposal_total proposal_exact m (at slot ballot))

  pub no_voters_other : (s : Slot) (b : Ballot) → (s ≡ slot → b ≡ ballot → ⊥) → unwrap_or (get (remove m (at slot ballot)) (at s b)) [] ≡ unwrap_or (get m (at s b)) []
  no_voters_other s b far = ap (λ o. unwrap_or o []) (remove_other proposal_cmp proposal_total proposal_exact m (at slot ballot) (at s b) (λ e. far (ap (λ p. p.slot) e) (ap (λ p. p.ballot) e)))

pub same_proposal_or_not : (p q : Proposal) → (p ≡ q) ⊎ (p ≢ q)
same_proposal_or_not p q = same_or_not proposal_cmp proposal_total proposal_exact p q

module _ {X : Type 0} (m : FinMap proposal_cmp X) (k : Proposal) where
  pub proposal_here : (v : X) → get (insert m k v) k ≡ Some v
  proposal_here v = insert_here proposal_cmp proposal_total proposal_exact m k v

  pub proposal_other : (v : X) (q : Proposal) → q ≢ k → get (insert m k v) q ≡ get m q
  proposal_other v q far = insert_other proposal_cmp proposal_total proposal_exact m k v q far

  pub proposal_gone_here : get (remove m k) k ≡ None
  proposal_gone_here = remove_here proposal_cmp proposal_total proposal_exact m k

  pub proposal_gone_other : (q : Proposal) → q ≢ k → get (remove m k) q ≡ get m q
  proposal_gone_other q far = remove_other proposal_cmp proposal_total proposal_exact m k q far
