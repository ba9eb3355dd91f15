-- How a proof tells what the parts of a replica keep apart: by numbers, lists and pairs.
use Rattle.std.specs.Prelude.{ℕ, Bool, List, Option, refl}
use Rattle.std.specs.Coded.{Coded, code_by, coded×, coded_ℕ, coded_bool, coded_option, coded_list}
use Rattle.std.specs.FinMap.{FinMap, code}
use Rattle.calvin_types.specs.declared.place.Ballot.{Ballot}
use Rattle.calvin_types.specs.declared.place.Slot.{Slot}
use Rattle.calvin_types.specs.Codes.{coded_slot}
use Rattle.calvin_types.specs.Places.{slot_cmp}
use Rattle.calvin_synod.specs.declared.vote.Vote.{Vote}
use Rattle.calvin_synod.specs.declared.vote.Recorded.{Recorded}
use Rattle.calvin_synod.specs.declared.attempt.Report.{Report}
use Rattle.calvin_synod.specs.declared.attempt.Attempt.{Attempt}
use Rattle.calvin_synod.specs.declared.tallies.Proposal.{Proposal}
use Rattle.calvin_synod.specs.Roles.{Records, proposal_cmp}
use Rattle.calvin_synod.specs.States.{BySlot, Tallied, AcceptorState, ProposerState, LearnerState}

abbrev pub coded_ballot : Coded Ballot
coded_ballot = code_by (ℕ × ℕ) (coded× coded_ℕ coded_ℕ) (λ b. (b.round, b.replica)) (λ p. record { round = p.0; replica = p.1 }) (λ _. refl)

abbrev pub coded_proposal : Coded Proposal
coded_proposal = code_by (Slot × Ballot) (coded× coded_slot coded_ballot) (λ p. (p.slot, p.ballot)) (λ p. record { slot = p.0; ballot = p.1 }) (λ _. refl)

abbrev pub coded_tallied : Coded Tallied
coded_tallied = code_by (FinMap proposal_cmp (List ℕ)
    × ℕ) (coded× (code coded_proposal (coded_list coded_ℕ)) coded_ℕ) (λ t. (t.counted, t.room)) (λ p. record { counted = p.0; room = p.1 })
    (λ _. refl)

abbrev pub coded_learner : Coded LearnerState
coded_learner = code_by (ℕ × ((FinMap proposal_cmp (List ℕ) × FinMap slot_cmp Ballot)
    × Bool)) (coded× coded_ℕ (coded× (coded× (code coded_proposal (coded_list coded_ℕ)) (code coded_slot coded_ballot)) coded_bool))
    (λ l. (l.replicas, ((l.learning.counted, l.learning.given), l.ready))) (λ p. record { replicas = p.0; learning = record { counted = p.1.0.0; given = p.1.0.1 }; ready = p.1.1 }) (λ _. refl)

module _ {B : Type 0} (batch : Coded B) where
  abbrev pub coded_by_slot : Coded (BySlot B)
  coded_by_slot = code_by (FinMap slot_cmp B × ℕ) (coded× (code coded_slot batch) coded_ℕ) (λ m. (m.entries, m.room)) (λ p. record { entries = p.0; room = p.1 }) (λ _. refl)

  abbrev pub coded_vote : Coded (Vote B)
  coded_vote = code_by (Ballot × B) (coded× coded_ballot batch) (λ v. (v.ballot, v.batch)) (λ p. record { ballot = p.0; batch = p.1 }) (λ _. refl)

  abbrev pub coded_recorded : Coded (Recorded B)
  coded_recorded = code_by (Ballot × Option (Vote B)) (coded× coded_ballot (coded_option coded_vote)) (λ r. (r.promise, r.vote)) (λ p. record { promise = p.0; vote = p.1 }) (λ _. refl)

  abbrev pub coded_acceptor : Coded (AcceptorState B)
  coded_acceptor = code_by (Records B × Bool) (coded× (code coded_slot coded_recorded) coded_bool) (λ a. (a.records, a.ready)) (λ p. record { records = p.0; ready = p.1 }) (λ _. refl)

  abbrev pub coded_report : Coded (Report B)
  coded_report = code_by (ℕ × Option (Vote B)) (coded× coded_ℕ (coded_option coded_vote)) (λ r. (r.from, r.vote)) (λ p. record { from = p.0; vote = p.1 }) (λ _. refl)

  abbrev pub coded_attempt : Coded (Attempt B)
  coded_attempt = code_by (Ballot × (B
      × List (Report B))) (coded× coded_ballot (coded× batch (coded_list coded_report))) (λ t. (t.ballot, (t.own, t.counted)))
      (λ p. record { ballot = p.0; own = p.1.0; counted = p.1.1 }) (λ _. refl)

  abbrev pub coded_proposer : Coded (ProposerState B)
  coded_proposer = code_by ((ℕ × ℕ) × (((ℕ × ℕ) × FinMap slot_cmp (Attempt B))
      × Bool)) (coded× (coded× coded_ℕ coded_ℕ) (coded× (coded× (coded× coded_ℕ coded_ℕ) (code coded_slot coded_attempt)) coded_bool))
      (λ p. ((p.replicas, p.replica), (((p.proposing.used, p.proposing.seen), p.proposing.attempts), p.ready)))
      (λ p. record { replicas = p.0.0; replica = p.0.1; proposing = record { used = p.1.0.0.0; seen = p.1.0.0.1; attempts = p.1.0.1 }; ready = p.1.1 }) (λ _. refl)
