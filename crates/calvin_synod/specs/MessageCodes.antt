-- How a proof tells requests, messages and the data of a replica apart: by numbers, lists and pairs.
use Rattle.std.specs.Prelude.{◌≡◌, ℕ, List, Option, refl, ◌⊎◌}
use mathlib.Core.Logic.{inl, inr}
use Rattle.std.specs.Coded.{Coded, code_by, coded×, coded⊎, coded_ℕ, coded_option, coded_list}
use base.Stored.{coded_unit}
use Rattle.std.specs.FinMap.{FinMap, code}
use Rattle.calvin_types.specs.declared.txn.Txn.{Txn}
use Rattle.calvin_types.specs.declared.place.Ballot.{Ballot}
use Rattle.calvin_types.specs.declared.place.Slot.{Slot}
use Rattle.calvin_types.specs.Codes.{coded_slot, coded_txn}
use Rattle.calvin_types.specs.Places.{slot_cmp}
use Rattle.calvin_synod.specs.declared.vote.Vote.{Vote}
use Rattle.calvin_synod.specs.declared.attempt.Attempt.{Attempt}
use Rattle.calvin_synod.specs.declared.message.Message.{Message}
use Rattle.calvin_synod.specs.declared.message.Message.TheVariants.{Prepare, Promise, Accept, Refused, Accepted}
use Rattle.calvin_synod.specs.Codes.{coded_ballot, coded_proposal, coded_vote, coded_recorded, coded_attempt}
use Rattle.calvin_synod.specs.Roles.{Records, Proposing, Learning, proposal_cmp}
use Rattle.calvin_synod.specs.Cases.{Replica}
use Rattle.calvin_synod.specs.Deeds.{MemberState, RecordState}

abbrev pub coded_batch : {Args : Type 0} → Coded Args → Coded (List (Txn Args))
coded_batch args = coded_list (coded_txn args)

abbrev pub coded_learning : Coded Learning
coded_learning = code_by (FinMap proposal_cmp (List ℕ) × FinMap slot_cmp Ballot) (coded× (code coded_proposal (coded_list coded_ℕ)) (code coded_slot coded_ballot))
    (λ l. (l.counted, l.given)) (λ p. record { counted = p.0; given = p.1 }) (λ _. refl)

-- what a message says, by its kind: of its slot and ballot nothing more, a vote, a batch to vote for, a promise, or a batch voted for
abbrev pub Says : Type 0 → Type 0
Says B = (Slot × Ballot) × (Unit {0} ⊎ (Option (Vote B) ⊎ (B ⊎ (Ballot ⊎ B))))

module _ {B : Type 0} where
  abbrev pub says : Message B → Says B
  says (Prepare slot ballot) = ((slot, ballot), inl tt)
  says (Promise slot ballot vote) = ((slot, ballot), inr (inl vote))
  says (Accept slot ballot batch) = ((slot, ballot), inr (inr (inl batch)))
  says (Refused slot ballot promise) = ((slot, ballot), inr (inr (inr (inl promise))))
  says (Accepted slot ballot batch) = ((slot, ballot), inr (inr (inr (inr batch))))

  abbrev pub said_by : Slot → Ballot → Unit {0} ⊎ (Option (Vote B) ⊎ (B ⊎ (Ballot ⊎ B))) → Message B
  said_by slot ballot (inl _) = Prepare slot ballot
  said_by slot ballot (inr (inl vote)) = Promise slot ballot vote
  said_by slot ballot (inr (inr (inl batch))) = Accept slot ballot batch
  said_by slot ballot (inr (inr (inr (inl promise)))) = Refused slot ballot promise
  said_by slot ballot (inr (inr (inr (inr batch)))) = Accepted slot ballot batch

  abbrev pub says_all : (m : Message B) → said_by (says m).0.0 (says m).0.1 (says m).1 ≡ m
  says_all (Prepare slot ballot) = refl
  says_all (Promise slot ballot vote) = refl
  says_all (Accept slot ballot batch) = refl
  says_all (Refused slot ballot promise) = refl
  says_all (Accepted slot ballot batch) = refl

module _ {B : Type 0} (batch : Coded B) where
  abbrev pub coded_message : Coded (Message B)
  coded_message = code_by (Says B) (coded× (coded× coded_slot coded_ballot) (coded⊎ coded_unit (coded⊎ (coded_option (coded_vote batch)) (coded⊎ batch (coded⊎ coded_ballot batch)))))
      says (λ p. said_by p.0.0 p.0.1 p.1) says_all

  abbrev pub coded_proposing : Coded (Proposing B)
  coded_proposing = code_by ((ℕ × ℕ) × FinMap slot_cmp (Attempt B)) (coded× (coded× coded_ℕ coded_ℕ) (code coded_slot (coded_attempt batch)))
      (λ p. ((p.used, p.seen), p.attempts)) (λ p. record { used = p.0.0; seen = p.0.1; attempts = p.1 }) (λ _. refl)

  abbrev pub coded_replica : Coded (Replica B)
  coded_replica = code_by (Records B × (Proposing B × Learning)) (coded× (code coded_slot (coded_recorded batch)) (coded× coded_proposing coded_learning))
      (λ x. (x.acceptor, (x.proposer, x.learner))) (λ p. record { acceptor = p.0; proposer = p.1.0; learner = p.1.1 }) (λ _. refl)

  abbrev pub coded_member : Coded (MemberState B)
  coded_member = code_by ((ℕ × ℕ) × Replica B) (coded× (coded× coded_ℕ coded_ℕ) coded_replica)
      (λ m. ((m.size, m.me), m.replica)) (λ p. record { size = p.0.0; me = p.0.1; replica = p.1 }) (λ _. refl)

  abbrev pub coded_record : Coded (RecordState B)
  coded_record = code_by (Records B × ℕ) (coded× (code coded_slot (coded_recorded batch)) coded_ℕ) (λ r. (r.acceptor, r.used)) (λ p. record { acceptor = p.0; used = p.1 }) (λ _. refl)
