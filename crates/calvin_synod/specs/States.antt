-- What the parts of a replica show in contracts, beside the data of their role ("Paxos Made Simple", section 2.2: acceptors
-- and proposers; section 2.3: learners): how large the group is, and whether room is kept. Room is of this project.
--     BySlot V      what is kept by slot, and how many more slots are sure to find room
--     Tallied      whose votes are counted, and how many more proposals are sure to find room
--     AcceptorState B, ProposerState B, LearnerState      the three roles
--     FewCounted, FewVoters      what is counted is less than a majority
--     unless bar changed same      what is changed, unless a promise stands in the way
use Rattle.std.specs.Prelude.{◌≡◌, ℕ, ◌<◌, ◌≤◌, Bool, true, List, [], Option, Some, None, length, IsSome}
use Rattle.std.specs.Option.{ForSome}
use Rattle.std.specs.FinMap.{FinMap, get}
use Rattle.calvin_types.specs.declared.limits.TheConstants.{MOST_REPLICAS}
use Rattle.calvin_types.specs.declared.place.Ballot.{Ballot}
use Rattle.calvin_types.specs.declared.place.Slot.{Slot}
use Rattle.calvin_types.specs.Places.{slot_cmp}
use Rattle.calvin_synod.specs.declared.attempt.Attempt.{Attempt}
use Rattle.calvin_synod.specs.declared.attempt.Report.{Report}
use Rattle.calvin_synod.specs.declared.tallies.Proposal.{Proposal}
use Rattle.calvin_synod.specs.Quorums.{majority}
use Rattle.calvin_synod.specs.Roles.{Records, Proposing, Learning, proposal_cmp}

pub record BySlot (V : Type 0) : Type 0 where
  pub entries : FinMap slot_cmp V
  pub room : ℕ

pub record Tallied : Type 0 where
  pub counted : FinMap proposal_cmp (List ℕ)
  pub room : ℕ

-- the acceptor: its records, and whether the next one is sure to find room
pub record AcceptorState (B : Type 0) : Type 0 where
  pub records : Records B
  pub ready : Bool

-- the proposer of a replica in a group of so many, its data, and whether the next attempt is sure to find room
pub record ProposerState (B : Type 0) : Type 0 where
  pub replicas : ℕ
  pub replica : ℕ
  pub proposing : Proposing B
  pub ready : Bool

-- the learner of a group of so many, its data, and whether the next vote is sure to find room
pub record LearnerState : Type 0 where
  pub replicas : ℕ
  pub learning : Learning
  pub ready : Bool

abbrev pub unless : {X : Type 0} → Option Ballot → X → X → X
unless None changed same = changed
unless (Some bar) changed same = same

-- of each slot fewer reports are counted than a majority
abbrev pub FewCounted : {B : Type 0} → ℕ → FinMap slot_cmp (Attempt B) → Type 0
FewCounted {B} replicas attempts = (slot : Slot) (t : Attempt B) → get attempts slot ≡ Some t → length t.counted < majority replicas

-- of each proposal fewer votes are counted than a majority
abbrev pub FewVoters : ℕ → FinMap proposal_cmp (List ℕ) → Type 0
FewVoters replicas counted = (p : Proposal) (voters : List ℕ) → get counted p ≡ Some voters → length voters < majority replicas

-- what is true of every learner: no more replicas than there can be, fewer votes of a proposal than a majority, and room where it is ready
pub record IsLearner (replicas : ℕ) (tallied : Tallied) (room : ℕ) (ready : Bool) : Type 0 where
  pub at_most : replicas ≤ MOST_REPLICAS
  pub few : FewVoters replicas tallied.counted
  pub room_counted : ready ≡ true → 0 < tallied.room
  pub room_given : ready ≡ true → 0 < room

-- what is true of every proposer: no more replicas than there can be, fewer reports of a slot than a majority, and room where it is ready
pub record IsProposer {B : Type 0} (replicas : ℕ) (attempts : BySlot (Attempt B)) (spare : Option (List (Report B))) (ready : Bool) : Type 0 where
  pub at_most : replicas ≤ MOST_REPLICAS
  pub few : FewCounted replicas attempts.entries
  pub spare_empty : ForSome spare (λ reports. reports ≡ [])
  pub room : ready ≡ true → 0 < attempts.room
  pub spare_there : ready ≡ true → IsSome spare
