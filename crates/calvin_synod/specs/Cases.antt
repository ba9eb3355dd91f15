-- What one replica makes of a message or an event of its group's synods: its data after it, what it sends, and what its
-- learner gives ("Paxos Made Simple", sections 2.2 and 2.3; one instance for each slot, section 3).
--     slot_of message      which slot a message is about
--     has_batch message      a batch is told with it
--     message_grows message      what handles it keeps or sends more, so that memory may be wanting: all but a refusal
--     Replica B      the data of one replica, by role
--     Letters B      what is sent in one step: nothing, one message to one replica, or one to all
--     Deed B      a refusal, or the data after the step, what is sent, and the batch that the learner gives for a slot, if any
--     handle size from message x      what a replica of a group of this size makes of a message that the replica `from` sent
--     has_round x      whether a round is left for a new ballot
--     propose me slot batch x      what replica me makes of a batch to propose
--     replica_from records used      a replica that has these promises and votes and has used rounds up to this one, and nothing else
--     restart x      what it is after a restart
--     fresh      what it is at first
use Rattle.std.specs.Prelude.{ℕ, Bool, true, false, ◌+◌, Option, Some, None, is_some, nat_lt, if◌then◌else◌, max}
use Rattle.std.specs.FinMap.{empty}
use Rattle.calvin_types.specs.declared.place.Ballot.{Ballot}
use Rattle.calvin_types.specs.declared.place.Slot.{Slot}
use Rattle.calvin_types.specs.declared.fault.Fault.{Fault}
use Rattle.calvin_types.specs.declared.limits.TheConstants.{MOST_ROUNDS}
use Rattle.calvin_types.specs.declared.fault.Fault.TheVariants.{RoundsSpent, NotCurrent, Known}
use Rattle.calvin_synod.specs.declared.vote.Vote.{Vote}
use Rattle.calvin_synod.specs.declared.attempt.Attempt.{Attempt}
use Rattle.calvin_synod.specs.declared.message.Message.{Message}
use Rattle.calvin_synod.specs.declared.message.Message.TheVariants.{Prepare, Promise, Accept, Refused, Accepted}
use Rattle.calvin_synod.specs.Roles.{Records, promise_at, vote_at, bars_prepare, bars_accept, promised, voted, Proposing, batch_of, current, with_report, is_enough, counting, sending, next_ballot, started, refused_at, Learning, knows, completes, learned}

abbrev pub slot_of : {B : Type 0} → Message B → Slot
slot_of (Prepare slot ballot) = slot
slot_of (Promise slot ballot vote) = slot
slot_of (Accept slot ballot batch) = slot
slot_of (Refused slot ballot promise) = slot
slot_of (Accepted slot ballot batch) = slot

abbrev pub has_batch : {B : Type 0} → Message B → Bool
has_batch (Prepare slot ballot) = false
has_batch (Promise slot ballot vote) = is_some vote
has_batch (Refused slot ballot promise) = false
has_batch _ = true

-- where a message takes effect, a promise, a vote, a report or a count is kept, or a message is sent; a refusal raises a number alone
abbrev pub message_grows : {B : Type 0} → Message B → Bool
message_grows (Refused slot ballot promise) = false
message_grows _ = true

pub record Replica (B : Type 0) : Type 0 where
  pub acceptor : Records B
  pub proposer : Proposing B
  pub learner : Learning

pub data Letters (B : Type 0) : Type 0 where
  Silent : Letters B
  ToOne : (to : ℕ) (message : Message B) → Letters B
  ToAll : (message : Message B) → Letters B

pub data Deed (B : Type 0) : Type 0 where
  Refuses : Fault → Deed B
  Does : Replica B → Letters B → Option (Slot × B) → Deed B

module _ {B : Type 0} where
  -- a prepare ("Paxos Made Simple", section 2.2, phase 1b). The last argument is the promise that stands in the way
  abbrev pub prepare : ℕ → Replica B → Slot → Ballot → Option Ballot → Deed B
  prepare from x slot ballot None = Does (record x { acceptor = promised x.acceptor slot ballot }) (ToOne from (Promise slot ballot (vote_at x.acceptor slot))) None
  prepare from x slot ballot (Some promise) = Does x (ToOne from (Refused slot ballot promise)) None

  -- an accept (phase 2b). The last argument is the promise that stands in the way
  abbrev pub accept : ℕ → Replica B → Slot → Ballot → B → Option Ballot → Deed B
  accept from x slot ballot batch None = Does (record x { acceptor = voted x.acceptor slot (record { ballot = ballot; batch = batch }) }) (ToAll (Accepted slot ballot batch)) None
  accept from x slot ballot batch (Some promise) = Does x (ToOne from (Refused slot ballot promise)) None

  -- a promise that counts: with a majority the accept goes to all (phase 2a)
  abbrev pub counted : ℕ → ℕ → Replica B → Slot → Ballot → Option (Vote B) → Attempt B → Deed B
  counted size from x slot ballot vote attempt =
      if is_enough size attempt
      then Does (record x { proposer = sending x.proposer slot }) (ToAll (Accept slot ballot (batch_of attempt.own (with_report attempt from vote)))) None
      else Does (record x { proposer = counting x.proposer slot attempt from vote }) Silent None

  -- a promise. The last argument is the attempt for which it counts
  abbrev pub promise : ℕ → ℕ → Replica B → Slot → Ballot → Option (Vote B) → Option (Attempt B) → Deed B
  promise size from x slot ballot vote None = Refuses NotCurrent
  promise size from x slot ballot vote (Some attempt) = counted size from x slot ballot vote attempt

  -- a refusal
  abbrev pub refused : Replica B → Ballot → Deed B
  refused x promise =
      if nat_lt (max x.proposer.used x.proposer.seen) promise.round
      then Does (record x { proposer = refused_at x.proposer promise }) Silent None
      else Refuses NotCurrent

  -- a vote ("Paxos Made Simple", section 2.3): the batch is given with the one that makes a majority
  abbrev pub accepted : ℕ → ℕ → Replica B → Slot → Ballot → B → Deed B
  accepted size from x slot ballot batch =
      if knows x.learner from slot ballot
      then Refuses Known
      else Does (record x { learner = learned size x.learner from slot ballot }) Silent (if completes size x.learner slot ballot then Some (slot, batch) else None)

  -- each message, by its case
  abbrev pub handle : ℕ → ℕ → Message B → Replica B → Deed B
  handle size from (Prepare slot ballot) x = prepare from x slot ballot (bars_prepare (promise_at x.acceptor slot) ballot)
  handle size from (Promise slot ballot vote) x = promise size from x slot ballot vote (current x.proposer from slot ballot)
  handle size from (Accept slot ballot batch) x = accept from x slot ballot batch (bars_accept (promise_at x.acceptor slot) ballot)
  handle size from (Refused slot ballot promise) x = refused x promise
  handle size from (Accepted slot ballot batch) x = accepted size from x slot ballot batch

  abbrev pub has_round : Replica B → Bool
  has_round x = nat_lt (max x.proposer.used x.proposer.seen + 1) MOST_ROUNDS

  -- a new ballot for a slot, which a prepare tells all (phase 1a)
  abbrev pub propose : ℕ → Slot → B → Replica B → Deed B
  propose me slot batch x =
      if has_round x
      then Does (record x { proposer = started me x.proposer slot batch }) (ToAll (Prepare slot (next_ballot me x.proposer))) None
      else Refuses RoundsSpent

  abbrev pub replica_from : Records B → ℕ → Replica B
  replica_from records used = record { acceptor = records; proposer = record { used = used; seen = 0; attempts = empty }; learner = record { counted = empty; given = empty } }

  -- promises, votes and the greatest round used are kept
  abbrev pub restart : Replica B → Deed B
  restart x = Does (replica_from x.acceptor x.proposer.used) Silent None

  -- nothing promised, voted, proposed or counted
  unfoldable pub fresh : Replica B
  fresh = replica_from empty 0
