-- A group of replicas, every packet that was ever sent, and what an event does to it ("Paxos Made Simple", section 2.1:
-- messages take arbitrarily long, are duplicated and lost, but not corrupted).
--     GroupState B      the replicas' data, by their number, and the packets sent so far, by theirs
--     opening size      a group at first
--     packets_of size me letters      the packets that a replica sends in one step
--     outcome_of given      the outcome of an event that takes effect, by what the learner gives
--     carry_out w me deed      how a deed of a replica ends, and the group after it
--     at_replica w me act x      the same, where the group has such a replica
--     deliver w packet      the same of a packet that reaches its replica, where there is such a packet
--     happens w event      how an event ends, and the group after it
--     TakesEffect outcome      the event was not refused
--     grows w event      where the event takes effect, something is kept or sent more, so that memory may be wanting
--     Step w event outcome after      an event ends and leaves the group as `happens` states, or memory runs out where the event would take effect and something would grow, and nothing changes
--     Leads w events outcomes after      a list of events leads from one group to another
--     IsReached size w      some events lead from the opening to it
--     recorded_by x slot      what a replica has recorded of a slot, if there is such a replica
--     IsBeginning w early late outcomes after      a beginning of the events led to a group whose learners agree, and the others led on from there
--     Cast, Chosen      the votes cast;  a batch that a majority voted for at one ballot ("Paxos Made Simple", section 2.2)
use Rattle.std.specs.Prelude.{◌≡◌, ℕ, Bool, true, false, List, [], ◌∷◌, ◌++◌, map, length, Option, Some, None, ◌⊎◌, ⊤, slice_get, slice_set, replicate}
use Rattle.std.specs.List.{Contains, range_with_len}
use Rattle.std.specs.FinMap.{get}
use Rattle.calvin_types.specs.declared.fault.Fault.TheVariants.{OutOfMemory, NoNode, NoPacket}
use Rattle.calvin_types.specs.declared.place.Ballot.{Ballot}
use Rattle.calvin_types.specs.declared.place.Slot.{Slot}
use Rattle.calvin_synod.specs.declared.vote.Recorded.{Recorded}
use Rattle.calvin_synod.specs.declared.message.Message.TheVariants.{Accepted}
use Rattle.calvin_synod.specs.Quorums.{IsChosen}
use Rattle.calvin_synod.specs.Cases.{message_grows, Replica, Letters, Silent, ToOne, ToAll, Deed, Refuses, Does, handle, propose, restart, fresh}
use Rattle.calvin_synod_group.specs.declared.packet.Packet.{Packet}
use Rattle.calvin_synod_group.specs.declared.event.GroupEvent.{GroupEvent}
use Rattle.calvin_synod_group.specs.declared.event.GroupEvent.TheVariants.{Propose, Deliver, Restart}
use Rattle.calvin_synod_group.specs.declared.event.Outcome.{Outcome}
use Rattle.calvin_synod_group.specs.declared.event.Outcome.TheVariants.{Done, Gave, Refused}

pub record GroupState (B : Type 0) : Type 0 where
  pub replicas : List (Replica B)
  pub packets : List (Packet B)

module _ {B : Type 0} where
  -- nothing promised, voted, proposed, counted or sent
  abbrev pub opening : ℕ → GroupState B
  opening size = record { replicas = replicate size fresh; packets = [] }

  -- the packets of one step of a replica, in ascending order of the addressee
  abbrev pub packets_of : ℕ → ℕ → Letters B → List (Packet B)
  packets_of size me Silent = []
  packets_of size me (ToOne to message) = record { from = me; to = to; message = message } ∷ []
  packets_of size me (ToAll message) = map (λ to. record { from = me; to = to; message = message }) (range_with_len 0 size)

  -- it took effect, with the batch that the learner gave, if it gave one
  abbrev pub outcome_of : Option (Slot × B) → Outcome B
  outcome_of None = Done
  outcome_of (Some given) = Gave given.0 given.1

  -- a refusal changes nothing; else the replica's data is what the deed states, and its packets are sent
  abbrev pub carry_out : GroupState B → ℕ → Deed B → Outcome B × GroupState B
  carry_out w me (Refuses fault) = (Refused fault, w)
  carry_out w me (Does x letters given) = (outcome_of given, record { replicas = slice_set w.replicas me x; packets = w.packets ++ packets_of (length w.replicas) me letters })

  -- a deed of a replica, if there is such a replica
  abbrev pub at_replica : GroupState B → ℕ → (Replica B → Deed B) → Option (Replica B) → Outcome B × GroupState B
  at_replica w me act None = (Refused NoNode, w)
  at_replica w me act (Some x) = carry_out w me (act x)

  -- a packet is handled by the replica that it is for, and stays
  abbrev pub deliver : GroupState B → Option (Packet B) → Outcome B × GroupState B
  deliver w None = (Refused NoPacket, w)
  deliver w (Some p) = at_replica w p.to (handle (length w.replicas) p.from p.message) (slice_get w.replicas p.to)

  abbrev pub happens : GroupState B → GroupEvent B → Outcome B × GroupState B
  happens w (Propose me slot batch) = at_replica w me (propose me slot batch) (slice_get w.replicas me)
  happens w (Deliver number) = deliver w (slice_get w.packets number)
  happens w (Restart me) = at_replica w me restart (slice_get w.replicas me)

  abbrev pub TakesEffect : Outcome B → Type 0
  TakesEffect Done = ⊤
  TakesEffect (Gave slot batch) = ⊤
  TakesEffect (Refused fault) = ⊥

  abbrev pub packet_grows : Option (Packet B) → Bool
  packet_grows None = false
  packet_grows (Some p) = message_grows p.message

  -- a proposal is kept and sent; of a delivery the message tells; a restart takes nothing more
  abbrev pub grows : GroupState B → GroupEvent B → Bool
  grows w (Propose me slot batch) = true
  grows w (Deliver number) = packet_grows (slice_get w.packets number)
  grows w (Restart me) = false

  -- an event has the outcome and the effect that its case states, or it would take effect and something would grow but memory runs out, and nothing changes
  abbrev pub Step : GroupState B → GroupEvent B → Outcome B → GroupState B → Type 0
  Step w event outcome after = ((outcome, after) ≡ happens w event) ⊎ (TakesEffect (happens w event).0 × (grows w event ≡ true) × (outcome ≡ Refused OutOfMemory) × (after ≡ w))

  -- a list of events leads from one group to another, with an outcome for each
  abbrev pub Leads : GroupState B → List (GroupEvent B) → List (Outcome B) → GroupState B → Type 0
  Leads w [] [] after = after ≡ w
  Leads w [] (outcome ∷ outcomes) after = ⊥
  Leads w (event ∷ events) [] after = ⊥
  Leads w (event ∷ events) (outcome ∷ outcomes) after = (next : GroupState B) × Step w event outcome next × Leads next events outcomes after

  abbrev pub recorded_by : Option (Replica B) → Slot → Option (Recorded B)
  recorded_by None slot = None
  recorded_by (Some x) slot = get x.acceptor slot

  -- the votes cast: one for each packet Accepted, whomever it was sent to
  abbrev pub Cast : GroupState B → Slot → ℕ → Ballot → B → Type 0
  Cast w slot replica ballot batch = (to : ℕ) × Contains w.packets (record { from = replica; to = to; message = Accepted slot ballot batch })

  abbrev pub Chosen : GroupState B → Slot → B → Type 0
  Chosen w slot batch = IsChosen (length w.replicas) (Cast w slot) batch

-- a beginning of the events led to a group in which what its learners gave so far is chosen, and one batch at most for each slot; and the others led on from there
pub record IsBeginning {B : Type 0} (w : GroupState B) (early late : List (GroupEvent B)) (outcomes : List (Outcome B)) (after : GroupState B) : Type 0 where
  pub then : GroupState B
  pub first : List (Outcome B)
  pub rest : List (Outcome B)
  pub outcomes_are : outcomes ≡ first ++ rest
  pub led : Leads w early first then
  pub led_on : Leads then late rest after
  pub given : (slot : Slot) (batch : B) → Contains first (Gave slot batch) → Chosen then slot batch
  pub one : (slot : Slot) (x y : B) → Chosen then slot x → Chosen then slot y → x ≡ y

pub record IsReached {B : Type 0} (size : ℕ) (w : GroupState B) : Type 0 where
  pub events : List (GroupEvent B)
  pub outcomes : List (Outcome B)
  pub led : Leads (opening size) events outcomes w
