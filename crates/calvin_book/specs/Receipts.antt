-- What receipts say of a book. It stays true however the book grows. The notions are of this project.
--     IsAbove told next      the next epoch is above the one that was told
--     told_after told epoch      the greater of the two
--     IsSubmitEvent log s      the event of this number submits this request at this node
--     IsOnly log s      no other event submits its request, or another request of its id and attempt
--     IsOpenTo w me told      the node is there, and its next epoch is above the told one
--     IsNotTaken node t told fault      why a request isn't submitted
--     IsSubmitted m log s      the submission was made, at a node whose next epoch was above the told one
--     sent_by m log number      how many packets had been sent after an event
--     reply_of m log s      the first reply to its request that was sent after the submission
--     IsUnheard m log s from      there is none among the first packets, so many
--     IsLookedFor m log s look      what a look for it finds
--     IsAnswer m log s answer      the answer of it
--     IsAnswered m log a      the submission's request is answered so
use Rattle.std.specs.Prelude.{◌≡◌, ◌⊎◌, ℕ, suc, ◌<◌, ◌≤◌, max, ⊤, drop, take, length, Option, Some, None, MatchOption, slice_get}
use Rattle.calvin_types.specs.declared.fault.Fault.{Fault}
use Rattle.calvin_types.specs.declared.fault.Fault.TheVariants.{OutOfMemory, NoNode, Stale}
use Rattle.calvin_types.specs.declared.place.NodeId.{NodeId}
use Rattle.calvin_types.specs.declared.place.Place.{Place}
use Rattle.calvin_types.specs.declared.txn.Txn.{Txn}
use Rattle.calvin_types.specs.Deeds.{Refuses}
use Rattle.calvin_app.specs.declared.answer.Answer.{Answer}
use Rattle.calvin_app.specs.Meaning.{Meaning}
use Rattle.calvin_order.specs.Sequencing.{next_epoch, submit}
use Rattle.calvin_node_acts.specs.NodeStates.{NodeState}
use Rattle.calvin_node_acts.specs.declared.act.Act.TheVariants.{Submit}
use Rattle.calvin_world.specs.declared.event.Event.{Event}
use Rattle.calvin_world.specs.declared.event.Event.TheVariants.{At}
use Rattle.calvin_world.specs.Worlds.{WorldState, node_at}
use Rattle.calvin_world.specs.Promises.{IsSubmit}
use Rattle.calvin_book.specs.declared.receipt.Submission.{Submission}
use Rattle.calvin_book.specs.declared.receipt.Answered.{Answered}
use Rattle.calvin_book.specs.declared.receipt.Look.{Look}
use Rattle.calvin_book.specs.declared.receipt.Look.TheVariants.{Found, NotYet}
use Rattle.calvin_book.specs.Replies.{first_reply}
use Rattle.calvin_book.specs.Books.{Log, world_after}

abbrev pub IsAbove : Option ℕ → ℕ → Type 0
IsAbove None next = ⊤
IsAbove (Some told) next = told < next

abbrev pub told_after : Option ℕ → ℕ → ℕ
told_after None epoch = epoch
told_after (Some told) epoch = max told epoch

module _ {Args : Type 0} where
  abbrev pub IsSubmitEvent : Log Args → Submission Args → Type 0
  IsSubmitEvent log s = slice_get log.events s.number ≡ Some (At s.node (Submit s.txn))

  -- no event of another number submits a request of this id and attempt
  abbrev pub IsOnly : Log Args → Submission Args → Type 0
  IsOnly log s = (other : ℕ) (event : Event Args) → slice_get log.events other ≡ Some event → (at : NodeId) (t : Txn Args) → IsSubmit event at t
      → t.id ≡ s.txn.id → t.attempt ≡ s.txn.attempt → other ≡ s.number

module _ {Args Row : Type 0} where
  -- the node isn't there; or its next epoch isn't above the told one; or the sequencer refuses the request, or memory ran out
  abbrev pub IsNotTaken : Option (NodeState Args Row) → Txn Args → Option ℕ → Fault → Type 0
  IsNotTaken None t told fault = fault ≡ NoNode
  IsNotTaken (Some x) t told fault =
      ((IsAbove told (next_epoch x.sequencer) → ⊥) × (fault ≡ Stale))
      ⊎ (IsAbove told (next_epoch x.sequencer) × ((submit t x.sequencer ≡ Refuses fault) ⊎ (fault ≡ OutOfMemory)))

module _ {Args Row Reply : Type 0} where
  -- the node is there, and its next epoch is above the one that was told
  pub record IsOpenTo (w : WorldState Args Row Reply) (me : NodeId) (told : Option ℕ) : Type 0 where
    pub state : NodeState Args Row
    pub there : node_at w me ≡ Some state
    pub above : IsAbove told (next_epoch state.sequencer)

module _ {Args Row Reply : Type 0} (m : Meaning Args Row Reply) (log : Log Args) where
  pub record IsSubmitted (s : Submission Args) : Type 0 where
    pub event : IsSubmitEvent log s
    pub is_open : IsOpenTo (world_after m log.config (take s.number log.events)) s.node s.told

  -- how many packets had been sent after the event of a number
  abbrev pub sent_by : ℕ → ℕ
  sent_by number = length (world_after m log.config (take (suc number) log.events)).packets

  -- the first reply to the request among the packets that were sent after its submission, with its place
  abbrev pub reply_of : Submission Args → Option (Place × Answer Reply)
  reply_of s = first_reply s.txn.id s.txn.attempt (drop (sent_by s.number) (world_after m log.config log.events).packets)

  -- so many packets were sent, and if the submission is in the book none of them is a reply to it
  pub record IsUnheard (s : Submission Args) (from : ℕ) : Type 0 where
    pub sent : from ≤ length (world_after m log.config log.events).packets
    pub none : IsSubmitEvent log s → first_reply s.txn.id s.txn.attempt (drop (sent_by s.number) (take from (world_after m log.config log.events).packets)) ≡ None

  -- the submission's reply; or there is none, or the event isn't that submission
  abbrev pub IsLookedFor : Submission Args → Look Reply → Type 0
  IsLookedFor s (Found place answer) = IsSubmitEvent log s × (reply_of s ≡ Some (place, answer))
  IsLookedFor s (NotYet from) = (IsSubmitEvent log s → reply_of s ≡ None) × IsUnheard s from

  -- the same without the place
  abbrev pub IsAnswer : Submission Args → Option (Answer Reply) → Type 0
  IsAnswer s told = MatchOption told (IsSubmitEvent log s → reply_of s ≡ None) (λ answer. IsSubmitEvent log s × (place : Place) × (reply_of s ≡ Some (place, answer)))

  pub record IsAnswered (a : Answered Args Reply) : Type 0 where
    pub submitted : IsSubmitted a.submission
    pub place : Place
    pub reply : reply_of a.submission ≡ Some (place, a.answer)
    pub told : a.told ≡ told_after a.submission.told place.epoch
