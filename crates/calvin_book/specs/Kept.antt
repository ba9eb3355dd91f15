-- Events in little room: each as a step, in which the number of a request stands for the request that is submitted.
--     event_of txns step      the event of a step, with the requests by their numbers, if its request is there
--     events_of txns steps      those of all steps, in order
--     request_of event      the request that an event submits, if it submits one
--     HasRequest txns n event      that request, if there is one, has this number
--     AreEvents txns steps      the request of each step is there
--     Listed Args      events, with room for so many more, and for so many more requests
use Rattle.std.specs.Prelude.{◌≡◌, ℕ, List, [], ◌∷◌, Option, Some, None, slice_get}
use Rattle.std.specs.Option.{option_map}
use Rattle.calvin_types.specs.declared.txn.Txn.{Txn}
use Rattle.calvin_node_acts.specs.declared.act.Act.TheVariants as act
use Rattle.calvin_world.specs.declared.event.Event.{Event}
use Rattle.calvin_world.specs.declared.event.Event.TheVariants as event
use Rattle.calvin_book.specs.declared.step.Step.{Step}
use Rattle.calvin_book.specs.declared.step.Step.TheVariants as step

pub record Listed (Args : Type 0) : Type 0 where
  pub items : List (Event Args)
  pub room : ℕ
  pub room_for_requests : ℕ

module _ {Args : Type 0} where
  abbrev pub event_of : List (Txn Args) → Step → Option (Event Args)
  event_of txns (step.Submit id n) = option_map (λ txn. event.At id (act.Submit txn)) (slice_get txns n)
  event_of txns (step.SubmitCold id n) = option_map (λ txn. event.At id (act.SubmitCold txn)) (slice_get txns n)
  event_of txns (step.Cool id key) = Some (event.At id (act.Cool key))
  event_of txns (step.Close id) = Some (event.At id act.Close)
  event_of txns (step.Merge id) = Some (event.At id act.Merge)
  event_of txns (step.Lock id) = Some (event.At id act.Lock)
  event_of txns (step.Restart id) = Some (event.At id act.Restart)
  event_of txns (step.Propose id epoch) = Some (event.At id (act.Propose epoch))
  event_of txns (step.Snapshot id epoch) = Some (event.At id (act.Snapshot epoch))
  event_of txns (step.Mark id epoch) = Some (event.At id (act.Mark epoch))
  event_of txns (step.Begin id place) = Some (event.At id (act.Begin place))
  event_of txns (step.Finish id place) = Some (event.At id (act.Finish place))
  event_of txns (step.AskForReads id place replica) = Some (event.At id (act.AskForReads place replica))
  event_of txns (step.AskForBatch id slot of) = Some (event.At id (act.AskForBatch slot of))
  event_of txns (step.Deliver n) = Some (event.Deliver n)

  abbrev pub before : Option (Event Args) → List (Event Args) → List (Event Args)
  before None events = events
  before (Some event) events = event ∷ events

  abbrev pub events_of : List (Txn Args) → List Step → List (Event Args)
  events_of txns [] = []
  events_of txns (step ∷ steps) = before (event_of txns step) (events_of txns steps)

  abbrev pub request_of : Event Args → Option (Txn Args)
  request_of (event.At id (act.Submit txn)) = Some txn
  request_of (event.At id (act.SubmitCold txn)) = Some txn
  request_of event = None

  abbrev pub HasRequest : List (Txn Args) → ℕ → Event Args → Type 0
  HasRequest txns n event = (txn : Txn Args) → request_of event ≡ Some txn → slice_get txns n ≡ Some txn

  abbrev pub AreEvents : List (Txn Args) → List Step → Type 0
  AreEvents txns steps = (k : ℕ) (step : Step) → slice_get steps k ≡ Some step → (event : Event Args) × (event_of txns step ≡ Some event)
