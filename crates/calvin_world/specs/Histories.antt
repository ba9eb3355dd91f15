-- What is promised of all the events that led to a world in code: what was chosen or held after a beginning of them is chosen,
-- and what is chosen was submitted before ("Paxos Made Simple", section 2.1: only a value that has been proposed may be chosen,
-- and a process never learns that a value has been chosen unless it has been). How a later request stands is of this project.
--     LeadsOn m v w      some events lead from one world to another
--     StaysChosen v w      what is chosen in the one world, or held there, is chosen in the other
--     EverStays m w      that is so from each beginning of the events that led here
--     SomeEvent m Such w events outcomes new leads      one of the events took effect, in a world for which it is such
--     WasSubmitted m w      each request of what is chosen was submitted, in all its parts, at its group and in time
--     SubmittedBefore m w      and before the event that made it chosen
--     StandsInTime m w      what stands in the merged order was submitted where the next epoch wasn't above its own
--     StandsLater m w      a request that nobody had submitted before a reply was sent stands in later epochs alone
use Rattle.std.specs.Prelude.{◌≡◌, ℕ, ◌<◌, ◌⊎◌, List, [], ◌∷◌, Some}
use Rattle.std.specs.List.{Contains}
use Rattle.std.specs.FinMap.{get}
use Rattle.calvin_types.specs.declared.place.NodeId.{NodeId}
use Rattle.calvin_types.specs.declared.place.Place.{Place}
use Rattle.calvin_types.specs.declared.place.RequestId.{RequestId}
use Rattle.calvin_types.specs.declared.place.Slot.{Slot}
use Rattle.calvin_types.specs.declared.txn.Txn.{Txn}
use Rattle.calvin_types.specs.Orders.{StandsAt}
use Rattle.calvin_app.specs.declared.answer.Answer.{Answer}
use Rattle.calvin_app.specs.Meaning.{Meaning}
use Rattle.calvin_order.specs.Configs.{order}
use Rattle.calvin_order.specs.Merged.{Batch, Assignment}
use Rattle.calvin_node_acts.specs.NodeStates.{NodeState}
use Rattle.calvin_node_packets.specs.declared.packet.Packet.{Packet}
use Rattle.calvin_node_packets.specs.declared.packet.Content.TheVariants.{Replies}
use Rattle.calvin_world.specs.declared.event.Event.{Event}
use Rattle.calvin_world.specs.declared.event.Outcome.{Outcome}
use Rattle.calvin_world.specs.declared.event.Outcome.TheVariants.{Done}
use Rattle.calvin_world.specs.Worlds.{WorldState, opening}
use Rattle.calvin_world.specs.SettledWorlds.{SettledStep, SettledLeads}
use Rattle.calvin_world.specs.RunningWorlds.{IsReached}
use Rattle.calvin_world.specs.Promises.{IsNode, Chosen, IsChosenUpTo, IsSubmitFor, Submits}

module _ {Args Row Reply : Type 0} where
  pub record StaysChosen (v w : WorldState Args Row Reply) : Type 0 where
    pub chosen : (slot : Slot) (batch : Batch Args) → Chosen v slot batch → Chosen w slot batch
    pub held : (id : NodeId) (x : NodeState Args Row) → IsNode v id x → (slot : Slot) (batch : Batch Args) → get x.held slot ≡ Some batch → Chosen w slot batch

  module _ (m : Meaning Args Row Reply) where
    abbrev pub LeadsOn : WorldState Args Row Reply → WorldState Args Row Reply → Type 0
    LeadsOn v w = (events : List (Event Args)) × (outcomes : List Outcome) × SettledLeads m v events outcomes w

    abbrev pub EverStays : WorldState Args Row Reply → Type 0
    EverStays w = (v : WorldState Args Row Reply) → IsReached m v → LeadsOn v w → StaysChosen v w

    -- ---- what was submitted

    abbrev pub SomeEvent : (WorldState Args Row Reply → Event Args → Type 0)
        → (w : WorldState Args Row Reply) (events : List (Event Args)) (outcomes : List Outcome) (new : WorldState Args Row Reply)
        → SettledLeads m w events outcomes new → Type 0
    SomeEvent Such w [] [] new leads = ⊥
    SomeEvent Such w [] (outcome ∷ outcomes) new leads = ⊥
    SomeEvent Such w (event ∷ events) [] new leads = ⊥
    SomeEvent Such w (event ∷ events) (outcome ∷ outcomes) new leads = ((outcome ≡ Done) × Such w event) ⊎ SomeEvent Such leads.0 events outcomes new leads.2

    abbrev pub WasSubmitted : WorldState Args Row Reply → Type 0
    WasSubmitted w = (events : List (Event Args)) (outcomes : List Outcome) (leads : SettledLeads m (opening w.config) events outcomes w)
        → (slot : Slot) (batch : Batch Args) → Chosen w slot batch → (t : Txn Args) → Contains batch t → SomeEvent (IsSubmitFor slot t) (opening w.config) events outcomes w leads

    abbrev pub SubmittedBefore : WorldState Args Row Reply → Type 0
    SubmittedBefore w = (earlier : List (Event Args)) (outcomes : List Outcome) (v : WorldState Args Row Reply) (leads : SettledLeads m (opening w.config) earlier outcomes v)
        → (event : Event Args) (outcome : Outcome) (u : WorldState Args Row Reply) → SettledStep m v event outcome u → LeadsOn u w
        → (slot : Slot) (batch : Batch Args) → (Chosen v slot batch → ⊥) → Chosen u slot batch → (t : Txn Args) → Contains batch t
        → SomeEvent (IsSubmitFor slot t) (opening w.config) earlier outcomes v leads

    -- ---- where it stands

    abbrev pub StandsInTime : WorldState Args Row Reply → Type 0
    StandsInTime w = (events : List (Event Args)) (outcomes : List Outcome) (leads : SettledLeads m (opening w.config) events outcomes w)
        → (B : Assignment Args) (n : ℕ) → IsChosenUpTo w B n → (r : Place) (t : Txn Args) → StandsAt (order w.config B n) r t
        → (group : ℕ) × (group < w.config.partitions) × SomeEvent (IsSubmitFor (record { epoch = r.epoch; group = group }) t) (opening w.config) events outcomes w leads

    abbrev pub StandsLater : WorldState Args Row Reply → Type 0
    StandsLater w = (earlier : List (Event Args)) (outcomes : List Outcome) (v : WorldState Args Row Reply) (leads : SettledLeads m (opening w.config) earlier outcomes v) → LeadsOn v w
        → (p : Packet Args Row Reply) → Contains v.packets p → (q : Place) (id : RequestId) (attempt : ℕ) (answer : Answer Reply) → p.content ≡ Replies q id attempt answer
        → (t : Txn Args) → (SomeEvent (Submits t) (opening w.config) earlier outcomes v leads → ⊥)
        → (B : Assignment Args) (n : ℕ) → IsChosenUpTo w B n → (r : Place) → StandsAt (order w.config B n) r t → q.epoch < r.epoch
