-- A list of events where memory never runs out: how each ends is determined, and so is the world that they lead to. The notion
-- is of this project.
--     through m w events      how the events end, one after another, and the world that they lead to
--     WithoutWant outcomes      none of the events ended for want of memory
use Rattle.std.specs.Prelude.{◌≢◌, List, [], ◌∷◌, ⊤}
use Rattle.calvin_types.specs.declared.fault.Fault.TheVariants.{OutOfMemory}
use Rattle.calvin_app.specs.Meaning.{Meaning}
use Rattle.calvin_world.specs.declared.event.Event.{Event}
use Rattle.calvin_world.specs.declared.event.Outcome.{Outcome}
use Rattle.calvin_world.specs.declared.event.Outcome.TheVariants.{Refused}
use Rattle.calvin_world.specs.Worlds.{WorldState, happens}

abbrev pub through : {Args Row Reply : Type 0} → Meaning Args Row Reply → WorldState Args Row Reply → List (Event Args) → List Outcome × WorldState Args Row Reply
through m w [] = ([], w)
through m w (event ∷ events) = ((happens m w event).0 ∷ (through m (happens m w event).1 events).0, (through m (happens m w event).1 events).1)

abbrev pub WithoutWant : List Outcome → Type 0
WithoutWant [] = ⊤
WithoutWant (outcome ∷ outcomes) = (outcome ≢ Refused OutOfMemory) × WithoutWant outcomes
