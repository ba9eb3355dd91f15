-- A book: what a store was opened with, and the events that led to its world, each of which took effect. The notions are of this
-- project.
--     Log Args      what was opened, and the events
--     done_each events      each of them takes effect
--     IsRun m c events w      the events, each taking effect, lead from the opening to the world
--     world_after m c events      the world that events lead to from the opening, as it stands in code
--     Applied m old event new      one event more took effect
--     IsRefused m log event fault      why an event isn't taken
--     CountsSent m c events sent      after each event so many packets had been sent
use Rattle.std.specs.Prelude.{◌≡◌, ◌⊎◌, ℕ, suc, List, [], ◌∷◌, ◌++◌, length, take, Some, slice_get}
use Rattle.calvin_types.specs.declared.fault.Fault.{Fault}
use Rattle.calvin_types.specs.declared.fault.Fault.TheVariants.{OutOfMemory}
use Rattle.calvin_app.specs.Meaning.{Meaning}
use Rattle.calvin_order.specs.Configs.{Config}
use Rattle.calvin_world.specs.declared.event.Event.{Event}
use Rattle.calvin_world.specs.declared.event.Outcome.{Outcome}
use Rattle.calvin_world.specs.declared.event.Outcome.TheVariants.{Done, Refused}
use Rattle.calvin_world.specs.Worlds.{WorldState, opening}
use Rattle.calvin_world.specs.SettledWorlds.{settled_world, settles, SettledLeads}
use Rattle.calvin_world.specs.Through.{through}

pub record Log (Args : Type 0) : Type 0 where
  pub config : Config
  pub events : List (Event Args)

module _ {Args : Type 0} where
  abbrev pub done_each : List (Event Args) → List Outcome
  done_each [] = []
  done_each (event ∷ events) = Done ∷ done_each events

module _ {Args Row Reply : Type 0} (m : Meaning Args Row Reply) where
  abbrev pub IsRun : Config → List (Event Args) → WorldState Args Row Reply → Type 0
  IsRun c events w = SettledLeads m (opening c) events (done_each events) w

  abbrev pub world_after : Config → List (Event Args) → WorldState Args Row Reply
  world_after c events = settled_world (through m (opening c) events).1

  -- the event took effect in the world that the others lead to, and is the last one
  pub record Applied (old : Log Args) (event : Event Args) (new : Log Args) : Type 0 where
    pub appended : new ≡ record { config = old.config; events = old.events ++ event ∷ [] }
    pub takes : (Done, world_after new.config new.events) ≡ settles m (world_after old.config old.events) event

  -- its case says so; or memory ran out
  abbrev pub IsRefused : Log Args → Event Args → Fault → Type 0
  IsRefused log event fault = ((settles m (world_after log.config log.events) event).0 ≡ Refused fault) ⊎ (fault ≡ OutOfMemory)

  pub record CountsSent (c : Config) (events : List (Event Args)) (sent : List ℕ) : Type 0 where
    pub number : length sent ≡ length events
    pub each : (k : ℕ) (n : ℕ) → slice_get sent k ≡ Some n → n ≡ length (world_after c (take (suc k) events)).packets
