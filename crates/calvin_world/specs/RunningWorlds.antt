-- A world in code: its nodes and packets. The notion is of this project.
--     world_of c nodes packets      the world of these nodes and packets
--     IsOpened c nodes      they are all nodes of a store that is opened with this
--     IsReached m w      a list of events led from the opening to this world
use Rattle.std.specs.Prelude.{◌≡◌, ℕ, ◌*◌, List, map, length, Some, slice_get}
use Rattle.calvin_app.specs.Meaning.{Meaning}
use Rattle.calvin_order.specs.Configs.{Config}
use Rattle.calvin_node_packets.specs.declared.packet.Packet.{Packet}
use Rattle.calvin_node_acts.specs.Running.{Running}
use Rattle.calvin_world.specs.declared.event.Event.{Event}
use Rattle.calvin_world.specs.declared.event.Outcome.{Outcome}
use Rattle.calvin_world.specs.Worlds.{WorldState, opening}
use Rattle.calvin_world.specs.SettledWorlds.{SettledLeads}

module _ {Args Row Reply : Type 0} where
  abbrev pub world_of : Config → List (Running Args Row) → List (Packet Args Row Reply) → WorldState Args Row Reply
  world_of c nodes packets = record { config = c; nodes = map (λ n. n.state) nodes; packets = packets }

  -- some events led here from the opening
  abbrev pub IsReached : Meaning Args Row Reply → WorldState Args Row Reply → Type 0
  IsReached m w = (events : List (Event Args)) × (outcomes : List Outcome) × SettledLeads m (opening w.config) events outcomes w

module _ {Args Row : Type 0} where
  pub record IsOpened (c : Config) (nodes : List (Running Args Row)) : Type 0 where
    pub number : length nodes ≡ c.replicas * c.partitions
    pub each : (i : ℕ) (n : Running Args Row) → slice_get nodes i ≡ Some n → n.config ≡ c
