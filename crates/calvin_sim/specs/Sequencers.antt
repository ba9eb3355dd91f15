-- What the sequencers of replica 0 have taken so far. The notion is of this project.
--     IsOpen w g n e      the group's has at most n requests and has come to epoch e at most
--     AreOpen w partitions n e      each group's has, with so many for each
use Rattle.std.specs.Prelude.{◌≡◌, ℕ, ◌+◌, ◌<◌, ◌≤◌, Some, length}
use Rattle.calvin_order.specs.Sequencing.{load}
use Rattle.calvin_node_acts.specs.NodeStates.{NodeState}
use Rattle.calvin_world.specs.Worlds.{WorldState, node_at}
use Rattle.calvin_sim.specs.Simulations.{sequencer_of}

module _ {Args Row Reply : Type 0} where
  pub record IsOpen (w : WorldState Args Row Reply) (g n e : ℕ) : Type 0 where
    pub node : NodeState Args Row
    pub there : node_at w (sequencer_of g) ≡ Some node
    pub taken : load node.sequencer ≤ n
    pub closed : node.sequencer.opening + length node.sequencer.closed + length node.sequencer.decided ≤ e

  abbrev pub AreOpen : WorldState Args Row Reply → ℕ → (ℕ → ℕ) → ℕ → Type 0
  AreOpen w partitions n e = (g : ℕ) → g < partitions → IsOpen w g (n g) e
