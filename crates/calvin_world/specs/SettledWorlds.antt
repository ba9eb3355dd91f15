-- A world in code: of the places that are due each of its nodes keeps those that aren't done, so after each event the nodes are
-- those of the definitions, settled. The notion is of this project.
use Rattle.std.specs.Prelude.{◌≡◌, true, List, [], ◌∷◌, map, Result, Ok, Err, ◌⊎◌, slice_set}
use Rattle.calvin_types.specs.declared.fault.Fault.{Fault}
use Rattle.calvin_types.specs.declared.fault.Fault.TheVariants.{OutOfMemory}
use Rattle.calvin_types.specs.declared.place.NodeId.{NodeId}
use Rattle.calvin_app.specs.Meaning.{Meaning}
use Rattle.calvin_node_acts.specs.NodeStates.{NodeState}
use Rattle.calvin_node_packets.specs.declared.packet.Packet.{Packet}
use Rattle.calvin_node_acts.specs.Running.{settled}
use Rattle.calvin_world.specs.declared.event.Event.{Event}
use Rattle.calvin_world.specs.declared.event.Outcome.{Outcome}
use Rattle.calvin_world.specs.declared.event.Outcome.TheVariants.{Done, Refused}
use Rattle.calvin_world.specs.Worlds.{WorldState, TakesEffect, index_of, grows, happens}

-- how the event of a node's call ends
abbrev pub outcome_of : Result (Unit {0}) Fault → Outcome
outcome_of (Ok out) = Done
outcome_of (Err fault) = Refused fault

module _ {Args Row Reply : Type 0} where
  -- the world after a call of one node, with all that is sent
  abbrev pub called : WorldState Args Row Reply → NodeId → NodeState Args Row → List (Packet Args Row Reply) → WorldState Args Row Reply
  called w me y packets = record w { nodes = slice_set w.nodes (index_of w.config.partitions me) y; packets = packets }

  -- each node is settled
  abbrev pub settled_world : WorldState Args Row Reply → WorldState Args Row Reply
  settled_world w = record w { nodes = map settled w.nodes }

  module _ (m : Meaning Args Row Reply) where
    -- how an event ends, and the world after it, settled
    abbrev pub settles : WorldState Args Row Reply → Event Args → Outcome × WorldState Args Row Reply
    settles w event = ((happens m w event).0, settled_world (happens m w event).1)

    -- one event: it ends as its case says and leaves the world settled, or it would take effect and grow something, but memory runs out and nothing changes
    abbrev pub SettledStep : WorldState Args Row Reply → Event Args → Outcome → WorldState Args Row Reply → Type 0
    SettledStep w event outcome after = ((outcome, after) ≡ settles w event) ⊎ (TakesEffect (happens m w event).0 × (grows w event ≡ true) × (outcome ≡ Refused OutOfMemory) × (after ≡ w))

    -- a list of events leads from one world to another, with an outcome for each
    abbrev pub SettledLeads : WorldState Args Row Reply → List (Event Args) → List Outcome → WorldState Args Row Reply → Type 0
    SettledLeads w [] [] after = after ≡ w
    SettledLeads w [] (outcome ∷ outcomes) after = ⊥
    SettledLeads w (event ∷ events) [] after = ⊥
    SettledLeads w (event ∷ events) (outcome ∷ outcomes) after = (next : WorldState Args Row Reply) × SettledStep w event outcome next × SettledLeads next events outcomes after
