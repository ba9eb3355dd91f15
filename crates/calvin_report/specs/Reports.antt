-- What is printed of events and of the nodes of a world. The texts are of this project.
--     outcome_line k outcome      how the event of a number ended: `k ok`, or `k refused` and the number of the fault
--     outcome_lines k outcomes      how events ended, the first of which has the number k
--     epoch_text last      an epoch, or `none`
--     node_line id last rows      `node r.p stands e rows m`
--     last_standing x      the last epoch at whose end a node stands, if there is one
--     node_lines w      a line for each node, replica by replica
--     lesser a b, least epochs      the lesser of two epochs, and the least of several; none where one of them is none
--     least_standing w      the least of the epochs at whose ends the nodes stand
--     is_lost lost r      a replica is the one whose packets are lost, if there is one
--     least_kept lost w      the least of the epochs at whose ends the nodes of the other replicas stand
use Rattle.std.specs.Prelude.{ℕ, suc, Bool, false, not, nat_eq, List, [], ◌∷◌, ◌++◌, map, min, codes, decimal, Option, Some, None}
use Rattle.std.specs.List.{flat_map, filter}
use Rattle.std.specs.FinMap.{len}
use Rattle.calvin_types.specs.declared.place.NodeId.{NodeId}
use Rattle.calvin_types.specs.Faults.{number_of}
use Rattle.calvin_sched.specs.Standing.{stands_at}
use Rattle.calvin_node_acts.specs.NodeStates.{NodeState}
use Rattle.calvin_world.specs.declared.event.Outcome.{Outcome}
use Rattle.calvin_world.specs.declared.event.Outcome.TheVariants.{Done, Refused}
use Rattle.calvin_world.specs.Worlds.{WorldState}

-- how an event ended
abbrev pub outcome_line : ℕ → Outcome → List ℕ
outcome_line k Done = decimal k ++ codes " ok\n"
outcome_line k (Refused fault) = decimal k ++ codes " refused " ++ decimal (number_of fault) ++ codes "\n"

-- how events ended, which are numbered from k
abbrev pub outcome_lines : ℕ → List Outcome → List ℕ
outcome_lines k [] = []
outcome_lines k (outcome ∷ outcomes) = outcome_line k outcome ++ outcome_lines (suc k) outcomes

-- an epoch, or that there is none
abbrev pub epoch_text : Option ℕ → List ℕ
epoch_text None = codes "none"
epoch_text (Some e) = decimal e

-- a node: its name, the last epoch at whose end it stands, and how many rows it has
abbrev pub node_line : NodeId → Option ℕ → ℕ → List ℕ
node_line id last rows = codes "node " ++ decimal id.replica ++ codes "." ++ decimal id.partition ++ codes " stands " ++ epoch_text last ++ codes " rows " ++ decimal rows ++ codes "\n"

-- the lesser of two epochs; none where one is none
abbrev pub lesser : Option ℕ → Option ℕ → Option ℕ
lesser None b = None
lesser (Some a) None = None
lesser (Some a) (Some b) = Some (min a b)

-- the least of an epoch and of others; none where one is none
abbrev pub least_with : Option ℕ → List (Option ℕ) → Option ℕ
least_with a [] = a
least_with a (b ∷ others) = lesser a (least_with b others)

-- the least of some epochs; none where one is none, or where there are none
abbrev pub least : List (Option ℕ) → Option ℕ
least [] = None
least (a ∷ others) = least_with a others

-- the replica of this number is the one whose packets are lost, if there is one
abbrev pub is_lost : Option ℕ → ℕ → Bool
is_lost None r = false
is_lost (Some lost) r = nat_eq lost r

module _ {Args Row : Type 0} where
  abbrev pub last_standing : NodeState Args Row → Option ℕ
  last_standing x = stands_at x.scheduler x.merged_epochs x.due

  -- the line of a node with these data
  abbrev pub line_of : NodeState Args Row → List ℕ
  line_of x = node_line x.id (last_standing x) (len x.scheduler.store.map)

module _ {Args Row Reply : Type 0} where
  abbrev pub node_lines : WorldState Args Row Reply → List ℕ
  node_lines w = flat_map line_of w.nodes

  -- the least of the last epochs at whose ends the nodes stand; none where one stands nowhere
  abbrev pub least_standing : WorldState Args Row Reply → Option ℕ
  least_standing w = least (map last_standing w.nodes)

  -- the same of the nodes whose replicas aren't among the lost ones; none also where there are no others
  abbrev pub least_kept : (ℕ → Bool) → WorldState Args Row Reply → Option ℕ
  least_kept lost w = least (map last_standing (filter (λ x. not (lost x.id.replica)) w.nodes))
