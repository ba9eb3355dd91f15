-- For the code: the least of the epochs at whose ends the nodes stand that were looked at so far.
use Rattle.std.specs.Prelude.{ℕ, not, List, [], ◌∷◌, map, Option}
use Rattle.std.specs.List.{filter}
use Rattle.calvin_node_acts.specs.NodeStates.{NodeState}
use Rattle.calvin_report.specs.Reports.{least_with, last_standing, is_lost}
use Rattle.calvin_report.specs.declared.nodes.Least.{Least}
use Rattle.calvin_report.specs.declared.nodes.Least.TheVariants.{NoNode, Of}

-- the least of some epochs, or that there are none
abbrev pub so_far : List (Option ℕ) → Least
so_far [] = NoNode
so_far (a ∷ others) = Of (least_with a others)

-- the last epochs of the nodes whose replica isn't the lost one
abbrev pub kept_epochs : {Args Row : Type 0} → Option ℕ → List (NodeState Args Row) → List (Option ℕ)
kept_epochs lost nodes = map last_standing (filter (λ x. not (is_lost lost x.id.replica)) nodes)
