use Rattle.std.proofs.Common.{◌≡◌, take, map}
use Rattle.calvin_node_acts.specs.Running.{Running}
use Rattle.calvin_report.specs.Reports.{last_standing, least_with}
use Rattle.calvin_report.proofs.nodes.finished.Given as goal

-- the least so far
abbrev pub invariant-loop-node : goal.invariant-loop-node
invariant-loop-node g l = l.least ≡ least_with l.initial.least (map (λ (n : Running g.row.A-Args.Denot g.row.A-Row.Denot). last_standing n.state) (take l.node-index l.others))
