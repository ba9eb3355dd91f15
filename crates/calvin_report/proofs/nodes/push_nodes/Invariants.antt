use Rattle.std.proofs.Common.{◌≡◌, ◌++◌, take}
use Rattle.std.specs.List.{flat_map}
use Rattle.calvin_node_acts.specs.Running.{Running}
use Rattle.calvin_report.specs.Reports.{line_of}
use Rattle.calvin_report.proofs.nodes.push_nodes.Given as goal

-- the lines so far
abbrev pub invariant-loop-node : goal.invariant-loop-node
invariant-loop-node g l = l.text.items ≡ l.initial.text.items ++ flat_map (λ (n : Running g.row.A-Args.Denot g.row.A-Row.Denot). line_of n.state) (take l.node-index l.node-items)
