use Rattle.std.proofs.Common.{◌≡◌, take, map}
use Rattle.calvin_node_acts.specs.Running.{Running}
use Rattle.calvin_report.specs.SoFar.{so_far, kept_epochs}
use Rattle.calvin_report.proofs.nodes.finished_but.Given as goal

-- the least so far
abbrev pub invariant-loop-node : goal.invariant-loop-node
invariant-loop-node g l = l.least ≡ so_far (kept_epochs l.lost (map (λ (n : Running g.row.A-Args.Denot g.row.A-Row.Denot). n.state) (take l.node-index l.node-items)))
