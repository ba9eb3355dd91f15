-- Node by node.
use Rattle.std.proofs.Common.{List, ap, ◌∙◌, map}
use Rattle.std.proofs.lemmas.List.{take_all}
use Rattle.calvin_node_acts.specs.NodeStates.{NodeState}
use Rattle.calvin_node_acts.specs.Running.{Running}
use Rattle.calvin_report.specs.Reports.{last_standing, lesser, least_with, least}
use Rattle.calvin_report.proofs.Least.{next_least, least_of}
use Rattle.calvin_report.proofs.nodes.finished.Goals as goal

pub loop-node-preserved : goal.loop-node-preserved
loop-node-preserved g c = next_least (λ (n : Running g.row.A-Args.Denot g.row.A-Row.Denot). last_standing n.state) c.in_ok-first.others.now c.loop-node.node-index c.node-item.result c.loop-node-test.true c.node-item.is
    c.stands_at-least.result c.loop-node.least c.lesser-least.result c.loop-node.invariant (c.lesser-least.ensures ∙ ap (lesser c.loop-node.least) c.stands_at.ensures)

pub returns : goal.returns
returns g c =
    c.loop-node.invariant
    ∙ ap (λ (ns : List (Running g.row.A-Args.Denot g.row.A-Row.Denot)). least_with c.stands_at-least.result (map (λ (n : Running g.row.A-Args.Denot g.row.A-Row.Denot). last_standing n.state) ns)) (take_all c.loop-node.node-index c.in_ok-first.others.now c.loop-node-test.false)
    ∙ least_of last_standing (λ (n : Running g.row.A-Args.Denot g.row.A-Row.Denot). n.state) c.nodes.result.now c.in_ok-first.first.now c.in_ok-first.others.now c.stands_at-least.result c.in_ok-first.ensures.cases.0 c.stands_at-least.ensures
    ∙ ap (λ (ns : List (NodeState g.row.A-Args.Denot g.row.A-Row.Denot)). least (map last_standing ns)) c.nodes.ensures.nodes
