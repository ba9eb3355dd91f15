-- Node by node.
use Rattle.std.proofs.Common.{◌++◌, List, sym, ap, ◌∙◌}
use Rattle.std.specs.List.{flat_map}
use Rattle.std.proofs.lemmas.List.{take_all}
use Rattle.std.proofs.lemmas.List.Folds.{flat_map-map}
use Rattle.calvin_node_acts.specs.Running.{Running}
use Rattle.calvin_report.specs.Reports.{line_of}
use Rattle.calvin_report.proofs.NodeLines.{next_line}
use Rattle.calvin_report.proofs.nodes.push_nodes.Goals as goal

pub loop-node-preserved : goal.loop-node-preserved
loop-node-preserved g c = next_line (λ (n : Running g.row.A-Args.Denot g.row.A-Row.Denot). line_of n.state) c.nodes-node-items.result.now c.loop-node.node-index c.node-item.result c.loop-node-test.true c.node-item.is
    c.args.text.now.items c.loop-node.text.items c.push_node.new.text.items c.loop-node.invariant c.in_ok-push_node.ensures

pub returns : goal.returns
returns g c =
    c.loop-node.invariant
    ∙ ap (λ (ns : List (Running g.row.A-Args.Denot g.row.A-Row.Denot)). c.args.text.now.items ++ flat_map (λ (n : Running g.row.A-Args.Denot g.row.A-Row.Denot). line_of n.state) ns) (take_all c.loop-node.node-index c.nodes-node-items.result.now c.loop-node-test.false)
    ∙ ap (λ lines. c.args.text.now.items ++ lines) (sym (flat_map-map line_of (λ (n : Running g.row.A-Args.Denot g.row.A-Row.Denot). n.state) c.nodes-node-items.result.now))
    ∙ ap (λ nodes. c.args.text.now.items ++ flat_map line_of nodes) c.nodes-node-items.ensures.nodes
