-- Node by node.
use Rattle.std.proofs.Common.{List, [], ◌∷◌, sym, ap, ◌∙◌, map, Some}
use Rattle.std.proofs.lemmas.List.{take_all, map-append}
use Rattle.std.proofs.lemmas.Option.{slice_get-get_or}
use Rattle.std.specs.Prelude.{take}
use Rattle.calvin_types.proofs.Fews.{take_at}
use Rattle.calvin_node_acts.specs.NodeStates.{NodeState}
use Rattle.calvin_node_acts.specs.Running.{Running}
use Rattle.calvin_report.specs.Reports.{least}
use Rattle.calvin_report.specs.SoFar.{so_far, kept_epochs}
use Rattle.calvin_report.proofs.nodes.finished_but.Goals as goal

pub loop-node-preserved : goal.loop-node-preserved
loop-node-preserved g c =
    let nodes = c.nodes-node-items.result.now in
    let here = slice_get-get_or nodes c.loop-node.node-index c.node-item.result c.loop-node-test.true ∙ ap Some (sym c.node-item.is) in
    let state = λ (n : Running g.row.A-Args.Denot g.row.A-Row.Denot). n.state in
    let more = ap (map state) (take_at nodes c.loop-node.node-index c.node-item.result here) ∙ map-append state (take c.loop-node.node-index nodes) (c.node-item.result ∷ []) in
    c.with_node-least.ensures (map state (take c.loop-node.node-index nodes)) c.loop-node.invariant
    ∙ ap (λ (ns : List (NodeState g.row.A-Args.Denot g.row.A-Row.Denot)). so_far (kept_epochs c.args.lost ns)) (sym more)

pub returns : goal.returns
returns g c =
    let nodes = c.nodes-node-items.result.now in
    let state = λ (n : Running g.row.A-Args.Denot g.row.A-Row.Denot). n.state in
    c.epoch.ensures (kept_epochs c.args.lost (map state (take c.loop-node.node-index nodes))) c.loop-node.invariant
    ∙ ap (λ (ns : List (Running g.row.A-Args.Denot g.row.A-Row.Denot)). least (kept_epochs c.args.lost (map state ns))) (take_all c.loop-node.node-index nodes c.loop-node-test.false)
    ∙ ap (λ (ns : List (NodeState g.row.A-Args.Denot g.row.A-Row.Denot)). least (kept_epochs c.args.lost ns)) c.nodes-node-items.ensures.nodes
