use Rattle.std.proofs.Common.{◌∙◌}
use Rattle.calvin_sched.specs.Steps as steps
use Rattle.calvin_node_acts.specs.NodeStates.{site_of}
use Rattle.calvin_node.proofs.node.Node.job.Goals as goal

pub returns : goal.returns
returns g c =
    let p = c.self.inside in
    c.job.ensures
    ∙ (λ i. steps.job (c.self.invariant.here i) c.args.place p.scheduler.scheduling)
    ∙ (λ i. steps.job (site_of (c.self.view_is i).config.partitions (c.self.view_is i).state) c.args.place (c.self.view_is i).state.scheduler)
