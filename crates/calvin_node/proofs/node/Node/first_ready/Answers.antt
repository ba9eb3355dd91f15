use Rattle.std.proofs.Common.{subst}
use Rattle.calvin_sched.specs.Keeping.{IsFirstReadyHere}
use Rattle.calvin_node_acts.specs.NodeStates.{site_of}
use Rattle.calvin_node.proofs.node.Node.first_ready.Goals as goal

pub returns : goal.returns
returns g c =
    subst (λ v. IsFirstReadyHere (site_of v.config.partitions v.state) v.state.scheduler c.args.after c.first_ready.result) c.self.view_is
    (subst (λ here. IsFirstReadyHere here c.self.inside.scheduler.scheduling c.args.after c.first_ready.result) c.self.invariant.here c.first_ready.ensures)
