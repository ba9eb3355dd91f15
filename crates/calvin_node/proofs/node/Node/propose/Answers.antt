use Rattle.std.proofs.Common.{true, subst}
use Rattle.calvin_node_acts.specs.Acting as acting
use Rattle.calvin_node_acts.specs.Layers.{rest_of, node_of}
use Rattle.calvin_node_acts.specs.Running.{NodeDid}
use Rattle.calvin_node_acts.proofs.Settling.{still_node}
use Rattle.calvin_node.proofs.node.Node.propose.Goals as goal

pub invariant_of-self : goal.invariant_of-self
invariant_of-self g c = let p = c.self.inside in still_node p.layer c.propose.new.self p.scheduler c.propose.ensures.of c.self.invariant

pub returns : goal.returns
returns g c =
    let p = c.self.inside in
    let below = rest_of g.S.Rows.points g.S.Rows.cold p.pending.requests p.scheduler p.kept in
    record { did = subst (λ v. NodeDid true c.propose.result (acting.propose v.config c.args.epoch v.state) v (node_of c.propose.new.self below) c.args.outbox.now.packets c.propose.new.outbox.packets) c.self.view_is (c.propose.ensures.did below) }
