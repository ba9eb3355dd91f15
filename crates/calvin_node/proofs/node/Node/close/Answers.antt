use Rattle.std.proofs.Common.{[], true, subst}
use Rattle.calvin_node_acts.specs.Acting as acting
use Rattle.calvin_node_acts.specs.Layers.{rest_of, node_of}
use Rattle.calvin_node_acts.specs.Running.{NodeDid}
use Rattle.calvin_node_acts.proofs.Settling.{still_node}
use Rattle.calvin_node.proofs.node.Node.close.Goals as goal

pub invariant_of-self : goal.invariant_of-self
invariant_of-self g c = let p = c.self.inside in still_node p.layer c.close.new.self p.scheduler c.close.ensures.of c.self.invariant

pub returns : goal.returns
returns g c =
    let p = c.self.inside in
    let below = rest_of g.S.Rows.points g.S.Rows.cold p.pending.requests p.scheduler p.kept in
    record { did = subst (λ v. NodeDid {Reply = g.row.A-Reply.Denot} true c.close.result (acting.close v.config v.state) v (node_of c.close.new.self below) [] []) c.self.view_is (c.close.ensures.did below) }
