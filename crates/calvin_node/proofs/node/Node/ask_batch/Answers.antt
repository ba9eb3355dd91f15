use Rattle.std.proofs.Common.{true, subst}
use Rattle.calvin_node_acts.specs.Acting as acting
use Rattle.calvin_node_acts.specs.Layers.{rest_of}
use Rattle.calvin_node_acts.specs.Running.{NodeDid}
use Rattle.calvin_node.proofs.node.Node.ask_batch.Goals as goal

pub returns : goal.returns
returns g c =
    let p = c.self.inside in
    let below = rest_of g.S.Rows.points g.S.Rows.cold p.pending.requests p.scheduler p.kept in
    record { did = subst (λ v. NodeDid true c.ask_batch.result (acting.ask_batch v.config c.args.slot c.args.of v.state) v v c.args.outbox.now.packets c.ask_batch.new.outbox.packets) c.self.view_is (c.ask_batch.ensures.did below) }
