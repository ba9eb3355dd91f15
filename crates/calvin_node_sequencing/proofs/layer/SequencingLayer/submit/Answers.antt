use Rattle.std.proofs.Common.{[], true, not, sym, subst}
use Rattle.calvin_order.specs.Keeping.{can_submit}
use Rattle.calvin_order.specs.Sequencing as sequencing
use Rattle.calvin_node_acts.specs.Acting as acting
use Rattle.calvin_node_acts.specs.NodeStates.{with_sequencer}
use Rattle.calvin_node_acts.specs.Layers.{layer_of, state_of, node_of}
use Rattle.calvin_node_acts.specs.Running.{NodeDid}
use Rattle.calvin_node_acts.proofs.Settling.{running, left_again, sequenced, ended_is, config_at}
use Rattle.calvin_node_sequencing.proofs.layer.SequencingLayer.submit.Goals as goal

pub returns-clause-did : goal.returns-clause-did
returns-clause-did g c rest =
    let p = c.self.inside in
    let x = state_of (layer_of p.config p.id p.member p.sequencer p.merge) rest in
    let config = config_at p.config rest.points rest.cold in
    let next = with_sequencer x c.submit.new.self.sequencing in
    subst (λ v. NodeDid {Reply = g.row.A-Reply.Denot} true c.submit.result (acting.submit c.args.txn (node_of v rest).state) (node_of v rest) (running (config c.submit.new.self.delay) next) [] []) c.self.view_is
    (subst (λ d. NodeDid {Reply = g.row.A-Reply.Denot} true c.submit.result (acting.submit c.args.txn x) (running (config p.sequencer.delay) x) (running (config d) next) [] []) (sym c.submit.ensures.delay)
    (subst (λ r. NodeDid {Reply = g.row.A-Reply.Denot} true r (acting.submit c.args.txn x) (running (config p.sequencer.delay) x) (running (config p.sequencer.delay) next) [] []) (ended_is c.submit.result)
    (sequenced g.row.A-Reply.Denot (config p.sequencer.delay) x (left_again rest.scheduler.scheduling rest.scheduler.due) (not (can_submit p.sequencer)) c.submit.result (sequencing.submit c.args.txn p.sequencer.sequencing) c.submit.new.self.sequencing c.submit.ensures.did)))
