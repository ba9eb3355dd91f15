use Rattle.std.proofs.Common.{[], true, not, Ok, Err, sym, ap, subst, ◌∙◌}
use Rattle.std.proofs.lemmas.Result.{err_from_is_err_and}
use Rattle.calvin_order.specs.Keeping.{can_close}
use Rattle.calvin_order.specs.Sequencing as sequencing
use Rattle.calvin_node_acts.specs.Acting as acting
use Rattle.calvin_node_acts.specs.NodeStates.{with_sequencer}
use Rattle.calvin_node_acts.specs.Layers.{layer_of, state_of, node_of}
use Rattle.calvin_node_acts.specs.Running.{NodeDid}
use Rattle.calvin_node_acts.proofs.Settling.{running, left_again, sequenced, config_at}
use Rattle.calvin_node_sequencing.proofs.layer.SequencingLayer.close.Goals as goal

pub returns-in_err-_epoch-clause-did : goal.returns-in_err-_epoch-clause-did
returns-in_err-_epoch-clause-did g c rest =
    let p = c.self.inside in
    let x = state_of (layer_of p.config p.id p.member p.sequencer p.merge) rest in
    let config = config_at p.config rest.points rest.cold in
    let next = with_sequencer x c.close.new.self.sequencing in
    let refused = err_from_is_err_and c.from_residual.result c.from_residual.ensures.1 in
    subst (λ v. NodeDid {Reply = g.row.A-Reply.Denot} true c.from_residual.result (acting.close (node_of v rest).config (node_of v rest).state) (node_of v rest) (running (config c.close.new.self.delay) next) [] []) c.self.view_is
    (subst (λ d. NodeDid {Reply = g.row.A-Reply.Denot} true c.from_residual.result (acting.close (config p.sequencer.delay) x) (running (config p.sequencer.delay) x) (running (config d) next) [] []) (sym c.in_err-_epoch.ensures.delay)
    (subst (λ r. NodeDid {Reply = g.row.A-Reply.Denot} true r (acting.close (config p.sequencer.delay) x) (running (config p.sequencer.delay) x) (running (config p.sequencer.delay) next) [] []) (sym (refused.1 ∙ ap Err refused.2))
    (sequenced g.row.A-Reply.Denot (config p.sequencer.delay) x (left_again rest.scheduler.scheduling rest.scheduler.due) (not (can_close p.sequencer)) (Err c.in_err-_epoch.field-0.0) (sequencing.close p.sequencer.delay p.sequencer.sequencing) c.close.new.self.sequencing c.in_err-_epoch.ensures.did)))

pub returns-clause-did : goal.returns-clause-did
returns-clause-did g c rest =
    let p = c.self.inside in
    let x = state_of (layer_of p.config p.id p.member p.sequencer p.merge) rest in
    let config = config_at p.config rest.points rest.cold in
    let next = with_sequencer x c.close.new.self.sequencing in
    subst (λ v. NodeDid {Reply = g.row.A-Reply.Denot} true (Ok tt) (acting.close (node_of v rest).config (node_of v rest).state) (node_of v rest) (running (config c.close.new.self.delay) next) [] []) c.self.view_is
    (subst (λ d. NodeDid {Reply = g.row.A-Reply.Denot} true (Ok tt) (acting.close (config p.sequencer.delay) x) (running (config p.sequencer.delay) x) (running (config d) next) [] []) (sym c.in_ok-_epoch.ensures.delay)
    (sequenced g.row.A-Reply.Denot (config p.sequencer.delay) x (left_again rest.scheduler.scheduling rest.scheduler.due) (not (can_close p.sequencer)) (Ok c.in_ok-_epoch._epoch) (sequencing.close p.sequencer.delay p.sequencer.sequencing) c.close.new.self.sequencing c.in_ok-_epoch.ensures.did))
