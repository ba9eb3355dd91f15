use Rattle.std.proofs.Common.{◌++◌, true, not, Ok, sym, ap, subst, ◌∙◌}
use Rattle.calvin_order.specs.Keeping.{can_submit_cold}
use Rattle.calvin_order.specs.Sequencing as sequencing
use Rattle.calvin_node_packets.specs.Packets.{warm_packets, participants}
use Rattle.calvin_node_acts.specs.Acting as acting
use Rattle.calvin_node_acts.specs.NodeStates.{with_sequencer}
use Rattle.calvin_node_acts.specs.Layers.{layer_of, state_of, node_of}
use Rattle.calvin_node_acts.specs.Running.{NodeDid}
use Rattle.calvin_node_acts.proofs.Settling.{running, left_again, sequenced_and_sent, config_at}
use Rattle.calvin_node_sequencing.proofs.layer.SequencingLayer.submit_cold.Goals as goal

pub returns-clause-did : goal.returns-clause-did
returns-clause-did g c rest =
    let p = c.self.inside in
    let x = state_of (layer_of p.config p.id p.member p.sequencer p.merge) rest in
    let config = config_at p.config rest.points rest.cold in
    let s = c.submit_cold.new.self.sequencing in
    let sent = c.args.outbox.now.packets in
    let all = c.post_warm.new.self.packets in
    let packets = warm_packets p.config.partitions p.id c.args.txn (participants p.config.partitions c.args.txn) in
    subst (λ v. NodeDid true (Ok tt) (acting.submit_cold (node_of v rest).config c.args.txn (node_of v rest).state) (node_of v rest) (running (config c.submit_cold.new.self.delay) (with_sequencer x s)) sent all) c.self.view_is
    (subst (λ d. NodeDid true (Ok tt) (acting.submit_cold (config p.sequencer.delay) c.args.txn x) (running (config p.sequencer.delay) x) (running (config d) (with_sequencer x s)) sent all) (sym c.in_ok-submit_cold.ensures.delay)
    (sequenced_and_sent g.row.A-Reply.Denot (config p.sequencer.delay) x (left_again rest.scheduler.scheduling rest.scheduler.due) (not (can_submit_cold p.sequencer)) c.in_ok-submit_cold.field-0 (sequencing.submit_cold p.sequencer.delay c.args.txn p.sequencer.sequencing) s packets sent all c.in_ok-submit_cold.ensures.did
    (c.post_warm.ensures ∙ ap (λ ps. ps ++ packets) c.in_ok-reserve.ensures.packets)))
