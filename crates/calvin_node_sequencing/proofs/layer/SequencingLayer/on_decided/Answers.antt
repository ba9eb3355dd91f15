use Rattle.std.proofs.Common.{◌≡◌, [], true, false, cond, Ok, refl, sym, ap, subst, ◌∙◌}
use Rattle.std.specs.FinMap.{contains_key, get, insert}
use Rattle.std.specs.Prelude.{◌==◌, is_some}
use Rattle.calvin_order.specs.Sequencing.{decide}
use Rattle.calvin_node_acts.specs.Handling as handling
use Rattle.calvin_node_acts.specs.Layers.{layer_of, state_of, node_of}
use Rattle.calvin_node_acts.specs.NodeStates.{holding}
use Rattle.calvin_node_acts.specs.Running.{NodeDid, settled}
use Rattle.calvin_node_acts.proofs.Settling.{running, left_again, copied_some, none_there, config_at}
use Rattle.calvin_node_acts.proofs.Decisions.{now_held}
use Rattle.calvin_node_sequencing.proofs.layer.SequencingLayer.on_decided.Goals as goal

pub returns-clause-did : goal.returns-clause-did
returns-clause-did g c rest =
    let p = c.self.inside in
    let x = state_of (layer_of p.config p.id p.member p.sequencer p.merge) rest in
    let config = config_at p.config rest.points rest.cold in
    let slot = c.args.slot in
    let batch = c.args.batch.now in
    let is = left_again rest.scheduler.scheduling rest.scheduler.due in
    let free : contains_key p.merge.held slot ≡ false = sym (ap is_some c.held.ensures) ∙ copied_some c.held.result ∙ sym c.is_some.ensures ∙ c.if-is_some.false in
    let copied = c.in_ok-batch.ensures.ok in
    let seq = c.make_room.ensures.sequencing in
    let kept = now_held p.merge c.make_room.new.merge c.keep.new.merge slot c.in_ok-batch.batch c.make_room.ensures.merge c.keep.ensures.held free in
    let told = c.keep.ensures.sequencing ∙ (λ i. cond (slot.group == p.id.partition) (decide slot.epoch (copied i) (seq i)) (seq i)) in
    let new = node_of (layer_of p.config p.id p.member c.keep.new.sequencer c.keep.new.merge) rest in
    let whole : new ≡ running (config p.sequencer.delay) (settled (holding x slot batch)) = λ i. running (config ((c.keep.ensures.delay ∙ c.make_room.ensures.delay) i)) (record x { sequencer = told i; held = (kept.0 ∙ ap (λ b. insert p.merge.held slot b) copied) i; merged_epochs = kept.1 i; due = (sym is) i }) in
    subst (λ v. NodeDid {Reply = g.row.A-Reply.Denot} true (Ok tt) (handling.on_decided slot batch (node_of v rest).state (get (node_of v rest).state.held slot)) (node_of v rest) new [] []) c.self.view_is
    (subst (λ o. NodeDid {Reply = g.row.A-Reply.Denot} true (Ok tt) (handling.on_decided slot batch x o) (running (config p.sequencer.delay) x) new [] []) (sym (none_there (get p.merge.held slot) free)) (whole, refl))
