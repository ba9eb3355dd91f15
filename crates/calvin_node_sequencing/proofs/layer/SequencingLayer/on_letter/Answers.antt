use Rattle.std.proofs.Common.{◌≡◌, Ok, Err, None, sym, ap, subst, ◌∙◌}
use Rattle.std.proofs.lemmas.Result.{err_from_is_err_and}
use Rattle.calvin_synod.specs.Cases as cases
use Rattle.calvin_synod.specs.Cases.{message_grows}
use Rattle.calvin_node_packets.specs.Letters.{MemberSent, given_by}
use Rattle.calvin_node_acts.specs.Handling as handling
use Rattle.calvin_node_acts.specs.Layers.{layer_of, state_of, node_of}
use Rattle.calvin_node_acts.specs.Running.{NodeDid}
use Rattle.calvin_node_acts.proofs.Settling.{running, left_again, config_at}
use Rattle.calvin_node_acts.proofs.Answered.{by_member, names_kept}
use Rattle.calvin_node_sequencing.proofs.layer.SequencingLayer.on_letter.Goals as goal

pub invariant_of-self : goal.invariant_of-self
invariant_of-self g c =
    let p = c.self.inside in
    let kept = names_kept (message_grows c.args.message.now) (Err c.in_err-_none.field-0.0) (cases.handle p.member.size c.args.from c.args.message.now p.member.replica) p.config.replicas p.config.partitions p.id p.member c.post_answer.new.member c.args.outbox.now.packets c.post_answer.new.self.packets c.in_err-_none.ensures.did in
    record { group_size = kept.0 ∙ c.self.invariant.group_size; replica = kept.1 ∙ c.self.invariant.replica; groups = c.self.invariant.groups }

pub returns-in_err-_none-clause-did : goal.returns-in_err-_none-clause-did
returns-in_err-_none-clause-did g c rest =
    let p = c.self.inside in
    let x = state_of (layer_of p.config p.id p.member p.sequencer p.merge) rest in
    let config = config_at p.config rest.points rest.cold p.sequencer.delay in
    let reply = g.row.A-Reply.Denot in
    let sent = c.args.outbox.now.packets in
    let all = c.post_answer.new.self.packets in
    let after = c.post_answer.new.member in
    let grows = message_grows c.args.message.now in
    let deed = cases.handle p.config.replicas c.args.from c.args.message.now x.synod in
    let none = subst (λ v. given_by (cases.handle v.config.replicas c.args.from c.args.message.now v.synod) ≡ None) (sym c.self.view_is) c.requires in
    let e = c.in_err-_none.field-0.0 in
    let failed = err_from_is_err_and c.from_residual.result c.from_residual.ensures.1 in
    let did = subst (λ n. MemberSent grows (Err e) (cases.handle n c.args.from c.args.message.now p.member.replica) p.config.replicas p.config.partitions p.id p.member after sent all) c.self.invariant.group_size c.in_err-_none.ensures.did in
    subst (λ v. NodeDid {Reply = reply} grows c.from_residual.result (handling.by_synod (node_of v rest).config (node_of v rest).state (cases.handle v.config.replicas c.args.from c.args.message.now v.synod)) (node_of v rest) (running config (record x { synod = after.replica })) sent all) c.self.view_is
    (subst (λ r. NodeDid {Reply = reply} grows r (handling.by_synod config x deed) (running config x) (running config (record x { synod = after.replica })) sent all) (sym (failed.1 ∙ ap Err failed.2))
    (by_member reply config x (left_again rest.scheduler.scheduling rest.scheduler.due) sent grows p.member.size p.member.me deed (Err e) after all none did))

pub invariant_of-self-2 : goal.invariant_of-self-2
invariant_of-self-2 g c =
    let p = c.self.inside in
    let kept = names_kept (message_grows c.args.message.now) (Ok c.in_ok-_none._none) (cases.handle p.member.size c.args.from c.args.message.now p.member.replica) p.config.replicas p.config.partitions p.id p.member c.post_answer.new.member c.args.outbox.now.packets c.post_answer.new.self.packets c.in_ok-_none.ensures.did in
    record { group_size = kept.0 ∙ c.self.invariant.group_size; replica = kept.1 ∙ c.self.invariant.replica; groups = c.self.invariant.groups }

pub returns-clause-did : goal.returns-clause-did
returns-clause-did g c rest =
    let p = c.self.inside in
    let x = state_of (layer_of p.config p.id p.member p.sequencer p.merge) rest in
    let config = config_at p.config rest.points rest.cold p.sequencer.delay in
    let reply = g.row.A-Reply.Denot in
    let sent = c.args.outbox.now.packets in
    let all = c.post_answer.new.self.packets in
    let after = c.post_answer.new.member in
    let grows = message_grows c.args.message.now in
    let deed = cases.handle p.config.replicas c.args.from c.args.message.now x.synod in
    let none = subst (λ v. given_by (cases.handle v.config.replicas c.args.from c.args.message.now v.synod) ≡ None) (sym c.self.view_is) c.requires in
    let did = subst (λ n. MemberSent grows (Ok c.in_ok-_none._none) (cases.handle n c.args.from c.args.message.now p.member.replica) p.config.replicas p.config.partitions p.id p.member after sent all) c.self.invariant.group_size c.in_ok-_none.ensures.did in
    subst (λ v. NodeDid {Reply = reply} grows (Ok tt) (handling.by_synod (node_of v rest).config (node_of v rest).state (cases.handle v.config.replicas c.args.from c.args.message.now v.synod)) (node_of v rest) (running config (record x { synod = after.replica })) sent all) c.self.view_is
    (by_member reply config x (left_again rest.scheduler.scheduling rest.scheduler.due) sent grows p.member.size p.member.me deed (Ok c.in_ok-_none._none) after all none did)
