use Rattle.std.proofs.Common.{◌≡◌, true, false, cond, None, Ok, Err, sym, ap, subst, ◌∙◌}
use Rattle.std.specs.FinMap.{contains_key, get, insert}
use Rattle.std.specs.Prelude.{◌==◌, is_some}
use Rattle.std.proofs.lemmas.Result.{err_from_is_err_and}
use Rattle.calvin_synod.specs.Cases as cases
use Rattle.calvin_synod.specs.Cases.{message_grows}
use Rattle.calvin_synod.specs.Roles.{knows, completes}
use Rattle.calvin_order.specs.Sequencing.{decide}
use Rattle.calvin_node_packets.specs.Letters.{MemberSent}
use Rattle.calvin_node_acts.specs.Handling as handling
use Rattle.calvin_node_acts.specs.Layers.{layer_of, state_of, node_of}
use Rattle.calvin_node_acts.specs.NodeStates.{with_synod, holding}
use Rattle.calvin_node_acts.specs.Running.{NodeDid, settled}
use Rattle.calvin_node_acts.proofs.Settling.{running, left_again, config_at}
use Rattle.calvin_node_acts.proofs.Decisions.{wanting, not_counted, decided, now_held}
use Rattle.calvin_node_sequencing.proofs.layer.SequencingLayer.on_last_vote.Goals as goal

pub returns-in_err-_given-clause-did : goal.returns-in_err-_given-clause-did
returns-in_err-_given-clause-did g c rest =
    let p = c.self.inside in
    let x = state_of (layer_of p.config p.id p.member p.sequencer p.merge) rest in
    let config = config_at p.config rest.points rest.cold p.sequencer.delay in
    let reply = g.row.A-Reply.Denot in
    let sent = c.args.outbox.now.packets in
    let all = c.post_answer.new.self.packets in
    let after = c.post_answer.new.member in
    let batch = c.args.batch.now in
    let deed = cases.accepted p.config.replicas c.args.from x.synod c.args.slot c.args.ballot batch in
    let is_new = subst (λ v. knows v.synod.learner c.args.from c.args.slot c.args.ballot ≡ false) (sym c.self.view_is) c.requires.new in
    let is_last = subst (λ v. completes v.config.replicas v.synod.learner c.args.slot c.args.ballot ≡ true) (sym c.self.view_is) c.requires.last in
    let e = c.in_err-_given.field-0.0 in
    let failed = err_from_is_err_and c.from_residual-in_err-_given.result c.from_residual-in_err-_given.ensures.1 in
    let did = subst (λ vote. MemberSent (message_grows vote) (Err e) (cases.handle p.config.replicas c.args.from vote p.member.replica) p.config.replicas p.config.partitions p.id p.member after sent all) c.requires.vote
    (subst (λ n. MemberSent (message_grows c.args.vote.now) (Err e) (cases.handle n c.args.from c.args.vote.now p.member.replica) p.config.replicas p.config.partitions p.id p.member after sent all) c.self.invariant.group_size c.in_err-_given.ensures.did) in
    let unchanged = not_counted reply config x p.member.me c.args.from c.args.slot c.args.ballot batch is_new is_last sent e after all (subst (λ n. MemberSent true (Err e) deed p.config.replicas p.config.partitions p.id (record { size = n; me = p.member.me; replica = p.member.replica }) after sent all) c.self.invariant.group_size did) in
    let room = c.make_room.new in
    subst (λ v. NodeDid {Reply = reply} true c.from_residual-in_err-_given.result (handling.by_synod (node_of v rest).config (node_of v rest).state (cases.accepted v.config.replicas c.args.from v.synod c.args.slot c.args.ballot batch)) (node_of v rest)
    (node_of (layer_of p.config p.id after room.sequencer room.merge) rest) sent all) c.self.view_is
    (subst (λ r. NodeDid {Reply = reply} true r (handling.by_synod config x deed) (running config x) (node_of (layer_of p.config p.id after room.sequencer room.merge) rest) sent all) (sym (failed.1 ∙ ap Err failed.2))
    (subst (λ v. NodeDid {Reply = reply} true (Err e) (handling.by_synod config x deed) (running config x) v sent all) (λ i. running (config_at p.config rest.points rest.cold ((sym c.make_room.ensures.delay) i)) (record x {
      synod = ((sym unchanged.1) i).replica;
      sequencer = (sym c.make_room.ensures.sequencing) i;
      held = ((sym c.make_room.ensures.merge) i).held;
      merged_epochs = ((sym c.make_room.ensures.merge) i).next;
    }))
    (subst (λ ps. NodeDid {Reply = reply} true (Err e) (handling.by_synod config x deed) (running config x) (running config x) sent ps) (sym unchanged.2)
    (wanting reply config x p.member.me c.args.from c.args.slot c.args.ballot batch is_new is_last sent e unchanged.0))))

pub returns-clause-did : goal.returns-clause-did
returns-clause-did g c rest =
    let p = c.self.inside in
    let x = state_of (layer_of p.config p.id p.member p.sequencer p.merge) rest in
    let config = config_at p.config rest.points rest.cold in
    let reply = g.row.A-Reply.Denot in
    let sent = c.args.outbox.now.packets in
    let all = c.post_answer.new.self.packets in
    let after = c.post_answer.new.member in
    let slot = c.args.slot in
    let batch = c.args.batch.now in
    let deed = cases.accepted p.config.replicas c.args.from x.synod slot c.args.ballot batch in
    let is = left_again rest.scheduler.scheduling rest.scheduler.due in
    let is_new = subst (λ v. knows v.synod.learner c.args.from slot c.args.ballot ≡ false) (sym c.self.view_is) c.requires.new in
    let is_last = subst (λ v. completes v.config.replicas v.synod.learner slot c.args.ballot ≡ true) (sym c.self.view_is) c.requires.last in
    let free : contains_key p.merge.held slot ≡ false = ap is_some (subst (λ v. get v.held slot ≡ None) (sym c.self.view_is) c.requires.free) in
    let gave = c.in_ok-_given._given in
    let did = subst (λ vote. MemberSent (message_grows vote) (Ok gave) (cases.handle p.config.replicas c.args.from vote p.member.replica) p.config.replicas p.config.partitions p.id p.member after sent all) c.requires.vote
    (subst (λ n. MemberSent (message_grows c.args.vote.now) (Ok gave) (cases.handle n c.args.from c.args.vote.now p.member.replica) p.config.replicas p.config.partitions p.id p.member after sent all) c.self.invariant.group_size c.in_ok-_given.ensures.did) in
    let sized = subst (λ n. MemberSent true (Ok gave) deed p.config.replicas p.config.partitions p.id (record { size = n; me = p.member.me; replica = p.member.replica }) after sent all) c.self.invariant.group_size did in
    let copied = c.in_ok-decided.ensures.ok in
    let seq = c.make_room.ensures.sequencing in
    let kept = now_held p.merge c.make_room.new.merge c.keep.new.merge slot c.in_ok-decided.decided c.make_room.ensures.merge c.keep.ensures.held free in
    let told = c.keep.ensures.sequencing ∙ (λ i. cond (slot.group == p.id.partition) (decide slot.epoch (copied i) (seq i)) (seq i)) in
    let new = state_of (layer_of p.config p.id after c.keep.new.sequencer c.keep.new.merge) rest in
    let whole : new ≡ settled (holding (with_synod x after.replica) slot batch) = λ i. record x { synod = after.replica; sequencer = told i; held = (kept.0 ∙ ap (λ b. insert p.merge.held slot b) copied) i; merged_epochs = kept.1 i; due = (sym is) i } in
    subst (λ v. NodeDid {Reply = reply} true (Ok tt) (handling.by_synod (node_of v rest).config (node_of v rest).state (cases.accepted v.config.replicas c.args.from v.synod slot c.args.ballot batch)) (node_of v rest) (running (config c.keep.new.sequencer.delay) new) sent all) c.self.view_is
    (subst (λ d. NodeDid {Reply = reply} true (Ok tt) (handling.by_synod (config p.sequencer.delay) x deed) (running (config p.sequencer.delay) x) (running (config d) new) sent all) (sym (c.keep.ensures.delay ∙ c.make_room.ensures.delay))
    (decided reply (config p.sequencer.delay) x p.member.me c.args.from slot c.args.ballot batch is_new is_last sent gave after all sized new whole))
