use Rattle.std.proofs.Common.{true, false, Ok, Err, sym, ap, subst, ◌∙◌}
use Rattle.std.proofs.lemmas.Result.{err_from_is_err_and}
use Rattle.std.specs.Prelude.{is_some}
use Rattle.calvin_types.specs.declared.fault.Fault.TheVariants.{NotClosed, Decided}
use Rattle.calvin_synod.specs.Cases as cases
use Rattle.calvin_synod.specs.Deeds.{Sends}
use Rattle.calvin_order.specs.Merged.{Batch}
use Rattle.calvin_node_packets.specs.Letters.{MemberSent}
use Rattle.calvin_node_acts.specs.NodeStates.{own_slot}
use Rattle.calvin_node_acts.specs.Acting as acting
use Rattle.calvin_node_acts.specs.Layers.{layer_of, state_of, node_of}
use Rattle.calvin_node_acts.specs.Running.{NodeDid}
use Rattle.calvin_node_acts.proofs.Settling.{running, left_again, copied_some, config_at}
use Rattle.calvin_node_acts.proofs.Answered.{names_kept}
use Rattle.calvin_node_acts.proofs.Proposals.{spent, not_closed, held_already, proposed}
use Rattle.calvin_node_sequencing.proofs.layer.SequencingLayer.propose.Goals as goal

pub returns-in_err-prepare_to_all-clause-did : goal.returns-in_err-prepare_to_all-clause-did
returns-in_err-prepare_to_all-clause-did g c rest =
    let p = c.self.inside in
    let x = state_of (layer_of p.config p.id p.member p.sequencer p.merge) rest in
    let config = config_at p.config rest.points rest.cold p.sequencer.delay in
    let reply = g.row.A-Reply.Denot in
    let sent = c.args.outbox.now.packets in
    let is = left_again rest.scheduler.scheduling rest.scheduler.due in
    let e = c.in_err-prepare_to_all.field-0.0 in
    let failed = err_from_is_err_and c.from_residual.result c.from_residual.ensures.1 in
    let sends = λ (batch : Batch g.row.A-Args.Denot). subst (λ m. Sends false (Err e) (cases.propose m (own_slot x c.args.epoch) batch p.member.replica)) c.self.invariant.replica (c.in_err-prepare_to_all.ensures batch) in
    subst (λ v. NodeDid {Reply = reply} true c.from_residual.result (acting.propose (node_of v rest).config c.args.epoch (node_of v rest).state) (node_of v rest) (node_of v rest) sent sent) c.self.view_is
    (subst (λ r. NodeDid {Reply = reply} true r (acting.propose config c.args.epoch x) (running config x) (running config x) sent sent) (sym (failed.1 ∙ ap Err failed.2)) (spent reply config x is c.args.epoch sent e sends))

pub returns-in_default-clause-did : goal.returns-in_default-clause-did
returns-in_default-clause-did g c rest =
    let p = c.self.inside in
    let x = state_of (layer_of p.config p.id p.member p.sequencer p.merge) rest in
    let config = config_at p.config rest.points rest.cold p.sequencer.delay in
    let reply = g.row.A-Reply.Denot in
    let sent = c.args.outbox.now.packets in
    let is = left_again rest.scheduler.scheduling rest.scheduler.due in
    let sends = λ (batch : Batch g.row.A-Args.Denot). subst (λ m. Sends false (Ok c.in_ok-prepare_to_all.field-0) (cases.propose m (own_slot x c.args.epoch) batch p.member.replica)) c.self.invariant.replica (c.in_ok-prepare_to_all.ensures batch) in
    subst (λ v. NodeDid {Reply = reply} true (Err NotClosed) (acting.propose (node_of v rest).config c.args.epoch (node_of v rest).state) (node_of v rest) (node_of v rest) sent sent) c.self.view_is (not_closed reply config x is c.args.epoch sent c.in_ok-prepare_to_all.field-0 sends (sym c.in_default.ensures))

pub returns-then-is_some-clause-did : goal.returns-then-is_some-clause-did
returns-then-is_some-clause-did g c rest =
    let p = c.self.inside in
    let x = state_of (layer_of p.config p.id p.member p.sequencer p.merge) rest in
    let config = config_at p.config rest.points rest.cold p.sequencer.delay in
    let reply = g.row.A-Reply.Denot in
    let sent = c.args.outbox.now.packets in
    let is = left_again rest.scheduler.scheduling rest.scheduler.due in
    let sends = λ (batch : Batch g.row.A-Args.Denot). subst (λ m. Sends false (Ok c.in_ok-prepare_to_all.field-0) (cases.propose m (own_slot x c.args.epoch) batch p.member.replica)) c.self.invariant.replica (c.in_ok-prepare_to_all.ensures batch) in
    let batch = c.in-Some.batch.now in
    let closed = sym c.in-Some.ensures in
    let there = sym (ap is_some c.held.ensures) ∙ copied_some c.held.result ∙ sym c.is_some.ensures ∙ c.if-is_some.true in
    subst (λ v. NodeDid {Reply = reply} true (Err Decided) (acting.propose (node_of v rest).config c.args.epoch (node_of v rest).state) (node_of v rest) (node_of v rest) sent sent) c.self.view_is (held_already reply config x is c.args.epoch sent c.in_ok-prepare_to_all.field-0 sends batch closed there)

pub invariant_of-self : goal.invariant_of-self
invariant_of-self g c =
    let p = c.self.inside in
    let kept = names_kept true (Err c.in_err-_none.field-0.0) (cases.propose p.member.me _ c.in-Some.batch.now p.member.replica) p.config.replicas p.config.partitions p.id p.member c.post_ballot.new.member c.args.outbox.now.packets c.post_ballot.new.self.packets c.in_err-_none.ensures.did in
    record { group_size = kept.0 ∙ c.self.invariant.group_size; replica = kept.1 ∙ c.self.invariant.replica; groups = c.self.invariant.groups }

pub returns-in_err-_none-clause-did : goal.returns-in_err-_none-clause-did
returns-in_err-_none-clause-did g c rest =
    let p = c.self.inside in
    let x = state_of (layer_of p.config p.id p.member p.sequencer p.merge) rest in
    let config = config_at p.config rest.points rest.cold p.sequencer.delay in
    let reply = g.row.A-Reply.Denot in
    let sent = c.args.outbox.now.packets in
    let all = c.post_ballot.new.self.packets in
    let after = c.post_ballot.new.member in
    let is = left_again rest.scheduler.scheduling rest.scheduler.due in
    let sends = λ (batch : Batch g.row.A-Args.Denot). subst (λ m. Sends false (Ok c.in_ok-prepare_to_all.field-0) (cases.propose m (own_slot x c.args.epoch) batch p.member.replica)) c.self.invariant.replica (c.in_ok-prepare_to_all.ensures batch) in
    let batch = c.in-Some.batch.now in
    let closed = sym c.in-Some.ensures in
    let free = sym (ap is_some c.held.ensures) ∙ copied_some c.held.result ∙ sym c.is_some.ensures ∙ c.if-is_some.false in
    let e = c.in_err-_none.field-0.0 in
    let failed = err_from_is_err_and c.from_residual-in_err-_none.result c.from_residual-in_err-_none.ensures.1 in
    let did = subst (λ m. MemberSent true (Err e) (cases.propose m (own_slot x c.args.epoch) batch p.member.replica) p.config.replicas p.config.partitions p.id p.member after sent all) c.self.invariant.replica c.in_err-_none.ensures.did in
    subst (λ v. NodeDid {Reply = reply} true c.from_residual-in_err-_none.result (acting.propose (node_of v rest).config c.args.epoch (node_of v rest).state) (node_of v rest) (running config (record x { synod = after.replica })) sent all) c.self.view_is
    (subst (λ r. NodeDid {Reply = reply} true r (acting.propose config c.args.epoch x) (running config x) (running config (record x { synod = after.replica })) sent all) (sym (failed.1 ∙ ap Err failed.2))
    (proposed reply config x is c.args.epoch sent c.in_ok-prepare_to_all.field-0 sends batch closed free p.member.size p.member.me (Err e) after all did))

pub invariant_of-self-2 : goal.invariant_of-self-2
invariant_of-self-2 g c =
    let p = c.self.inside in
    let kept = names_kept true (Ok c.in_ok-_none._none) (cases.propose p.member.me _ c.in-Some.batch.now p.member.replica) p.config.replicas p.config.partitions p.id p.member c.post_ballot.new.member c.args.outbox.now.packets c.post_ballot.new.self.packets c.in_ok-_none.ensures.did in
    record { group_size = kept.0 ∙ c.self.invariant.group_size; replica = kept.1 ∙ c.self.invariant.replica; groups = c.self.invariant.groups }

pub returns-clause-did : goal.returns-clause-did
returns-clause-did g c rest =
    let p = c.self.inside in
    let x = state_of (layer_of p.config p.id p.member p.sequencer p.merge) rest in
    let config = config_at p.config rest.points rest.cold p.sequencer.delay in
    let reply = g.row.A-Reply.Denot in
    let sent = c.args.outbox.now.packets in
    let all = c.post_ballot.new.self.packets in
    let after = c.post_ballot.new.member in
    let is = left_again rest.scheduler.scheduling rest.scheduler.due in
    let sends = λ (batch : Batch g.row.A-Args.Denot). subst (λ m. Sends false (Ok c.in_ok-prepare_to_all.field-0) (cases.propose m (own_slot x c.args.epoch) batch p.member.replica)) c.self.invariant.replica (c.in_ok-prepare_to_all.ensures batch) in
    let batch = c.in-Some.batch.now in
    let closed = sym c.in-Some.ensures in
    let free = sym (ap is_some c.held.ensures) ∙ copied_some c.held.result ∙ sym c.is_some.ensures ∙ c.if-is_some.false in
    let did = subst (λ m. MemberSent true (Ok c.in_ok-_none._none) (cases.propose m (own_slot x c.args.epoch) batch p.member.replica) p.config.replicas p.config.partitions p.id p.member after sent all) c.self.invariant.replica c.in_ok-_none.ensures.did in
    subst (λ v. NodeDid {Reply = reply} true (Ok tt) (acting.propose (node_of v rest).config c.args.epoch (node_of v rest).state) (node_of v rest) (running config (record x { synod = after.replica })) sent all) c.self.view_is
    (proposed reply config x is c.args.epoch sent c.in_ok-prepare_to_all.field-0 sends batch closed free p.member.size p.member.me (Ok c.in_ok-_none._none) after all did)
