use Rattle.std.proofs.Common.{◌≡◌, ◌<◌, ◌++◌, ◌∷◌, [], Ok, Err, inr, refl, sym, ap, subst, ◌∙◌}
use Rattle.std.proofs.lemmas.Result.{err_from_is_err_and}
use Rattle.calvin_sched.specs.Keeping.{Finished}
use Rattle.calvin_sched.specs.Progress.{left}
use Rattle.calvin_sched.specs.Steps as steps
use Rattle.calvin_node_packets.specs.declared.packet.Address.TheVariants.{AtClient}
use Rattle.calvin_node_packets.specs.declared.packet.Content.TheVariants.{Replies}
use Rattle.calvin_node_acts.specs.NodeStates.{site_of}
use Rattle.calvin_node_acts.specs.Layers.{rest_of, state_of}
use Rattle.calvin_order.specs.Configs.{over}
use Rattle.calvin_node_acts.specs.Running.{NodeFinished}
use Rattle.calvin_node_acts.proofs.Settling.{running, left_then, left_again, unchanged}
use Rattle.calvin_node_acts.proofs.Beginning.{finished, on_ok, cause}
use Rattle.calvin_node.proofs.node.Node.take_computed.Goals as goal

pub push_answer-requires : goal.push_answer-requires
push_answer-requires g c = on_ok c.reserve.result (0 < c.reserve.new.self.room) (sym c.is_err.ensures.value ∙ c.if-is_err.false) c.reserve.ensures.ok

pub returns-then-is_err : goal.returns-then-is_err
returns-then-is_err g c =
    let p = c.self.inside in
    let j = c.args.computed.now.job in
    let due = subst (λ h. steps.job h j.place p.scheduler.scheduling ≡ Ok j) c.self.invariant.here c.in_ok-check_finish.ensures.ok in
    record { did = (refl, c.reserve.ensures.packets, inr (refl, subst (λ v. steps.job (site_of v.config.partitions v.state) j.place v.state.scheduler ≡ Ok j) c.self.view_is due)) }

pub returns-in_err-answer : goal.returns-in_err-answer
returns-in_err-answer g c =
    let p = c.self.inside in
    let below = rest_of g.S.Rows.points g.S.Rows.cold p.pending.requests p.scheduler p.kept in
    let x = state_of p.layer below in
    let config = over p.layer.config g.S.Rows.points g.S.Rows.cold in
    let reply = g.row.A-Reply.Denot in
    let s = c.finish.new.self.scheduling in
    let j = c.args.computed.now.job in
    let sent = c.args.outbox.now.packets in
    let e = c.in_err-answer.field-0.0 in
    let failed = err_from_is_err_and c.from_residual-in_err-answer.result c.from_residual-in_err-answer.ensures.1 in
    let did = subst (λ h. Finished g.A.App.meaning h p.scheduler.room j (Err e) p.scheduler.scheduling s) c.self.invariant.here c.in_err-answer.ensures.did in
    record {
      did = subst (λ v. NodeFinished g.A.App.meaning j c.from_residual-in_err-answer.result v (running config (record x { scheduler = s; due = left s c.finish.new.self.due })) sent c.reserve.new.self.packets) c.self.view_is
          (subst (λ r. NodeFinished g.A.App.meaning j r (running config x) (running config (record x { scheduler = s; due = left s c.finish.new.self.due })) sent c.reserve.new.self.packets) (sym (failed.1 ∙ ap Err failed.2)) (
            (λ i. running config (record x { scheduler = s; due = left_then p.scheduler.scheduling s p.scheduler.due c.finish.new.self.due c.in_err-answer.ensures.due c.due_is_undone.ensures i })) ∙ unchanged reply config x (left_again p.scheduler.scheduling p.scheduler.due) s did.0,
            c.reserve.ensures.packets,
            cause did.1,
          ));
    }

pub returns : goal.returns
returns g c =
    let p = c.self.inside in
    let below = rest_of g.S.Rows.points g.S.Rows.cold p.pending.requests p.scheduler p.kept in
    let x = state_of p.layer below in
    let config = over p.layer.config g.S.Rows.points g.S.Rows.cold in
    let reply = g.row.A-Reply.Denot in
    let s = c.finish.new.self.scheduling in
    let j = c.args.computed.now.job in
    let sent = c.args.outbox.now.packets in
    let did = subst (λ h. Finished g.A.App.meaning h p.scheduler.room j (Ok c.in_ok-answer.answer) p.scheduler.scheduling s) c.self.invariant.here c.in_ok-answer.ensures.did in
    record {
      did = subst (λ v. NodeFinished g.A.App.meaning j (Ok tt) v (running config (record x { scheduler = s; due = left s c.finish.new.self.due })) sent c.push_answer.new.self.packets) c.self.view_is
          (subst (λ d. NodeFinished g.A.App.meaning j (Ok tt) (running config x) (running config (record x { scheduler = s; due = d })) sent c.push_answer.new.self.packets)
          (sym (left_then p.scheduler.scheduling s p.scheduler.due c.finish.new.self.due c.in_ok-answer.ensures.due c.due_is_undone.ensures))
          (finished g.A.App.meaning config x sent j did.0 s did.1 c.in_ok-answer.answer did.2 c.push_answer.new.self.packets (c.push_answer.ensures.packets ∙ (λ i. c.reserve.ensures.packets i ++ record { from = c.id.ensures i; to = AtClient j.txn.id.client; content = Replies j.place j.txn.id j.txn.attempt c.in_ok-answer.answer } ∷ []))));
    }
