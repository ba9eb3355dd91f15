use Rattle.std.proofs.Common.{◌≡◌, ◌<◌, ◌++◌, ◌∷◌, [], true, Ok, Err, refl, sym, ap, subst, ◌∙◌}
use Rattle.std.proofs.lemmas.Result.{err_from_is_err_and}
use Rattle.calvin_app.specs.declared.job.Job.{Job}
use Rattle.calvin_app.specs.Serial.{answer_on}
use Rattle.calvin_sched.specs.Keeping.{IsNotRun}
use Rattle.calvin_sched.specs.Progress.{left}
use Rattle.calvin_sched.specs.Steps as steps
use Rattle.calvin_node_packets.specs.declared.packet.Address.TheVariants.{AtClient}
use Rattle.calvin_node_packets.specs.declared.packet.Content.TheVariants.{Replies}
use Rattle.calvin_node_acts.specs.Acting as acting
use Rattle.calvin_node_acts.specs.NodeStates.{site_of}
use Rattle.calvin_node_acts.specs.Layers.{rest_of, state_of}
use Rattle.calvin_order.specs.Configs.{over}
use Rattle.calvin_node_acts.specs.Running.{NodeDid}
use Rattle.calvin_node_acts.proofs.Settling.{running, left_then, left_again, unchanged}
use Rattle.calvin_node_acts.proofs.Beginning.{on_ok}
use Rattle.calvin_node_acts.proofs.Ran.{not_run, ran}
use Rattle.calvin_node.proofs.node.Node.finish.Goals as goal

pub push_answer-requires : goal.push_answer-requires
push_answer-requires g c = on_ok c.reserve.result (0 < c.reserve.new.self.room) (sym c.is_err.ensures.value ∙ c.if-is_err.false) c.reserve.ensures.ok

pub returns-in_err-name : goal.returns-in_err-name
returns-in_err-name g c =
    let p = c.self.inside in
    let below = rest_of g.S.Rows.points g.S.Rows.cold p.pending.requests p.scheduler p.kept in
    let x = state_of p.layer below in
    let config = over p.layer.config g.S.Rows.points g.S.Rows.cold in
    let m = g.A.App.meaning in
    let sent = c.args.outbox.now.packets in
    let s = c.run.new.self.scheduling in
    let f = c.in_err-name.field-0.0 in
    let failed = err_from_is_err_and c.from_residual-in_err-name.result c.from_residual-in_err-name.ensures.1 in
    let same : running config (record x { scheduler = s; due = left s c.run.new.self.due }) ≡ running config x = (λ i. running config (record x { scheduler = s; due = left_then p.scheduler.scheduling s p.scheduler.due c.run.new.self.due c.in_err-name.ensures.due c.due_is_undone.ensures i })) ∙ unchanged g.row.A-Reply.Denot config x (left_again p.scheduler.scheduling p.scheduler.due) s c.in_err-name.ensures.err in
    let why = subst (λ h. IsNotRun m h p.scheduler.room (steps.job h c.args.place p.scheduler.scheduling) f) c.self.invariant.here c.in_err-name.ensures.refused in
    record {
      did = subst (λ v. NodeDid true c.from_residual-in_err-name.result (acting.finish m v.config c.args.place v.state) v (running config (record x { scheduler = s; due = left s c.run.new.self.due })) sent c.reserve.new.self.packets) c.self.view_is
          (subst (λ r. NodeDid true r (acting.finish m config c.args.place x) (running config x) (running config (record x { scheduler = s; due = left s c.run.new.self.due })) sent c.reserve.new.self.packets) (sym (failed.1 ∙ ap Err failed.2))
          (subst (λ n. NodeDid true (Err f) (acting.finish m config c.args.place x) (running config x) n sent c.reserve.new.self.packets) (sym same)
          (subst (λ all. NodeDid true (Err f) (acting.finish m config c.args.place x) (running config x) (running config x) sent all) (sym c.reserve.ensures.packets)
          (not_run m config x c.args.place sent p.scheduler.room f (steps.job (site_of config.partitions x) c.args.place x.scheduler) refl why))));
    }

pub returns : goal.returns
returns g c =
    let p = c.self.inside in
    let below = rest_of g.S.Rows.points g.S.Rows.cold p.pending.requests p.scheduler p.kept in
    let x = state_of p.layer below in
    let config = over p.layer.config g.S.Rows.points g.S.Rows.cold in
    let m = g.A.App.meaning in
    let sent = c.args.outbox.now.packets in
    let s = c.run.new.self.scheduling in
    let here = site_of config.partitions x in
    let told = subst (λ h. (j : Job g.row.A-Args.Denot g.row.A-Row.Denot) × (steps.job h c.args.place p.scheduler.scheduling ≡ Ok j) × (c.in_ok-name.name ≡ (j.txn.id, j.txn.attempt)) × (c.run.new.answer ≡ answer_on m j.txn j.view) × (s ≡ steps.after_job m h j p.scheduler.scheduling)) c.self.invariant.here c.in_ok-name.ensures.ok in
    record {
      did = subst (λ v. NodeDid true (Ok tt) (acting.finish m v.config c.args.place v.state) v (running config (record x { scheduler = s; due = left s c.run.new.self.due })) sent c.push_answer.new.self.packets) c.self.view_is
          (subst (λ d. NodeDid true (Ok tt) (acting.finish m config c.args.place x) (running config x) (running config (record x { scheduler = s; due = d })) sent c.push_answer.new.self.packets)
          (sym (left_then p.scheduler.scheduling s p.scheduler.due c.run.new.self.due c.in_ok-name.ensures.due c.due_is_undone.ensures))
          (ran m config x c.args.place sent told.0 told.1 s told.4 c.in_ok-name.name told.2 c.run.new.answer told.3 c.push_answer.new.self.packets
          (c.push_answer.ensures.packets ∙ (λ i. c.reserve.ensures.packets i ++ record { from = c.id.ensures i; to = AtClient c.in_ok-name.name.0.client; content = Replies c.args.place c.in_ok-name.name.0 c.in_ok-name.name.1 c.run.new.answer } ∷ []))));
    }
