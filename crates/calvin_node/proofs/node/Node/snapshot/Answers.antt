use Rattle.std.proofs.Common.{◌≡◌, ◌+◌, suc, [], true, Ok, Err, refl, sym, ap, subst, ◌∙◌, arith}
use Rattle.std.proofs.lemmas.Bool.{le-leb}
use Rattle.std.proofs.lemmas.Result.{err_from_is_err_and}
use Rattle.calvin_types.specs.Deeds.{Did}
use Rattle.calvin_app.specs.Rows.{Rows}
use Rattle.calvin_sched.specs.Keeping.{takes_effect}
use Rattle.calvin_sched.specs.Progress.{left}
use Rattle.calvin_sched.specs.Standing.{take_rows}
use Rattle.calvin_node_acts.specs.Acting as acting
use Rattle.calvin_node_acts.specs.Layers.{rest_of, state_of}
use Rattle.calvin_order.specs.Configs.{over}
use Rattle.calvin_node_acts.specs.Running.{NodeDid, kept_epochs}
use Rattle.calvin_node_acts.proofs.Settling.{running, left_again, not_taken, taken}
use Rattle.calvin_node.proofs.node.Node.snapshot.Goals as goal

pub returns-in_err-can_take : goal.returns-in_err-can_take
returns-in_err-can_take g c =
    let p = c.self.inside in
    let below = rest_of g.S.Rows.points g.S.Rows.cold p.pending.requests p.scheduler p.kept in
    let x = state_of p.layer below in
    let config = over p.layer.config g.S.Rows.points g.S.Rows.cold in
    let next : c.args.epoch + 1 ≡ suc c.args.epoch = omega arith in
    let same : take_rows p.scheduler.merged p.scheduler.due (c.args.epoch + 1) p.scheduler.scheduling ≡ take_rows x.merged_epochs x.due (suc c.args.epoch) x.scheduler = λ i. take_rows (c.self.invariant.merged i) ((sym c.due_is_undone.ensures) i) (next i) p.scheduler.scheduling in
    let refused = err_from_is_err_and c.from_residual.result c.from_residual.ensures.1 in
    record {
      did = subst (λ v. NodeDid {Reply = g.row.A-Reply.Denot} true c.from_residual.result (acting.snapshot c.args.epoch v.state) v v [] []) c.self.view_is
          (subst (λ r. NodeDid {Reply = g.row.A-Reply.Denot} true r (acting.snapshot c.args.epoch x) (running config x) (running config x) [] []) (sym (refused.1 ∙ ap Err refused.2))
          (subst (λ d. NodeDid {Reply = g.row.A-Reply.Denot} true (Err c.in_err-can_take.field-0.0) (acting.snapshot_by c.args.epoch x d) (running config x) (running config x) [] []) (sym (sym same ∙ c.in_err-can_take.ensures.refused)) (refl, refl, refl)));
    }

pub returns-in_err-rows : goal.returns-in_err-rows
returns-in_err-rows g c =
    let p = c.self.inside in
    let below = rest_of g.S.Rows.points g.S.Rows.cold p.pending.requests p.scheduler p.kept in
    let x = state_of p.layer below in
    let config = over p.layer.config g.S.Rows.points g.S.Rows.cold in
    let next : c.args.epoch + 1 ≡ suc c.args.epoch = omega arith in
    let s = c.take.new.self.scheduling in
    let same : take_rows p.scheduler.merged p.scheduler.due (c.args.epoch + 1) p.scheduler.scheduling ≡ take_rows x.merged_epochs x.due (suc c.args.epoch) x.scheduler = λ i. take_rows (c.self.invariant.merged i) ((sym c.due_is_undone.ensures) i) (next i) p.scheduler.scheduling in
    let takes = sym (ap takes_effect same) ∙ c.in_ok-can_take.ensures.ok in
    let newer = le-leb (kept_epochs p.kept) c.args.epoch c.if-has_kept.ensures in
    let refused = err_from_is_err_and c.from_residual-in_err-rows.result c.from_residual-in_err-rows.ensures.1 in
    record {
      did = subst (λ v. NodeDid {Reply = g.row.A-Reply.Denot} true c.from_residual-in_err-rows.result (acting.snapshot c.args.epoch v.state) v (running config (record x { scheduler = s; due = left s c.take.new.self.due })) [] []) c.self.view_is
          (subst (λ r. NodeDid {Reply = g.row.A-Reply.Denot} true r (acting.snapshot c.args.epoch x) (running config x) (running config (record x { scheduler = s; due = left s c.take.new.self.due })) [] []) (sym (refused.1 ∙ ap Err refused.2))
          (subst (λ d. NodeDid {Reply = g.row.A-Reply.Denot} true (Err c.in_err-rows.field-0.0) (acting.snapshot c.args.epoch x) (running config x) (running config (record x { scheduler = s; due = left s d })) [] [])
          (c.due_is_undone.ensures ∙ sym (ap (λ n. n.due) c.in_err-rows.ensures.rest))
          (not_taken g.row.A-Reply.Denot config x (left_again p.scheduler.scheduling p.scheduler.due) c.args.epoch newer c.in_err-rows.field-0.0 (take_rows x.merged_epochs x.due (suc c.args.epoch) x.scheduler) s takes
          (subst (λ d. Did {Out = Rows g.row.A-Row.Denot} true (Err c.in_err-rows.field-0.0) d p.scheduler.scheduling s) same c.in_err-rows.ensures.did))));
    }

pub returns : goal.returns
returns g c =
    let p = c.self.inside in
    let below = rest_of g.S.Rows.points g.S.Rows.cold p.pending.requests p.scheduler p.kept in
    let x = state_of p.layer below in
    let config = over p.layer.config g.S.Rows.points g.S.Rows.cold in
    let next : c.args.epoch + 1 ≡ suc c.args.epoch = omega arith in
    let s = c.take.new.self.scheduling in
    let same : take_rows p.scheduler.merged p.scheduler.due (c.args.epoch + 1) p.scheduler.scheduling ≡ take_rows x.merged_epochs x.due (suc c.args.epoch) x.scheduler = λ i. take_rows (c.self.invariant.merged i) ((sym c.due_is_undone.ensures) i) (next i) p.scheduler.scheduling in
    let newer = le-leb (kept_epochs p.kept) c.args.epoch c.if-has_kept.ensures in
    let rows = c.in_ok-rows.rows in
    record {
      did = subst (λ v. NodeDid {Reply = g.row.A-Reply.Denot} true (Ok tt) (acting.snapshot c.args.epoch v.state) v (running config (record x { scheduler = s; due = left s c.take.new.self.due; kept_epochs = suc c.args.epoch; kept_rows = rows })) [] []) c.self.view_is
          (subst (λ d. NodeDid {Reply = g.row.A-Reply.Denot} true (Ok tt) (acting.snapshot c.args.epoch x) (running config x) (running config (record x { scheduler = s; due = left s d; kept_epochs = suc c.args.epoch; kept_rows = rows })) [] [])
          (c.due_is_undone.ensures ∙ sym (ap (λ n. n.due) c.in_ok-rows.ensures.rest))
          (taken g.row.A-Reply.Denot config x (left_again p.scheduler.scheduling p.scheduler.due) c.args.epoch newer rows (take_rows x.merged_epochs x.due (suc c.args.epoch) x.scheduler) s
          (subst (λ d. Did true (Ok rows) d p.scheduler.scheduling s) same c.in_ok-rows.ensures.did)));
    }
