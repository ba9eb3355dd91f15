use Rattle.std.proofs.Common.{[], drop, Ok, Err, sym, ap, subst, ◌∙◌}
use Rattle.std.proofs.lemmas.Result.{err_from_is_err_and}
use Rattle.calvin_types.specs.declared.place.Place.{Place}
use Rattle.calvin_types.specs.declared.txn.Txn.{Txn}
use Rattle.calvin_types.specs.Participants.{site, has_local_key}
use Rattle.calvin_types.specs.Deeds.{Did}
use Rattle.calvin_sched.specs.Progress.{left}
use Rattle.calvin_sched.specs.Steps as steps
use Rattle.calvin_node_acts.specs.declared.act.Act.TheVariants.{Lock}
use Rattle.calvin_node_acts.specs.Acting as acting
use Rattle.calvin_node_acts.specs.Growing.{act_grows}
use Rattle.calvin_node_acts.specs.Layers.{rest_of, state_of}
use Rattle.calvin_order.specs.Configs.{over}
use Rattle.calvin_node_acts.specs.Running.{NodeDid}
use Rattle.calvin_node_acts.proofs.Settling.{running, with_steps, left_again, locked, not_locked}
use Rattle.calvin_node.proofs.node.Node.lock_next.Goals as goal

pub returns-in_err-admit_first : goal.returns-in_err-admit_first
returns-in_err-admit_first g c =
    let p = c.self.inside in
    let below = rest_of g.S.Rows.points g.S.Rows.cold p.pending.requests p.scheduler p.kept in
    let x = state_of p.layer below in
    let config = over p.layer.config g.S.Rows.points g.S.Rows.cold in
    let e : Place × Txn g.row.A-Args.Denot = (c.in-Some.place, c.in-Some.txn.now) in
    let rest = drop 1 p.pending.requests in
    let there = c.in-Some.ensures in
    let refused = err_from_is_err_and c.from_residual.result c.from_residual.ensures.1 in
    let here = site p.layer.config.partitions p.layer.id.partition in
    let s = c.admit_first.new.scheduler.scheduling in
    let undone = c.due_is_undone.ensures in
    let did = subst (λ h. Did {Out = Unit {0}} (has_local_key h e.1) (Err c.in_err-admit_first.field-0.0) (steps.admit h e.0 e.1 p.scheduler.scheduling) p.scheduler.scheduling s) c.self.invariant.here c.in_err-admit_first.ensures.did in
    record {
      did = subst (λ v. NodeDid {Reply = g.row.A-Reply.Denot} (act_grows v.config Lock v.state) c.from_residual.result (acting.lock v.config v.state) v
          (running config (record x { scheduler = s; due = left s c.admit_first.new.scheduler.due })) [] []) c.self.view_is
          (subst (λ d. NodeDid {Reply = g.row.A-Reply.Denot} (act_grows config Lock x) c.from_residual.result (acting.lock config x) (running config x) (running config (record x { scheduler = s; due = left s d })) [] [])
          (undone ∙ sym (ap (λ n. n.due) c.in_err-admit_first.ensures.rest))
          (subst (λ r. NodeDid {Reply = g.row.A-Reply.Denot} (act_grows config Lock x) r (acting.lock config x) (running config x) (running config (with_steps x s x.pending)) [] []) (sym (refused.1 ∙ ap Err refused.2))
          (subst (λ l. NodeDid {Reply = g.row.A-Reply.Denot} (act_grows config Lock (record x { pending = l })) (Err c.in_err-admit_first.field-0.0) (acting.lock_first config x l) (running config x) (running config (with_steps x s x.pending)) [] []) (sym there)
          (not_locked g.row.A-Reply.Denot config x (left_again p.scheduler.scheduling p.scheduler.due) (has_local_key here e.1) c.in_err-admit_first.field-0.0 (steps.admit here e.0 e.1 p.scheduler.scheduling) s rest did))));
    }

pub returns : goal.returns
returns g c =
    let p = c.self.inside in
    let below = rest_of g.S.Rows.points g.S.Rows.cold p.pending.requests p.scheduler p.kept in
    let x = state_of p.layer below in
    let config = over p.layer.config g.S.Rows.points g.S.Rows.cold in
    let e : Place × Txn g.row.A-Args.Denot = (c.in-Some.place, c.in-Some.txn.now) in
    let rest = drop 1 p.pending.requests in
    let there = c.in-Some.ensures in
    let here = site p.layer.config.partitions p.layer.id.partition in
    let s = c.admit_first.new.scheduler.scheduling in
    let undone = c.due_is_undone.ensures in
    let did = subst (λ h. Did (has_local_key h e.1) (Ok tt) (steps.admit h e.0 e.1 p.scheduler.scheduling) p.scheduler.scheduling s) c.self.invariant.here c.in_ok-admit_first.ensures.did in
    record {
      did = subst (λ v. NodeDid {Reply = g.row.A-Reply.Denot} (act_grows v.config Lock v.state) (Ok tt) (acting.lock v.config v.state) v
          (running config (record x { scheduler = s; pending = c.remove_first.new.self.requests; due = left s c.admit_first.new.scheduler.due })) [] []) c.self.view_is
          (subst (λ l. NodeDid {Reply = g.row.A-Reply.Denot} (act_grows config Lock x) (Ok tt) (acting.lock config x) (running config x) (running config (record x { scheduler = s; pending = l; due = left s c.admit_first.new.scheduler.due })) [] [])
          (sym c.remove_first.ensures)
          (subst (λ d. NodeDid {Reply = g.row.A-Reply.Denot} (act_grows config Lock x) (Ok tt) (acting.lock config x) (running config x) (running config (record x { scheduler = s; pending = rest; due = left s d })) [] [])
          (undone ∙ sym (ap (λ n. n.due) c.in_ok-admit_first.ensures.rest))
          (subst (λ l. NodeDid {Reply = g.row.A-Reply.Denot} (act_grows config Lock (record x { pending = l })) (Ok tt) (acting.lock_first config x l) (running config x) (running config (with_steps x s rest)) [] []) (sym there)
          (locked g.row.A-Reply.Denot config x (left_again p.scheduler.scheduling p.scheduler.due) (has_local_key here e.1) (steps.admit here e.0 e.1 p.scheduler.scheduling) s rest did))));
    }
