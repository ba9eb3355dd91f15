use Rattle.std.proofs.Common.{◌≡◌, ◌+◌, suc, [], false, sym, ap, subst, ◌∙◌, arith}
use Rattle.calvin_types.specs.Deeds.{Did}
use Rattle.calvin_sched.specs.Progress.{left}
use Rattle.calvin_sched.specs.Standing as standing
use Rattle.calvin_node_acts.specs.Acting as acting
use Rattle.calvin_node_acts.specs.Layers.{rest_of, state_of}
use Rattle.calvin_order.specs.Configs.{over}
use Rattle.calvin_node_acts.specs.Running.{NodeDid}
use Rattle.calvin_node_acts.proofs.Settling.{running, left_again, scheduled}
use Rattle.calvin_node.proofs.node.Node.mark.Goals as goal

pub returns : goal.returns
returns g c =
    let p = c.self.inside in
    let below = rest_of g.S.Rows.points g.S.Rows.cold p.pending.requests p.scheduler p.kept in
    let x = state_of p.layer below in
    let config = over p.layer.config g.S.Rows.points g.S.Rows.cold in
    let s = c.mark.new.self.scheduling in
    let next : c.args.epoch + 1 ≡ suc c.args.epoch = omega arith in
    let did = subst (λ n. Did false c.mark.result (standing.mark g.S.Rows.points n p.scheduler.scheduling) p.scheduler.scheduling s) next c.mark.ensures.did in
    record {
      did = subst (λ v. NodeDid {Reply = g.row.A-Reply.Denot} false c.mark.result (acting.mark_end v.config c.args.epoch v.state) v (running config (record x { scheduler = s; due = left s c.mark.new.self.due })) [] []) c.self.view_is
          (subst (λ d. NodeDid {Reply = g.row.A-Reply.Denot} false c.mark.result (acting.mark_end config c.args.epoch x) (running config x) (running config (record x { scheduler = s; due = left s d })) [] [])
          (c.due_is_undone.ensures ∙ sym (ap (λ n. n.due) c.mark.ensures.rest))
          (scheduled g.row.A-Reply.Denot config x (left_again p.scheduler.scheduling p.scheduler.due) false false (λ h. h) c.mark.result (standing.mark g.S.Rows.points (suc c.args.epoch) p.scheduler.scheduling) s did));
    }
