use Rattle.std.proofs.Common.{[], true, refl, sym, ap, subst, ◌∙◌}
use Rattle.calvin_sched.specs.Progress.{left}
use Rattle.calvin_sched.specs.Standing as standing
use Rattle.calvin_node_acts.specs.Acting as acting
use Rattle.calvin_node_acts.specs.Layers.{rest_of, state_of}
use Rattle.calvin_order.specs.Configs.{over}
use Rattle.calvin_node_acts.specs.Running.{NodeDid}
use Rattle.calvin_node_acts.proofs.Settling.{running, left_again, scheduled}
use Rattle.calvin_node.proofs.node.Node.cool.Goals as goal

pub returns : goal.returns
returns g c =
    let p = c.self.inside in
    let below = rest_of g.S.Rows.points g.S.Rows.cold p.pending.requests p.scheduler p.kept in
    let x = state_of p.layer below in
    let config = over p.layer.config g.S.Rows.points g.S.Rows.cold in
    let s = c.cool.new.self.scheduling in
    record {
      did = subst (λ v. NodeDid {Reply = g.row.A-Reply.Denot} true c.cool.result (acting.cool_row v.config c.args.key.now v.state) v (running config (record x { scheduler = s; due = left s c.cool.new.self.due })) [] []) c.self.view_is
          (subst (λ d. NodeDid {Reply = g.row.A-Reply.Denot} true c.cool.result (acting.cool_row config c.args.key.now x) (running config x) (running config (record x { scheduler = s; due = left s d })) [] [])
          (c.due_is_undone.ensures ∙ sym (ap (λ n. n.due) c.cool.ensures.rest))
          (scheduled g.row.A-Reply.Denot config x (left_again p.scheduler.scheduling p.scheduler.due) g.S.Rows.cold true (λ _. refl) c.cool.result (standing.cool g.S.Rows.cold c.args.key.now p.scheduler.scheduling) s c.cool.ensures.did));
    }
