use Rattle.std.proofs.Common.{[], false, sym, ap, subst, ◌∙◌}
use Rattle.calvin_sched.specs.Progress.{left}
use Rattle.calvin_sched.specs.Steps as steps
use Rattle.calvin_node_acts.specs.Handling as handling
use Rattle.calvin_node_acts.specs.NodeStates.{site_of}
use Rattle.calvin_node_acts.specs.Layers.{rest_of, state_of}
use Rattle.calvin_order.specs.Configs.{over}
use Rattle.calvin_node_acts.specs.Running.{NodeDid}
use Rattle.calvin_node_acts.proofs.Settling.{running, left_again, scheduled}
use Rattle.calvin_node.proofs.node.Node.on_reads.Goals as goal

pub returns : goal.returns
returns g c =
    let p = c.self.inside in
    let below = rest_of g.S.Rows.points g.S.Rows.cold p.pending.requests p.scheduler p.kept in
    let x = state_of p.layer below in
    let config = over p.layer.config g.S.Rows.points g.S.Rows.cold in
    let reply = g.row.A-Reply.Denot in
    let s = c.on_reads.new.self.scheduling in
    record {
      did = subst (λ v. NodeDid {Reply = reply} false c.on_reads.result (handling.by_scheduler v.state (steps.on_reads (site_of v.config.partitions v.state) c.args.place c.args.from c.args.rows.now v.state.scheduler)) v (running config (record x { scheduler = s; due = left s c.on_reads.new.self.due })) [] []) c.self.view_is
          (subst (λ d. NodeDid {Reply = reply} false c.on_reads.result (handling.by_scheduler x (steps.on_reads (site_of p.layer.config.partitions x) c.args.place c.args.from c.args.rows.now x.scheduler)) (running config x) (running config (record x { scheduler = s; due = left s d })) [] [])
          (c.due_is_undone.ensures ∙ sym (ap (λ n. n.due) c.on_reads.ensures.rest))
          (subst (λ here. NodeDid {Reply = reply} false c.on_reads.result (handling.by_scheduler x (steps.on_reads here c.args.place c.args.from c.args.rows.now x.scheduler)) (running config x) (running config (record x { scheduler = s; due = left s (left p.scheduler.scheduling p.scheduler.due) })) [] []) c.self.invariant.here
          (scheduled reply config x (left_again p.scheduler.scheduling p.scheduler.due) false false (λ h. h) c.on_reads.result (steps.on_reads p.scheduler.here c.args.place c.args.from c.args.rows.now p.scheduler.scheduling) s c.on_reads.ensures.did)));
    }
