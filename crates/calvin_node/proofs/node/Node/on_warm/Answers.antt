use Rattle.std.proofs.Common.{[], ◌++◌, sym, ap, subst, ◌∙◌}
use Rattle.calvin_types.specs.Deeds.{Does}
use Rattle.calvin_store.specs.Points.{warm_grows}
use Rattle.calvin_sched.specs.Progress.{left}
use Rattle.calvin_sched.specs.Standing as standing
use Rattle.calvin_node_packets.specs.declared.packet.Content.TheVariants.{Warm}
use Rattle.calvin_node_acts.specs.Handling as handling
use Rattle.calvin_node_acts.specs.Layers.{rest_of, state_of}
use Rattle.calvin_order.specs.Configs.{over}
use Rattle.calvin_node_acts.specs.Running.{NodeDid}
use Rattle.calvin_node_acts.proofs.Settling.{running, left_again, scheduled}
use Rattle.calvin_node.proofs.node.Node.on_warm.Goals as goal

pub returns : goal.returns
returns g c =
    let p = c.self.inside in
    let below = rest_of g.S.Rows.points g.S.Rows.cold p.pending.requests p.scheduler p.kept in
    let x = state_of p.layer below in
    let config = over p.layer.config g.S.Rows.points g.S.Rows.cold in
    let reply = g.row.A-Reply.Denot in
    let s = c.warm.new.self.scheduling in
    let keys = c.args.sets.now.reads ++ c.args.sets.now.writes in
    record {
      did = subst (λ v. NodeDid {Reply = reply} (warm_grows v.config.cold keys v.state.scheduler.store) c.warm.result (handling.handle_content v.config v.state.id (Warm c.args.sets.now) v.state) v (running config (record x { scheduler = s; due = left s c.warm.new.self.due })) [] []) c.self.view_is
          (subst (λ d. NodeDid {Reply = reply} (warm_grows g.S.Rows.cold keys x.scheduler.store) c.warm.result (handling.handle_content config x.id (Warm c.args.sets.now) x) (running config x) (running config (record x { scheduler = s; due = left s d })) [] [])
          (c.due_is_undone.ensures ∙ sym (ap (λ n. n.due) c.warm.ensures.rest))
          (scheduled reply config x (left_again p.scheduler.scheduling p.scheduler.due) (warm_grows g.S.Rows.cold keys p.scheduler.scheduling.store) (warm_grows g.S.Rows.cold keys p.scheduler.scheduling.store) (λ h. h) c.warm.result (Does (standing.warm (c.args.sets.now.reads ++ c.args.sets.now.writes) p.scheduler.scheduling) tt) s c.warm.ensures.did));
    }
