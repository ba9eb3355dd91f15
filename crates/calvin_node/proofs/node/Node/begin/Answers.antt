use Rattle.std.proofs.Common.{◌≡◌, ◌++◌, true, false, Ok, sym, subst, ◌∙◌}
use Rattle.std.proofs.lemmas.List.{append-nil}
use Rattle.calvin_types.specs.Deeds.{Did}
use Rattle.calvin_sched.specs.Progress.{left}
use Rattle.calvin_types.specs.Participants.{site}
use Rattle.calvin_sched.specs.Scheduling.{turn_at, serves_others, other_active}
use Rattle.calvin_sched.specs.Steps as steps
use Rattle.calvin_node_acts.specs.declared.act.Act.TheVariants.{Begin}
use Rattle.calvin_node_packets.specs.declared.packet.Content.TheVariants.{Reads}
use Rattle.calvin_node_acts.specs.Acting as acting
use Rattle.calvin_node_acts.specs.Growing.{act_grows}
use Rattle.calvin_node_packets.specs.Packets.{to_each}
use Rattle.calvin_node_acts.specs.NodeStates.{site_of}
use Rattle.calvin_node_acts.specs.Layers.{rest_of, state_of}
use Rattle.calvin_order.specs.Configs.{over}
use Rattle.calvin_node_acts.specs.Running.{NodeDid}
use Rattle.calvin_sched.proofs.Begins.{has_begun}
use Rattle.calvin_node_acts.proofs.Settling.{running, left_then}
use Rattle.calvin_node_acts.proofs.Beginning.{begun}
use Rattle.calvin_node.proofs.node.Node.begin.Goals as goal

pub returns-then-not-serves_others : goal.returns-then-not-serves_others
returns-then-not-serves_others g c =
    let p = c.self.inside in
    let below = rest_of g.S.Rows.points g.S.Rows.cold p.pending.requests p.scheduler p.kept in
    let x = state_of p.layer below in
    let config = over p.layer.config g.S.Rows.points g.S.Rows.cold in
    let reply = g.row.A-Reply.Denot in
    let s = c.begin_in_place.new.self.scheduling in
    let sent = c.args.outbox.now.packets in
    let here = site_of p.layer.config.partitions x in
    let begun_here = has_begun here c.args.place p.scheduler.scheduling s (subst (λ h. Did false (Ok tt) (steps.silently (steps.begin h c.args.place p.scheduler.scheduling)) p.scheduler.scheduling s) c.self.invariant.here c.in_ok-begin_in_place.ensures.did) in
    let out = steps.serving here begun_here.0 in
    let did = begun_here.2 in
    let read = subst (λ h. serves_others h (turn_at p.scheduler.scheduling c.args.place) ≡ false) c.self.invariant.here (sym c.serves_others.ensures ∙ c.if-not-serves_others.true) in
    record {
      did = subst (λ v. NodeDid {Reply = reply} (act_grows v.config (Begin c.args.place) v.state) (Ok tt) (acting.begin v.config c.args.place v.state) v (running config (record x { scheduler = s; due = left s c.begin_in_place.new.self.due })) sent sent) c.self.view_is
          (subst (λ d. NodeDid {Reply = reply} (act_grows config (Begin c.args.place) x) (Ok tt) (acting.begin config c.args.place x) (running config x) (running config (record x { scheduler = s; due = d })) sent sent)
          (sym (left_then p.scheduler.scheduling s p.scheduler.due c.begin_in_place.new.self.due c.in_ok-begin_in_place.ensures.due c.due_is_undone.ensures))
          (begun reply config x c.args.place sent out s did false read sent (sym (append-nil sent))));
    }

pub returns : goal.returns
returns g c =
    let p = c.self.inside in
    let below = rest_of g.S.Rows.points g.S.Rows.cold p.pending.requests p.scheduler p.kept in
    let x = state_of p.layer below in
    let config = over p.layer.config g.S.Rows.points g.S.Rows.cold in
    let reply = g.row.A-Reply.Denot in
    let s = c.begin_in_place-2.new.self.scheduling in
    let sent = c.args.outbox.now.packets in
    let all = c.post_served.new.outbox.packets in
    let here = site_of p.layer.config.partitions x in
    let begun_here = has_begun here c.args.place p.scheduler.scheduling s (subst (λ h. Did false (Ok tt) (steps.silently (steps.begin h c.args.place p.scheduler.scheduling)) p.scheduler.scheduling s) c.self.invariant.here c.in_ok-begin_in_place-2.ensures.did) in
    let out = steps.serving here begun_here.0 in
    let did = begun_here.2 in
    let read = subst (λ h. serves_others h (turn_at p.scheduler.scheduling c.args.place) ≡ true) c.self.invariant.here (sym c.serves_others.ensures ∙ c.if-not-serves_others.false) in
    record {
      did = subst (λ v. NodeDid {Reply = reply} (act_grows v.config (Begin c.args.place) v.state) (Ok tt) (acting.begin v.config c.args.place v.state) v (running config (record x { scheduler = s; due = left s c.begin_in_place-2.new.self.due })) sent all) c.self.view_is
          (subst (λ d. NodeDid {Reply = reply} (act_grows config (Begin c.args.place) x) (Ok tt) (acting.begin config c.args.place x) (running config x) (running config (record x { scheduler = s; due = d })) sent all)
          (sym (left_then p.scheduler.scheduling s p.scheduler.due c.begin_in_place-2.new.self.due c.in_ok-begin_in_place-2.ensures.due c.due_is_undone.ensures))
          (begun reply config x c.args.place sent out s did true read all
          (c.post_served.ensures.some begun_here.0 begun_here.1 ∙ (λ i. c.reserve.ensures.packets i ++ to_each (c.id-me.ensures i) (c.id-me.ensures i).replica (Reads c.args.place out.rows) (other_active (site (c.config.ensures.partitions i) (c.id-me.ensures i).partition) begun_here.0.request)))));
    }
