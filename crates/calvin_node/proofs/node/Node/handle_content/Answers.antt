use Rattle.std.proofs.Common.{true, false, ◌++◌, Err, refl, sym, subst}
use Rattle.std.specs.FinMap as map
use Rattle.calvin_types.specs.declared.fault.Fault.TheVariants.{NotMine}
use Rattle.calvin_store.specs.Points.{warm_grows}
use Rattle.calvin_sched.specs.Steps as steps
use Rattle.calvin_node_packets.specs.declared.packet.Content.TheVariants.{Warm}
use Rattle.calvin_node_acts.specs.Growing.{content_grows}
use Rattle.calvin_node_acts.specs.Handling as handling
use Rattle.calvin_node_acts.specs.NodeStates.{site_of}
use Rattle.calvin_node_acts.specs.Layers.{rest_of, node_of}
use Rattle.calvin_node_acts.specs.Running.{NodeDid}
use Rattle.calvin_node_acts.proofs.Settling.{quiet, still_node}
use Rattle.calvin_node.proofs.node.Node.handle_content.Goals as goal

pub invariant_of-self : goal.invariant_of-self
invariant_of-self g c = let p = c.self.inside in still_node p.layer c.on_synod.new.self p.scheduler c.on_synod.ensures.of c.self.invariant

pub returns-in-Synod : goal.returns-in-Synod
returns-in-Synod g c =
    let p = c.self.inside in
    let below = rest_of g.S.Rows.points g.S.Rows.cold p.pending.requests p.scheduler p.kept in
    let x = node_of p.layer below in
    let sent = c.args.outbox.now.packets in
    record {
      did = subst (λ v. NodeDid (content_grows v.config c.args.content.now v.state) c.on_synod.result (handling.handle_content v.config c.args.from c.args.content.now v.state) v (node_of c.on_synod.new.self below) sent c.on_synod.new.outbox.packets) c.self.view_is
          (subst (λ k. NodeDid (content_grows x.config k x.state) c.on_synod.result (handling.handle_content x.config c.args.from k x.state) x (node_of c.on_synod.new.self below) sent c.on_synod.new.outbox.packets) (sym c.in-Synod.is) (c.on_synod.ensures.did below));
    }

pub invariant_of-self-in-Decided : goal.invariant_of-self-in-Decided
invariant_of-self-in-Decided g c = let p = c.self-in-Decided.inside in still_node p.layer c.on_decided.new.self p.scheduler c.on_decided.ensures.of c.self-in-Decided.invariant

pub returns-in-Decided : goal.returns-in-Decided
returns-in-Decided g c =
    let p = c.self-in-Decided.inside in
    let below = rest_of g.S.Rows.points g.S.Rows.cold p.pending.requests p.scheduler p.kept in
    let x = node_of p.layer below in
    let sent = c.args.outbox.now.packets in
    let reply = g.row.A-Reply.Denot in
    let did = quiet true c.on_decided.result (handling.on_decided {Reply = reply} c.in-Decided.slot c.in-Decided.batch x.state (map.get x.state.held c.in-Decided.slot)) x (node_of c.on_decided.new.self below) sent (c.on_decided.ensures.did below) in
    record {
      did = subst (λ v. NodeDid (content_grows v.config c.args.content.now v.state) c.on_decided.result (handling.handle_content v.config c.args.from c.args.content.now v.state) v (node_of c.on_decided.new.self below) sent sent) c.self-in-Decided.view_is
          (subst (λ k. NodeDid (content_grows x.config k x.state) c.on_decided.result (handling.handle_content x.config c.args.from k x.state) x (node_of c.on_decided.new.self below) sent sent) (sym c.in-Decided.is) (did));
    }

pub returns-in-AskBatch : goal.returns-in-AskBatch
returns-in-AskBatch g c =
    let p = c.self-in-AskBatch.inside in
    let below = rest_of g.S.Rows.points g.S.Rows.cold p.pending.requests p.scheduler p.kept in
    let x = node_of p.layer below in
    let sent = c.args.outbox.now.packets in
    record {
      did = subst (λ v. NodeDid (content_grows v.config c.args.content.now v.state) c.on_ask_batch.result (handling.handle_content v.config c.args.from c.args.content.now v.state) v v sent c.on_ask_batch.new.outbox.packets) c.self-in-AskBatch.view_is
          (subst (λ k. NodeDid (content_grows x.config k x.state) c.on_ask_batch.result (handling.handle_content x.config c.args.from k x.state) x x sent c.on_ask_batch.new.outbox.packets) (sym c.in-AskBatch.is) (c.on_ask_batch.ensures.did below));
    }

pub returns-in-Reads : goal.returns-in-Reads
returns-in-Reads g c =
    let x = c.args.self.now in
    let reply = g.row.A-Reply.Denot in
    let sent = c.args.outbox.now.packets in
    let did = quiet false c.on_reads.result (handling.by_scheduler {Reply = reply} x.state (steps.on_reads (site_of x.config.partitions x.state) c.in-Reads.place c.args.from.partition c.in-Reads.rows x.state.scheduler)) x c.on_reads.new.self sent c.on_reads.ensures.did in
    record { did = subst (λ k. NodeDid (content_grows x.config k x.state) c.on_reads.result (handling.handle_content x.config c.args.from k x.state) x c.on_reads.new.self sent sent) (sym c.in-Reads.is) did }

pub returns-in-AskReads : goal.returns-in-AskReads
returns-in-AskReads g c =
    let x = c.args.self.now in
    let sent = c.args.outbox.now.packets in
    record { did = subst (λ k. NodeDid (content_grows x.config k x.state) c.on_ask_reads.result (handling.handle_content x.config c.args.from k x.state) x c.args.self.now sent c.on_ask_reads.new.outbox.packets) (sym c.in-AskReads.is) c.on_ask_reads.ensures.did }

pub returns-in-Warm : goal.returns-in-Warm
returns-in-Warm g c =
    let x = c.args.self.now in
    let reply = g.row.A-Reply.Denot in
    let sent = c.args.outbox.now.packets in
    let did = quiet (warm_grows x.config.cold (c.in-Warm.sets.reads ++ c.in-Warm.sets.writes) x.state.scheduler.store) c.on_warm.result (handling.handle_content {Reply = reply} x.config c.args.from (Warm c.in-Warm.sets) x.state) x c.on_warm.new.self sent c.on_warm.ensures.did in
    record { did = subst (λ k. NodeDid (content_grows x.config k x.state) c.on_warm.result (handling.handle_content x.config c.args.from k x.state) x c.on_warm.new.self sent sent) (sym c.in-Warm.is) did }

pub returns-in-Replies : goal.returns-in-Replies
returns-in-Replies g c =
    let x = c.args.self.now in
    let sent = c.args.outbox.now.packets in
    record { did = subst (λ k. NodeDid (content_grows x.config k x.state) (Err NotMine) (handling.handle_content x.config c.args.from k x.state) x x sent sent) (sym c.in-Replies.is) (refl, refl, refl) }
