use denote.Memory.{lone}
use Rattle.std.proofs.Common.{◌≡◌, ◌&&◌, ◌∷◌, [], true, false, cond, sym, ap, subst, ◌∙◌}
use Rattle.std.specs.FinMap.{contains_key}
use Rattle.std.specs.Prelude.{is_some, nat_lt}
use Rattle.calvin_types.specs.Deeds.{Refuses, Does}
use Rattle.calvin_types.specs.declared.fault.Fault.TheVariants.{Known, NoNode}
use Rattle.calvin_node_packets.specs.declared.packet.Address.TheVariants.{AtNode}
use Rattle.calvin_node_packets.specs.declared.packet.Content.TheVariants.{AskBatch}
use Rattle.calvin_node_packets.proofs.PacketSizes.{packet_of}
use Rattle.calvin_node_acts.specs.Acting as acting
use Rattle.calvin_node_acts.specs.Layers.{layer_of, state_of, node_of}
use Rattle.calvin_node_acts.specs.Running.{NodeDid}
use Rattle.calvin_node_acts.proofs.Settling.{running, left_again, copied_some, config_at}
use Rattle.calvin_node_acts.proofs.Asks.{sends}
use Rattle.calvin_node_sequencing.proofs.layer.SequencingLayer.ask_batch.Goals as goal

pub push-requires : goal.push-requires
push-requires g c = packet_of (lone g.row.A-Args.mir) (lone g.row.A-Row.mir) (lone g.row.A-Reply.mir) g.met.A.App.work_fits

pub returns : goal.returns
returns g c = record {
  did = λ rest.
      let p = c.self.inside in
      let x = state_of (layer_of p.config p.id p.member p.sequencer p.merge) rest in
      let config = config_at p.config rest.points rest.cold p.sequencer.delay in
      let sent = c.args.outbox.now.packets in
      let all = c.push.new.self.packets in
      let packets = record { from = p.id; to = AtNode c.args.of; content = AskBatch c.args.slot } ∷ [] in
      let there = subst (λ v. (nat_lt c.args.of.replica v.config.replicas && nat_lt c.args.of.partition v.config.partitions && nat_lt c.args.slot.group v.config.partitions) ≡ true) (sym c.self.view_is) (sym c.is_there.ensures ∙ c.if-not-is_there.false) in
      let free : contains_key p.merge.held c.args.slot ≡ false = sym (ap is_some c.held.ensures) ∙ copied_some c.held.result ∙ sym c.is_some.ensures ∙ c.if-is_some.false in
      let is = (λ i. cond (there i) (cond (contains_key p.merge.held c.args.slot) (Refuses Known) (Does x packets)) (Refuses NoNode)) ∙ (λ i. cond (free i) (Refuses Known) (Does x packets)) in
      subst (λ v. NodeDid true c.push.result (acting.ask_batch (node_of v rest).config c.args.slot c.args.of (node_of v rest).state) (node_of v rest) (node_of v rest) sent all) c.self.view_is
      (subst (λ d. NodeDid true c.push.result d (running config x) (running config x) sent all) (sym is)
      (sends g.row.A-Reply.Denot config x (left_again rest.scheduler.scheduling rest.scheduler.due) sent c.push.result packets all c.push.ensures.ok c.push.ensures.err c.push.ensures.only));
}
