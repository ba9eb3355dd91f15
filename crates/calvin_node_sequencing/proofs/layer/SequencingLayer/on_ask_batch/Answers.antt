use denote.Memory.{lone}
use Rattle.std.proofs.Common.{◌≡◌, ◌∷◌, [], true, Some, sym, subst, ◌∙◌}
use Rattle.std.specs.FinMap.{get}
use Rattle.calvin_node_packets.specs.declared.packet.Address.TheVariants.{AtNode}
use Rattle.calvin_node_packets.specs.declared.packet.Content.TheVariants.{Decided}
use Rattle.calvin_node_packets.proofs.PacketSizes.{packet_of}
use Rattle.calvin_node_acts.specs.Handling as handling
use Rattle.calvin_node_acts.specs.Layers.{layer_of, state_of, node_of}
use Rattle.calvin_node_acts.specs.Running.{NodeDid}
use Rattle.calvin_node_acts.proofs.Settling.{running, left_again, config_at}
use Rattle.calvin_node_acts.proofs.Asks.{sends}
use Rattle.calvin_node_sequencing.proofs.layer.SequencingLayer.on_ask_batch.Goals as goal

pub push-requires : goal.push-requires
push-requires g c = packet_of (lone g.row.A-Args.mir) (lone g.row.A-Row.mir) (lone g.row.A-Reply.mir) g.met.A.App.work_fits

pub returns : goal.returns
returns g c = record {
  did = λ rest.
      let p = c.self.inside in
      let x = state_of (layer_of p.config p.id p.member p.sequencer p.merge) rest in
      let config = config_at p.config rest.points rest.cold p.sequencer.delay in
      let sent = c.args.outbox.now.packets in
      let all = c.push.new.self.packets in
      let packets = record { from = p.id; to = AtNode c.args.from; content = Decided c.args.slot c.in_ok-batch.batch } ∷ [] in
      let there : get p.merge.held c.args.slot ≡ Some c.in_ok-batch.batch = sym c.in-Some.ensures ∙ (λ i. Some (sym c.in_ok-batch.ensures.ok i)) in
      subst (λ v. NodeDid true c.push.result (handling.on_ask_batch c.args.from c.args.slot (node_of v rest).state (get (node_of v rest).state.held c.args.slot)) (node_of v rest) (node_of v rest) sent all) c.self.view_is
      (subst (λ o. NodeDid true c.push.result (handling.on_ask_batch c.args.from c.args.slot x o) (running config x) (running config x) sent all) (sym there)
      (sends g.row.A-Reply.Denot config x (left_again rest.scheduler.scheduling rest.scheduler.due) sent c.push.result packets all c.push.ensures.ok c.push.ensures.err c.push.ensures.only));
}
