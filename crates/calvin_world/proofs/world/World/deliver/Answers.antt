-- What the node makes of the packet is a step of the world.
use denote.Memory.{lone}
use Rattle.std.proofs.Common.{◌≡◌, ℕ, ◌<◌, length, None, Some, slice_get, slice_set, sym, ap, subst, ◌∙◌}
use Rattle.std.proofs.lemmas.List.{length-map}
use Rattle.std.proofs.lemmas.Option.{slice_get-get_or, same_Some}
use Rattle.calvin_node_packets.proofs.PacketSizes.{packet_of}
use Rattle.calvin_types.specs.declared.fault.Fault.TheVariants.{NoPacket}
use Rattle.calvin_node_acts.specs.Growing.{content_grows}
use Rattle.calvin_node_acts.specs.Handling.{handle}
use Rattle.calvin_order.specs.Configs.{config_of}
use Rattle.calvin_node_acts.specs.Running.{Running, NodeDid}
use Rattle.calvin_world.specs.declared.event.Outcome.TheVariants.{Refused}
use Rattle.calvin_world.specs.declared.event.Event.TheVariants.{Deliver}
use Rattle.calvin_world.specs.RunningWorlds.{world_of, IsOpened, IsReached}
use Rattle.calvin_world.specs.SettledWorlds.{outcome_of, SettledStep}
use Rattle.calvin_world.specs.Worlds.{index_of, node_at}
use Rattle.calvin_node_packets.specs.declared.packet.Packet.{Packet}
use Rattle.calvin_world.proofs.InCode.{seen, unseen, handled, can_be_put, no_packet, for_a_client, for_nobody, delivered, delivered_kept}
use Rattle.calvin_world.proofs.world.World.deliver.Goals as goal

pub lend-requires : goal.lend-requires
lend-requires g c = packet_of (lone g.row.A-Args.mir) (lone g.row.A-Row.mir) (lone g.row.A-Reply.mir) g.met.A.App.work_fits

pub handle-result-requires : goal.handle-result-requires
handle-result-requires g c = packet_of (lone g.row.A-Args.mir) (lone g.row.A-Row.mir) (lone g.row.A-Reply.mir) g.met.A.App.work_fits

pub put_back-requires : goal.put_back-requires
put_back-requires g c =
    let x = c.index_mut.result.now in
    let packet = c.in-Some-lend.packet in
    let more = handled (content_grows x.config packet.content x.state) c.handle-result.result (handle x.config packet x.state) x c.handle-result.new.self c.lend.new.self.packets c.handle-result.new.outbox.packets c.handle-result.ensures.did in (
      packet_of (lone g.row.A-Args.mir) (lone g.row.A-Row.mir) (lone g.row.A-Reply.mir) g.met.A.App.work_fits,
      can_be_put c.self.inside.packets.packets c.lend.new.self.packets c.handle-result.new.outbox.packets c.args.number packet c.in-Some-lend.ensures more.0 more.1,
    )

pub index_mut-requires : goal.index_mut-requires
index_mut-requires g c =
    let p = c.self.inside in
    subst (λ (n : ℕ). c.in-Some-index.at < n) (ap (λ w. length w.nodes) (sym c.self.view_is) ∙ length-map p.nodes.items (λ (n : Running g.row.A-Args.Denot g.row.A-Row.Denot). n.state) ∙ sym p.nodes.ok.0) c.in-Some-index.ensures.1

pub returns-in_default : goal.returns-in_default
returns-in_default g c =
    let reached = subst (λ w. IsReached g.A.App.meaning w) c.self.view_is c.self.invariant.1 in
    no_packet g.A.App.meaning c.args.self.now reached c.args.number (subst (λ w. slice_get w.packets c.args.number ≡ None) c.self.view_is (unseen _ c.in_default.ensures))

pub returns-in_default-to : goal.returns-in_default-to
returns-in_default-to g c =
    let reached = subst (λ w. IsReached g.A.App.meaning w) c.self.view_is c.self.invariant.1 in
    let sent = seen _ c.in-Some.to c.in-Some.ensures in
    for_a_client g.A.App.meaning c.args.self.now reached c.args.number sent.0 (subst (λ w. slice_get w.packets c.args.number ≡ Some sent.0) c.self.view_is sent.1) c.in_default-to.field-0 (sent.2 ∙ c.in_default-to.is)

pub returns-in_default-index : goal.returns-in_default-index
returns-in_default-index g c =
    let reached = subst (λ w. IsReached g.A.App.meaning w) c.self.view_is c.self.invariant.1 in
    let sent = seen _ c.in-Some.to c.in-Some.ensures in
    for_nobody g.A.App.meaning c.args.self.now reached c.args.number sent.0 (subst (λ w. slice_get w.packets c.args.number ≡ Some sent.0) c.self.view_is sent.1) c.in-AtNode.id (sent.2 ∙ c.in-AtNode.is) c.in_default-index.ensures

pub invariant_of-self : goal.invariant_of-self
invariant_of-self g c =
    let p = c.self.inside in
    let config = config_of p.config g.S.Rows.points g.S.Rows.cold in
    (c.self.invariant.0, subst (λ l. IsReached g.A.App.meaning (world_of config p.nodes.items l)) (sym c.in_default-lend.ensures.1) c.self.invariant.1)

pub returns-in_default-lend : goal.returns-in_default-lend
returns-in_default-lend g c =
    let p = c.self.inside in
    let config = config_of p.config g.S.Rows.points g.S.Rows.cold in
    let number = c.args.number in
    let reached = subst (λ w. IsReached g.A.App.meaning w) c.self.view_is c.self.invariant.1 in
    let none = subst (λ w. slice_get w.packets number ≡ None) c.self.view_is c.in_default-lend.ensures.0 in
    subst (λ l. SettledStep g.A.App.meaning c.args.self.now (Deliver number) (Refused NoPacket) (world_of config p.nodes.items l)) (sym c.in_default-lend.ensures.1)
    (subst (λ w. SettledStep g.A.App.meaning c.args.self.now (Deliver number) (Refused NoPacket) w) (sym c.self.view_is) (no_packet g.A.App.meaning c.args.self.now reached number none))

pub invariant_of-self-2 : goal.invariant_of-self-2
invariant_of-self-2 g c =
    let p = c.self.inside in
    let config = config_of p.config g.S.Rows.points g.S.Rows.cold in
    let at = c.in-Some-index.at in
    let within = subst (λ (n : ℕ). at < n) (ap (λ w. length w.nodes) (sym c.self.view_is) ∙ length-map p.nodes.items (λ (n : Running g.row.A-Args.Denot g.row.A-Row.Denot). n.state)) c.in-Some-index.ensures.1 in
    let there = slice_get-get_or p.nodes.items at c.index_mut.result.now within ∙ ap Some (sym c.index_mut.ensures.value) in
    let at_is = subst (λ w. at ≡ index_of w.config.partitions c.in-AtNode.id) (sym c.self.view_is) c.in-Some-index.ensures.0 in
    let found = subst (λ w. node_at w c.in-AtNode.id ≡ slice_get w.nodes at) (sym c.self.view_is) c.in-Some-index.ensures.2 in
    let packet = c.in-Some-lend.packet in
    let lent = c.in-Some-lend.ensures in
    let sent = seen _ c.in-Some.to c.in-Some.ensures in
    let to = ap (λ (q : Packet g.row.A-Args.Denot g.row.A-Row.Denot g.row.A-Reply.Denot). q.to) (same_Some packet sent.0 (sym lent.there ∙ sent.1)) ∙ sent.2 ∙ c.in-AtNode.is in
    let x = c.index_mut.result.now in
    let all = c.handle-result.new.outbox.packets in
    let did = subst (λ s. NodeDid (content_grows x.config packet.content x.state) c.handle-result.result (handle x.config packet x.state) x c.handle-result.new.self s all) lent.after_is c.handle-result.ensures.did in
    subst (λ l. IsOpened config (slice_set p.nodes.items at c.handle-result.new.self) × IsReached g.A.App.meaning (world_of config (slice_set p.nodes.items at c.handle-result.new.self) l)) (sym c.put_back.ensures)
    (delivered_kept g.A.App.meaning config p.nodes.items p.packets.packets c.self.invariant.0 c.self.invariant.1 c.in-AtNode.id at at_is found x c.handle-result.new.self there c.args.number packet lent.other lent.there to c.handle-result.result all did)

pub returns : goal.returns
returns g c =
    let p = c.self.inside in
    let config = config_of p.config g.S.Rows.points g.S.Rows.cold in
    let at = c.in-Some-index.at in
    let within = subst (λ (n : ℕ). at < n) (ap (λ w. length w.nodes) (sym c.self.view_is) ∙ length-map p.nodes.items (λ (n : Running g.row.A-Args.Denot g.row.A-Row.Denot). n.state)) c.in-Some-index.ensures.1 in
    let there = slice_get-get_or p.nodes.items at c.index_mut.result.now within ∙ ap Some (sym c.index_mut.ensures.value) in
    let at_is = subst (λ w. at ≡ index_of w.config.partitions c.in-AtNode.id) (sym c.self.view_is) c.in-Some-index.ensures.0 in
    let found = subst (λ w. node_at w c.in-AtNode.id ≡ slice_get w.nodes at) (sym c.self.view_is) c.in-Some-index.ensures.2 in
    let packet = c.in-Some-lend.packet in
    let lent = c.in-Some-lend.ensures in
    let sent = seen _ c.in-Some.to c.in-Some.ensures in
    let to = ap (λ (q : Packet g.row.A-Args.Denot g.row.A-Row.Denot g.row.A-Reply.Denot). q.to) (same_Some packet sent.0 (sym lent.there ∙ sent.1)) ∙ sent.2 ∙ c.in-AtNode.is in
    let x = c.index_mut.result.now in
    let all = c.handle-result.new.outbox.packets in
    let did = subst (λ s. NodeDid (content_grows x.config packet.content x.state) c.handle-result.result (handle x.config packet x.state) x c.handle-result.new.self s all) lent.after_is c.handle-result.ensures.did in
    subst (λ w. SettledStep g.A.App.meaning w (Deliver c.args.number) (outcome_of c.handle-result.result) (world_of config (slice_set p.nodes.items at c.handle-result.new.self) c.put_back.new.self.packets)) c.self.view_is
    (subst (λ l. SettledStep g.A.App.meaning (world_of config p.nodes.items p.packets.packets) (Deliver c.args.number) (outcome_of c.handle-result.result) (world_of config (slice_set p.nodes.items at c.handle-result.new.self) l)) (sym c.put_back.ensures)
    (delivered g.A.App.meaning config p.nodes.items p.packets.packets c.self.invariant.0 c.self.invariant.1 c.in-AtNode.id at at_is found x c.handle-result.new.self there c.args.number packet lent.other lent.there to c.handle-result.result all did))
