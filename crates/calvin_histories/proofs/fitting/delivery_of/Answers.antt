-- The one with the name, if it is this packet and for this node.
use Rattle.std.proofs.Common.{◌≡◌, List, Some, slice_get, sym, ap, ◌∙◌}
use Rattle.std.proofs.lemmas.Option.{same_Some}
use Rattle.calvin_node_packets.specs.declared.packet.Address.{Address}
use Rattle.calvin_node_packets.specs.declared.packet.Packet.{Packet}
use Rattle.calvin_node_packets.specs.Packets.{is_for}
use Rattle.calvin_histories.proofs.Events.{none_named, no_address, other_address, other_packet, is_delivery}
use Rattle.calvin_histories.proofs.Naming.{address_is}
use Rattle.calvin_histories.proofs.fitting.delivery_of.Goals as goal

pub returns-in_default : goal.returns-in_default
returns-in_default g c = none_named c.args.world.now c.args.id c.args.name c.args.packet.now c.in_default.ensures

pub returns-in_default-address : goal.returns-in_default-address
returns-in_default-address g c = λ event is. absurd (no_address c.args.world.now c.args.id c.args.name c.args.packet.now c.packets-packets.result.now.packets c.packets-packets.ensures c.in-Some.number c.in-Some.ensures c.in_default-address.ensures)

pub returns-then-not-is_for : goal.returns-then-not-is_for
returns-then-not-is_for g c =
    let number = c.in-Some.number in
    let named = c.in-Some.ensures in
    let there = ap (λ (ps : List (Packet g.row.A-Args.Denot g.row.A-Row.Denot g.row.A-Reply.Denot)). slice_get ps number) c.packets-packets.ensures ∙ named.1 in
    let to = address_is c.packets-packets.result.now.packets (slice_get c.packets-packets.result.now.packets number) named.0 there c.in-Some-address.to c.in-Some-address.ensures in
    other_address c.args.world.now c.args.id c.args.name c.args.packet.now number named named.0 named.1 (ap (λ (a : Address). is_for a c.args.id) to ∙ sym c.is_for.ensures ∙ c.if-not-is_for.true)

pub returns-then-not-is_packet_at : goal.returns-then-not-is_packet_at
returns-then-not-is_packet_at g c =
    let number = c.in-Some.number in
    let named = c.in-Some.ensures in
    let there = ap (λ (ps : List (Packet g.row.A-Args.Denot g.row.A-Row.Denot g.row.A-Reply.Denot)). slice_get ps number) c.packets-packets.ensures ∙ named.1 in
    other_packet c.args.world.now c.args.id c.args.name c.args.packet.now number named named.0 named.1 (λ same. c.if-not-is_packet_at.ensures (there ∙ ap Some same))

pub returns : goal.returns
returns g c =
    let number = c.in-Some.number in
    let named = c.in-Some.ensures in
    let there = ap (λ (ps : List (Packet g.row.A-Args.Denot g.row.A-Row.Denot g.row.A-Reply.Denot)). slice_get ps number) c.packets-packets.ensures ∙ named.1 in
    let to = address_is c.packets-packets.result.now.packets (slice_get c.packets-packets.result.now.packets number) named.0 there c.in-Some-address.to c.in-Some-address.ensures in
    is_delivery c.args.world.now c.args.id c.args.name c.args.packet.now number named named.0 named.1 (same_Some named.0 c.args.packet.now (sym there ∙ c.if-not-is_packet_at.ensures))
    (ap (λ (a : Address). is_for a c.args.id) to ∙ sym c.is_for.ensures ∙ c.if-not-is_for.false)
