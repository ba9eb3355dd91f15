-- It comes with its name to the node that it is for.
use Rattle.std.proofs.Common.{Some, refl, sym, ap, ◌∙◌}
use Rattle.std.specs.Prelude.{slice_get}
use Rattle.calvin_histories.proofs.Events.{read_at}
use Rattle.calvin_histories.proofs.Naming.{nameless, for_nobody, for_client, address_is, for_node}
use Rattle.calvin_histories.proofs.opening.came_at.Goals as goal

pub returns-in_default-clause-entry : goal.returns-in_default-clause-entry
returns-in_default-clause-entry g c = nameless c.args.packets.now.packets c.args.names.now c.requires.names c.args.number c.in_default.ensures.lookup.3

pub returns-in_default-address-clause-entry : goal.returns-in_default-address-clause-entry
returns-in_default-address-clause-entry g c =
    let packets = c.args.packets.now.packets in
    for_nobody packets c.args.number (slice_get packets c.args.number) c.in_default-address.ensures

pub returns-in_default-to-clause-entry : goal.returns-in_default-to-clause-entry
returns-in_default-to-clause-entry g c =
    let packets = c.args.packets.now.packets in
    for_client packets c.args.number (slice_get packets c.args.number) c.in_default-to.field-0 (ap Some (sym c.in_default-to.is) ∙ c.in-Some-address.ensures)

pub returns-clause-entry : goal.returns-clause-entry
returns-clause-entry g c =
    let n = c.args.number in
    let packets = c.args.packets.now.packets in
    let p = c.in-Some-copy.packet in
    let there = sym (sym c.in-Some-copy.is ∙ c.in_ok-copy.ensures.ok) in
    let name = c.in-Some.name.now in
    for_node packets n p there c.args.names.now c.requires.names name (read_at c.args.names.now c.args.names.now refl n name c.in-Some.ensures.lookup.3.0 c.in-Some.ensures.lookup.1)
    c.in-AtNode.id (address_is packets (slice_get packets n) p there c.in-Some-address.to c.in-Some-address.ensures ∙ c.in-AtNode.is) p refl
