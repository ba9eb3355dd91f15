use denote.Memory.{lone}
use Rattle.std.proofs.Common.{Some, ap, sym, slice_get, ◌∙◌}
use Rattle.std.specs.Option.{option_map}
use Rattle.calvin_node_packets.proofs.PacketSizes.{sent_of}
use Rattle.calvin_node_packets.proofs.KeptPackets.{lists_of, found_at, packet_at, past_packets, seen_below, seen_said}
use Rattle.calvin_node_packets.proofs.outbox.Outbox.sent.Goals as goal

pub sent_of-requires : goal.sent_of-requires
sent_of-requires g c =
    let k = c.in-Some.kept.now in
    let l = lists_of c.self.inside.rows.views c.self.inside.sets.items c.self.inside.answers.items in
    let here = found_at c.deref.result.now c.self.inside.kept.items c.args.number k k c.deref.ensures.value c.in-Some.ensures.lookup.3.0 c.in-Some.ensures.lookup.1 in (
      sent_of (lone g.row.A-Args.mir) (lone g.row.A-Row.mir) (lone g.row.A-Reply.mir) g.met.A.App.work_fits,
      seen_below c.self.inside.kept.items l _ c.args.number k c.self.invariant here (λ i. record { rows = c.self.inside.rows.views; sets = c.as_slice.ensures.value i; answers = c.as_slice-in-Some.ensures.value i }),
    )

pub returns-in-Some : goal.returns-in-Some
returns-in-Some g c =
    let k = c.in-Some.kept.now in
    let l = lists_of c.self.inside.rows.views c.self.inside.sets.items c.self.inside.answers.items in
    let here = found_at c.deref.result.now c.self.inside.kept.items c.args.number k k c.deref.ensures.value c.in-Some.ensures.lookup.3.0 c.in-Some.ensures.lookup.1 in
    ap Some (c.sent_of.ensures ∙ seen_said c.self.inside.kept.items l _ c.args.number k c.self.invariant here (λ i. record { rows = c.self.inside.rows.views; sets = c.as_slice.ensures.value i; answers = c.as_slice-in-Some.ensures.value i }))
    ∙ ap (option_map (λ packet. packet.content)) (sym (packet_at c.self.inside.kept.items l c.args.number k c.self.invariant here) ∙ ap (λ v. slice_get v.packets c.args.number) c.self.view_is)

pub returns-in-None : goal.returns-in-None
returns-in-None g c =
    ap (option_map (λ packet. packet.content))
    (sym (past_packets c.self.inside.kept.items c.deref.result.now _ c.args.number c.deref.ensures.value c.in-None.ensures.lookup.3) ∙ ap (λ v. slice_get v.packets c.args.number) c.self.view_is)
