use denote.Memory.{lone}
use Rattle.std.proofs.Common.{Some, ap, sym, slice_get, ◌∙◌}
use Rattle.std.proofs.lemmas.Bool.{false≢true}
use Rattle.calvin_node_packets.specs.Keeping.{restored}
use Rattle.calvin_node_packets.specs.Packets.{tells_batch}
use Rattle.calvin_node_packets.proofs.PacketSizes.{content_of, sent_of}
use Rattle.calvin_node_packets.proofs.KeptPackets.{lists_of, found_at, packet_at, seen_below, seen_said}
use Rattle.calvin_node_packets.proofs.outbox.Outbox.copy.Goals as goal

pub sent_of-sent-requires : goal.sent_of-sent-requires
sent_of-sent-requires g c =
    let k = c.in-Some.kept.now in
    let l = lists_of c.self.inside.rows.views c.self.inside.sets.items c.self.inside.answers.items in
    let here = found_at c.deref.result.now c.self.inside.kept.items c.args.number k k c.deref.ensures.value c.in-Some.ensures.lookup.3.0 c.in-Some.ensures.lookup.1 in (
      sent_of (lone g.row.A-Args.mir) (lone g.row.A-Row.mir) (lone g.row.A-Reply.mir) g.met.A.App.work_fits,
      seen_below c.self.inside.kept.items l _ c.args.number k c.self.invariant here (λ i. record { rows = c.self.inside.rows.views; sets = c.as_slice.ensures.value i; answers = c.as_slice-2.ensures.value i }),
    )

pub copy-requires : goal.copy-requires
copy-requires g c = (sent_of (lone g.row.A-Args.mir) (lone g.row.A-Row.mir) (lone g.row.A-Reply.mir) g.met.A.App.work_fits, content_of (lone g.row.A-Args.mir) (lone g.row.A-Row.mir) (lone g.row.A-Reply.mir) g.met.A.App.work_fits)

pub returns-clause-ok : goal.returns-clause-ok
returns-clause-ok g c =
    let k = c.in-Some.kept.now in
    let l = lists_of c.self.inside.rows.views c.self.inside.sets.items c.self.inside.answers.items in
    let here = found_at c.deref.result.now c.self.inside.kept.items c.args.number k k c.deref.ensures.value c.in-Some.ensures.lookup.3.0 c.in-Some.ensures.lookup.1 in
    let said_so = c.in_ok-content.ensures.ok ∙ c.sent_of-sent.ensures ∙ seen_said c.self.inside.kept.items l _ c.args.number k c.self.invariant here (λ i. record { rows = c.self.inside.rows.views; sets = c.as_slice.ensures.value i; answers = c.as_slice-2.ensures.value i }) in
    (λ i. Some (record { from = k.from; to = k.to; content = said_so i }))
    ∙ sym (packet_at c.self.inside.kept.items l c.args.number k c.self.invariant here) ∙ ap (λ v. slice_get v.packets c.args.number) c.self.view_is

pub returns-in_err-content-clause-succeeds : goal.returns-in_err-content-clause-succeeds
returns-in_err-content-clause-succeeds g c =
    let k = c.in-Some.kept.now in
    let l = lists_of c.self.inside.rows.views c.self.inside.sets.items c.self.inside.answers.items in
    let here = found_at c.deref.result.now c.self.inside.kept.items c.args.number k k c.deref.ensures.value c.in-Some.ensures.lookup.3.0 c.in-Some.ensures.lookup.1 in
    let said_so = c.sent_of-sent.ensures ∙ seen_said c.self.inside.kept.items l _ c.args.number k c.self.invariant here (λ i. record { rows = c.self.inside.rows.views; sets = c.as_slice.ensures.value i; answers = c.as_slice-2.ensures.value i }) in
    λ told. absurd (false≢true (c.in_err-content.ensures.succeeds (ap tells_batch said_so ∙ told (restored l k) (sym (ap (λ v. slice_get v.packets c.args.number) c.self.view_is) ∙ packet_at c.self.inside.kept.items l c.args.number k c.self.invariant here))))
