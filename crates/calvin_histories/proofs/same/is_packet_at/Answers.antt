-- It is the packet of the parts that an outbox tells of it.
use Rattle.std.proofs.Common.{Some, slice_get, sym, ap, ◌∙◌}
use denote.Memory.{lone}
use Rattle.calvin_node_packets.specs.Sendings.{content_of}
use Rattle.calvin_node_packets.proofs.PacketSizes as sizes
use Rattle.calvin_histories.proofs.PacketAt.{is_from, told_whole, same_as}
use Rattle.calvin_histories.proofs.same.is_packet_at.Goals as goal

pub sent-requires : goal.sent-requires
sent-requires g c = sizes.sent_of (lone g.row.A-Args.mir) (lone g.row.A-Row.mir) (lone g.row.A-Reply.mir) g.met.A.App.work_fits

pub is_same_content-requires : goal.is_same_content-requires
is_same_content-requires g c = (
  sizes.sent_of (lone g.row.A-Args.mir) (lone g.row.A-Row.mir) (lone g.row.A-Reply.mir) g.met.A.App.work_fits,
  sizes.content_of (lone g.row.A-Args.mir) (lone g.row.A-Row.mir) (lone g.row.A-Reply.mir) g.met.A.App.work_fits,
)

pub returns : goal.returns
returns g c =
    let o = slice_get c.args.packets.now.packets c.args.number in
    let p = c.args.packet.now in
    let from = is_from c.sender.result p.from c.if-ne.ensures in
    let content = content_of c.in-Some-sent.sent in
    same_as c.is_same_content.result o p content
    (told_whole o p.from p.to content (c.sender.ensures ∙ ap Some from) (ap Some (sym c.if-not-is_same_address.ensures) ∙ c.in-Some.ensures) c.in-Some-sent.ensures)
    c.is_same_content.ensures
