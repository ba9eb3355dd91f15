-- The packet was sent as the node's history says, and is a reply to the ticket's request.
use Rattle.std.proofs.Common.{◌≡◌, IfSome, slice_get, sym, ap, subst, ◌∙◌}
use Rattle.calvin_node_packets.specs.declared.packet.Packet.{Packet}
use Rattle.calvin_book.specs.Replies.{reply_in}
use Rattle.calvin_histories.specs.Histories.{id_of}
use Rattle.calvin_wide_desk.proofs.Going.{has_sent, told_there}
use Rattle.calvin_wide_desk.proofs.desk.WideDesk.answer.Goals as goal

pub invariant_of-result : goal.invariant_of-result
invariant_of-result g c =
    let config = g.J.WideFounding.config in
    let locked = c.self.inside.locked in
    let pen : (c.in-Some.pen.1 ≡ locked.history) × (locked.id ≡ id_of config.partitions c.in-Some.pen.0) = subst (λ o. IfSome o (λ p. (p.1 ≡ locked.history) × (locked.id ≡ id_of config.partitions p.0))) c.in-Some.is c.self.invariant.0 in
    let mark = c.mark-mark.result in
    let is_history : mark.1 ≡ locked.history = ap (λ p. p.1) c.mark-mark.ensures ∙ pen.0 in
    let is_node : locked.id ≡ id_of config.partitions mark.0 = pen.1 ∙ ap (λ p. id_of config.partitions p.0) (sym c.mark-mark.ensures) in
    let sent = c.sent-sent.result.now.packets in
    let life = c.sent-sent.ensures in
    let there = told_there (λ (p : Packet g.row.A-Args.Denot g.row.A-Row.Denot g.row.A-Reply.Denot). reply_in c.ticket.inside.entered.txn.id c.ticket.inside.entered.txn.attempt p.content) (slice_get sent c.args.number) _ (sym c.reply_at.ensures ∙ c.in_ok-_place.was) in (
      c.id-sender.ensures ∙ is_node,
      record {
        replica = c.if-sender-ticket.false;
        packet = there.0;
        sent = has_sent g.A.App.meaning config locked c.id-sender.result mark.1 life.0 sent life.1 c.self.invariant.1 c.id-sender.ensures is_history c.args.number there.0 there.1;
        answers = (c.in_ok-_place._place, there.2);
      },
    )
