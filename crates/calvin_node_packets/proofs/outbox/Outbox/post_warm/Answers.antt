use denote.Memory.{lone}
use Rattle.std.proofs.Common.{sym, ap, arith, ◌∙◌}
use Rattle.calvin_node_packets.proofs.PacketSizes.{packet_of}
use Rattle.calvin_node_packets.proofs.Copies.{warm_more, warm_same}
use Rattle.calvin_node_packets.proofs.outbox.Outbox.post_warm.Goals as goal
use Rattle.calvin_node_packets.proofs.outbox.Outbox.post_warm.Goals.{then-is_participant, else-is_participant}

pub push_reserved-requires : goal.push_reserved-requires
push_reserved-requires g c = (packet_of (lone g.row.A-Args.mir) (lone g.row.A-Row.mir) (lone g.row.A-Reply.mir) g.met.A.App.work_fits, omega (arith, c.loop-partition.invariant.room, c.loop-partition-test.true, c.args.config.now.in_range.partitions_at_most))

pub loop-partition-preserved : goal.loop-partition-preserved
loop-partition-preserved g c = elim c.if-is_participant.branch [
  | then-is_participant w ↦ record {
    sent = ap (λ o. o.packets) w.self-is ∙ warm_more c.args.self.now.packets c.args.config.now.partitions c.args.from c.args.txn.now c.loop-partition.partition c.loop-partition.self.packets c.loop-partition.invariant.sent (sym c.is_participant.ensures ∙ w.if-is_participant.true)
        (record { reads = w.part.result; writes = w.part-then-is_participant.result }) (λ i. record { reads = w.part.ensures i; writes = w.part-then-is_participant.ensures i }) w.push_reserved.new.self.packets w.push_reserved.ensures.packets;
    room = omega (arith, ap (λ o. o.room) w.self-is, w.push_reserved.ensures.room, c.loop-partition.invariant.room);
  }
  | else-is_participant w ↦ record {
    sent = ap (λ o. o.packets) w.self-is ∙ warm_same c.args.self.now.packets c.args.config.now.partitions c.args.from c.args.txn.now c.loop-partition.partition c.loop-partition.self.packets c.loop-partition.invariant.sent (sym c.is_participant.ensures ∙ w.if-is_participant.false);
    room = omega (arith, ap (λ o. o.room) w.self-is, c.loop-partition.invariant.room);
  }
]
