use Rattle.std.proofs.Common.{◌<◌, ◌≤◌, ◌++◌, ap, subst, arith, ◌∙◌}
use Rattle.std.proofs.lemmas.List.{take_all}
use Rattle.calvin_node_packets.specs.declared.packet.Content.TheVariants.{Reads}
use Rattle.calvin_node_packets.specs.Packets.{to_each}
use Rattle.calvin_node_packets.proofs.Copies.{each_more_sent}
use Rattle.calvin_node_packets.proofs.outbox.Outbox.post_reads.Goals as goal

pub push_rows-requires : goal.push_rows-requires
push_rows-requires g c = omega (arith, c.loop-i.invariant.room, subst (λ n. c.loop-i.i < n) c.len-i-end.ensures.len c.loop-i-test.true)

pub loop-i-preserved : goal.loop-i-preserved
loop-i-preserved g c = record {
  sent = each_more_sent _ _ _ _ _ _ _ _ _ c.at.ensures c.loop-i.invariant.sent c.push_rows.ensures.packets;
  room = omega (arith, c.loop-i.invariant.room, c.push_rows.ensures.room);
}

pub returns : goal.returns
returns g c = c.loop-i.invariant.sent ∙ ap (λ ps. c.args.self.now.packets ++ to_each c.args.from c.args.from.replica (Reads c.args.place c.args.rows.now.rows) ps) (take_all c.loop-i.i c.args.partitions.now (subst (λ n. n ≤ c.loop-i.i) c.len-i-end.ensures.len c.loop-i-test.false))
