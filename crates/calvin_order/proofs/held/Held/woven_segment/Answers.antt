use Rattle.std.proofs.Common.{length, sym, ap, ◌∙◌, arith}
use Rattle.calvin_order.specs.Configs.{order_config, together}
use Rattle.calvin_order.specs.Merging.{batch_at}
use Rattle.calvin_order.proofs.Joining.{length-merged, length-numbered}
use Rattle.calvin_order.proofs.held.Held.woven_segment.Goals as goal

pub new-requires-2-clause-some : goal.new-requires-2-clause-some
new-requires-2-clause-some g c =
    let config = order_config c.args.config.now in
    let B = batch_at c.args.self.now.batches in
    let all = ap length c.in_ok-requests-2.ensures.ok ∙ ap length c.copy_all.ensures ∙ sym (length-numbered c.args.epoch 0 (together config B c.args.epoch)) ∙ length-merged config B c.args.epoch in
    omega (arith, all, c.count-count.ensures.count, c.if-count-eq0.false)

pub new-requires-2-clause-few : goal.new-requires-2-clause-few
new-requires-2-clause-few g c =
    let config = order_config c.args.config.now in
    let B = batch_at c.args.self.now.batches in
    let all = ap length c.in_ok-requests-2.ensures.ok ∙ ap length c.copy_all.ensures ∙ sym (length-numbered c.args.epoch 0 (together config B c.args.epoch)) ∙ length-merged config B c.args.epoch in
    omega (arith, all, c.count-count.ensures.count, c.count-count.ensures.at_most, c.args.config.now.in_range.partitions_at_most)
