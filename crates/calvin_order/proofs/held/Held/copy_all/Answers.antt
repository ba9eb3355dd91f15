use Rattle.std.proofs.Common.{◌++◌, length, map, ap, ◌∙◌, arith}
use Rattle.calvin_order.specs.Configs.{order_config, together}
use Rattle.calvin_order.specs.Merging.{batch_at}
use Rattle.calvin_order.proofs.Joining.{length-merged}
use Rattle.calvin_order.proofs.Segments.{unnumbered}
use Rattle.calvin_order.proofs.held.Held.copy_all.Goals as goal

pub loop-txn-init : goal.loop-txn-init
loop-txn-init g c =
    let config = order_config c.args.config.now in
    let B = batch_at c.args.self.now.batches in
    let all = c.into_iter-txn-iterator.ensures.into_iter_gives ∙ c.new-txn-items.ensures in
    let number = ap length all ∙ length-merged config B c.args.epoch in
    let none = ap length c.requires.empty in
    record {
      to_come = ap (λ ts. ts ++ map (λ p. p.1) c.into_iter-txn-iterator.result) c.requires.empty ∙ ap (map (λ p. p.1)) all ∙ unnumbered c.args.epoch 0 (together config B c.args.epoch);
      room = omega (arith, number, none, c.requires.room);
    }
