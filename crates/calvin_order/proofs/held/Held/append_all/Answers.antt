use Rattle.std.proofs.Common.{◌++◌, length, ap, ◌∙◌, arith}
use Rattle.calvin_order.specs.Configs.{order_config}
use Rattle.calvin_order.specs.Merging.{batch_at}
use Rattle.calvin_order.proofs.Joining.{length-merged}
use Rattle.calvin_order.proofs.held.Held.append_all.Goals as goal

pub loop-place-init : goal.loop-place-init
loop-place-init g c =
    let all = c.into_iter-place-iterator.ensures.into_iter_gives ∙ c.new-place-items.ensures in
    let number = ap length all ∙ length-merged (order_config c.args.config.now) (batch_at c.args.self.now.batches) c.args.epoch in
    let none = ap length c.requires.empty in
    record {
      to_come = ap (λ es. es ++ c.into_iter-place-iterator.result) c.requires.empty ∙ all;
      room = omega (arith, number, none, c.requires.room);
    }
