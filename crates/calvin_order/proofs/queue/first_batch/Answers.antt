use Rattle.std.proofs.Common.{◌≡◌, ◌∙◌, length, min, IfOk, subst, arith}
use Rattle.calvin_types.specs.declared.limits.TheConstants.{MOST_REQUESTS}
use Rattle.calvin_order.proofs.Queues.{take_min}
use Rattle.calvin_order.proofs.queue.first_batch.Goals as goal

pub returns-clause-batch : goal.returns-clause-batch
returns-clause-batch g c =
    let i = c.loop-i.invariant in
    let most : c.loop-i.i ≡ min (length c.args.queue.now.items) MOST_REQUESTS = omega (arith, c.loop-i.auto.i-end, c.loop-i-test.false, c.min-most.ensures, c.len.ensures) in
    subst (λ l. IfOk c.new.result (λ b. b ≡ l)) (i.so_far ∙ take_min c.args.queue.now.items c.loop-i.i MOST_REQUESTS most) c.new.ensures.ok
