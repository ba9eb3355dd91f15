use Rattle.std.proofs.Common.{arith, length}
use Rattle.std.proofs.lemmas.Option.{slice_get-get_or, slice_get_within}
use Rattle.calvin_bench.proofs.ToldOrders.{ends_next, of_epoch_more, other_epoch}
use Rattle.calvin_bench.proofs.telling.end_of_epoch.Goals as goal

pub returns-then-order-i-clause-split : goal.returns-then-order-i-clause-split
returns-then-order-i-clause-split g c =
    let es = c.args.order.now in
    let here = slice_get-get_or es c.loop-i.i c.index-order-i.result (omega (arith, c.loop-i-test.true)) in
    ends_next es c.requires.rises c.args.epoch c.args.start c.loop-i.i c.requires.split c.loop-i.auto.i (omega (arith, c.loop-i-test.true)) c.loop-i.invariant (other_epoch es c.args.epoch c.loop-i.i _ here c.if-order-i.true)

pub loop-i-preserved : goal.loop-i-preserved
loop-i-preserved g c =
    let es = c.args.order.now in
    let here = slice_get-get_or es c.loop-i.i c.index-order-i.result (omega (arith, c.loop-i-test.true)) in
    of_epoch_more es c.args.epoch c.args.start c.loop-i.i _ here c.if-order-i.false c.loop-i.invariant

pub returns-clause-split : goal.returns-clause-split
returns-clause-split g c =
    let es = c.args.order.now in
    let within = c.requires.split.within in
    ends_next es c.requires.rises c.args.epoch c.args.start (length es) c.requires.split within (omega arith) (λ k e low high h. c.loop-i.invariant k e low (omega (arith, high, c.loop-i-test.false)) h)
    (λ e h same. absurd (let less = slice_get_within es (length es) e h in omega (arith, less)))
