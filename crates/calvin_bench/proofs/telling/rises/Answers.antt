use Rattle.std.proofs.Common.{◌-◌, refl, sym, ◌∙◌, arith}
use Rattle.std.proofs.lemmas.Bool.{false≢true}
use Rattle.std.proofs.lemmas.Option.{slice_get-get_or}
use Rattle.calvin_bench.proofs.Placing.{is_lt_true}
use Rattle.calvin_bench.proofs.ToldOrders.{not_rising, next_rises, rises_by}
use Rattle.calvin_bench.proofs.telling.rises.Goals as goal

pub returns-then-not-is_before : goal.returns-then-not-is_before
returns-then-not-is_before g c =
    let i = c.loop-i.i in
    let es = c.args.order.now in
    let first = slice_get-get_or es (i - 1) c.index-order-i.result (omega (arith, c.loop-i-test.true)) in
    let second = slice_get-get_or es i c.index-order-i-in-loop-i.result (omega (arith, c.loop-i-test.true)) in
    (λ h. absurd (false≢true h), λ rises. absurd (not_rising es rises i (i - 1) _ _ (omega (arith, c.loop-i.auto.i)) first second (sym c.is_before.ensures ∙ c.if-not-is_before.true)))

pub loop-i-preserved : goal.loop-i-preserved
loop-i-preserved g c =
    let i = c.loop-i.i in
    let es = c.args.order.now in
    let first = slice_get-get_or es (i - 1) c.index-order-i.result (omega (arith, c.loop-i-test.true)) in
    let second = slice_get-get_or es i c.index-order-i-in-loop-i.result (omega (arith, c.loop-i-test.true)) in
    next_rises es i (i - 1) _ _ (omega (arith, c.loop-i.auto.i)) first second (is_lt_true _ (sym c.is_before.ensures ∙ c.if-not-is_before.false)) c.loop-i.invariant

pub returns : goal.returns
returns g c =
    let es = c.args.order.now in
    (λ _. rises_by es (λ k a b less h k'. c.loop-i.invariant k a b (omega (arith, less, c.loop-i-test.false)) h k'), λ _. refl)
