use Rattle.std.proofs.Common.{is_some, sym, ap, ◌∙◌, arith}
use Rattle.calvin_store.proofs.ColdKeys.{one_if, cold-at}
use Rattle.calvin_store.proofs.tiers.count_cold.Goals as goal
use Rattle.calvin_store.proofs.tiers.count_cold.Goals.{then-is_some, else-is_some}

pub loop-i-preserved : goal.loop-i-preserved
loop-i-preserved g c =
    let cold = c.args.cold.now.rows in
    let here = cold-at cold c.args.keys.now c.loop-i.i c.at.result c.at.ensures in
    let there = ap (λ o. one_if (is_some o)) (sym c.get.ensures) ∙ ap one_if (sym c.is_some.ensures) in
    elim c.if-is_some.branch [
      | then-is_some w ↦ record {
        so_far = omega (arith, c.loop-i.invariant.so_far, here, there, ap one_if w.if-is_some.true, w.count-is);
        at_most = omega (arith, c.loop-i.invariant.at_most, w.count-is);
      }
      | else-is_some w ↦ record {
        so_far = omega (arith, c.loop-i.invariant.so_far, here, there, ap one_if w.if-is_some.false, w.count-is);
        at_most = omega (arith, c.loop-i.invariant.at_most, w.count-is);
      }
    ]
