use Rattle.std.proofs.Common.{◌+◌, sym, ◌∙◌, ap, drop, rules}
use Rattle.calvin_types.specs.Keys.{insert_all}
use Rattle.calvin_types.proofs.Risings.{insert_all-at, too_many}
use Rattle.calvin_types.proofs.key_set.KeySet.union.Goals as goal

pub returns-in_err-insert-clause-full : goal.returns-in_err-insert-clause-full
returns-in_err-insert-clause-full c =
    let over = too_many c.args.other.now c.loop-i.all _ c.loop-i.i c.at.result c.at.ensures c.loop-i.invariant.so_far (c.in_err-insert.ensures.full.0 (search rules)) in
    (λ _. over, λ _. search rules)

pub loop-i-preserved : goal.loop-i-preserved
loop-i-preserved c = record {
  so_far = ap (insert_all (drop (c.loop-i.i + 1) c.args.other.now)) c.in_ok-insert.ensures.ok ∙ sym (insert_all-at c.args.other.now c.loop-i.all c.loop-i.i c.at.result c.at.ensures) ∙ c.loop-i.invariant.so_far;
  at_most = c.in_ok-insert.ensures.at_most;
}
