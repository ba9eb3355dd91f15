use Rattle.std.proofs.Common.{ℕ, ◌≡◌, ◌-◌, ◌++◌, ◌∷◌, [], take, ap, sym, ◌∙◌, arith}
use Rattle.calvin_types.specs.Keys.{insert_key}
use Rattle.calvin_types.proofs.Fews.{take_at}
use Rattle.calvin_once.proofs.LastKeys.{grown, last_alike, last_differs}
use Rattle.calvin_once.proofs.endings.before.Goals as goal

pub returns-then-ne-clause-none : goal.returns-then-ne-clause-none
returns-then-ne-clause-none c = last_differs c.args.keys.now (c.len-count.result - 1) c.at.result c.args.last c.at.ensures (ap (λ n. n - 1) c.len-count.ensures.len) c.if-ne.ensures

pub loop-i-preserved : goal.loop-i-preserved
loop-i-preserved c =
    c.grow.ensures
    ∙ ap (insert_key c.at-in-loop-i.result) c.loop-i.invariant
    ∙ grown c.args.keys.now c.loop-i.i c.at-in-loop-i.result c.len-count.ensures.rising c.at-in-loop-i.ensures
    ∙ sym (take_at c.args.keys.now c.loop-i.i c.at-in-loop-i.result c.at-in-loop-i.ensures)

pub returns-clause-some : goal.returns-clause-some
returns-clause-some c =
    let all : c.loop-i.i ≡ c.len-count.result - 1 = omega (arith, c.loop-i.auto.i-end, c.loop-i-test.false) in
    last_alike c.args.keys.now (c.len-count.result - 1) c.at.result c.args.last c.at.ensures (ap (λ n. n - 1) c.len-count.ensures.len) c.if-ne.ensures
    ∙ ap (λ (n : ℕ). take n c.args.keys.now ++ c.args.last ∷ []) (sym all)
    ∙ ap (λ ks. ks ++ c.args.last ∷ []) (sym c.loop-i.invariant)
