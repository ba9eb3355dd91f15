use Rattle.std.proofs.Common.{◌≡◌, ◌++◌, ◌∙◌, None, ap, drop, arith}
use Rattle.std.specs.Prelude.{replicate}
use Rattle.calvin_types.specs.Few.{items_of}
use Rattle.calvin_types.proofs.Fews.{clear-next, clear-all, length-places, IsFew-none}
use Rattle.calvin_types.proofs.few.Few.clear.Goals as goal

pub loop-i-preserved : goal.loop-i-preserved
loop-i-preserved g c = clear-next c.loop-i.self-inside.items c.self.inside.items c.loop-i.i (omega (arith, c.loop-i-test.true, c.self.invariant.at_most, length-places _ _ c.self.invariant)) c.loop-i.invariant

pub invariant_of-self : goal.invariant_of-self
invariant_of-self g c =
    let end : c.loop-i.i ≡ c.self.inside.size = omega (arith, c.loop-i-test.false, c.loop-i.auto.i-end) in
    IsFew-none _ (clear-all _ c.self.inside.items c.self.inside.size c.self.invariant (c.loop-i.invariant ∙ ap (λ n. replicate n None ++ drop n c.self.inside.items) end))

pub returns : goal.returns
returns g c =
    let end : c.loop-i.i ≡ c.self.inside.size = omega (arith, c.loop-i-test.false, c.loop-i.auto.i-end) in
    ap items_of (clear-all _ c.self.inside.items c.self.inside.size c.self.invariant (c.loop-i.invariant ∙ ap (λ n. replicate n None ++ drop n c.self.inside.items) end))
