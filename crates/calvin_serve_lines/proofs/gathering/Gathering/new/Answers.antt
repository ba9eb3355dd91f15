use Rattle.std.proofs.Common.{rules, ◌≡◌, ◌++◌, ◌∷◌, [], ◌∙◌, ap, length, arith}
use Rattle.calvin_serve_lines.proofs.Lists.{length-given, once_more}
use Rattle.calvin_serve_lines.proofs.gathering.Gathering.new.Goals as goal

pub loop-group-preserved : goal.loop-group-preserved
loop-group-preserved g c =
    let pushed : c.push.new.self.items ≡ c.loop-group.groups.items ++ [] ∷ [] = search rules in
    pushed ∙ ap (λ gs. gs ++ [] ∷ []) c.loop-group.invariant ∙ once_more [] c.loop-group._group 0

pub invariant_of-result : goal.invariant_of-result
invariant_of-result g c =
    let size : length c.loop-group.groups.items ≡ c.loop-group._group = ap length c.loop-group.invariant ∙ length-given (λ _. []) c.loop-group._group 0 in
    omega (arith, size, c.loop-group.auto._group-end, c.ranges.partitions.fits)

pub returns-clause-size : goal.returns-clause-size
returns-clause-size g c =
    let size : length c.loop-group.groups.items ≡ c.loop-group._group = ap length c.loop-group.invariant ∙ length-given (λ _. []) c.loop-group._group 0 in
    omega (arith, size, c.loop-group.auto._group-end, c.loop-group-test.false)
