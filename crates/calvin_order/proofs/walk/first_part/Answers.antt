use Rattle.std.proofs.Common.{◌+◌, ◌∷◌, ◌++◌, [], length, is_some, sym, ap, ◌∙◌}
use Rattle.std.specs.Option.{unwrap_or}
use Rattle.calvin_order.specs.Walking.{flat, left_behind}
use Rattle.calvin_order.proofs.Walks.{first_given}
use Rattle.calvin_order.proofs.Weaves.{length-turned}
use Rattle.calvin_order.proofs.walk.first_part.Goals as goal

pub returns-in-Some-clause-left : goal.returns-in-Some-clause-left
returns-in-Some-clause-left g c bs =
    (λ i. c.take_first.ensures.first i ++ left_behind (is_some (c.in-Some.is i)) bs (c.take_first.ensures.waiting i))
    ∙ first_given c.args.batch.now bs c.in-Some.turns
    ∙ (λ i. left_behind (is_some (sym c.in-Some.is i)) (c.args.batch.now ∷ bs) (unwrap_or (sym c.in-Some.is i) []))

pub returns-in-Some-clause-count : goal.returns-in-Some-clause-count
returns-in-Some-clause-count g c =
    (λ i. length (c.take_first.ensures.first i) + length (flat (c.take_first.ensures.waiting i)))
    ∙ length-turned c.args.batch.now c.in-Some.turns
    ∙ ap (λ o. length c.args.batch.now + length (flat (unwrap_or o []))) (sym c.in-Some.is)
