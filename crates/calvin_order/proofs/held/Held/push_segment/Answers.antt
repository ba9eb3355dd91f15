use Rattle.std.proofs.Common.{◌++◌, [], ap, ◌∙◌}
use Rattle.std.specs.Option.{unwrap_or}
use Rattle.calvin_order.specs.Merged.{numbered}
use Rattle.calvin_order.specs.Walking.{flat}
use Rattle.calvin_order.proofs.Segments.{flat_snoc}
use Rattle.calvin_order.proofs.held.Held.push_segment.Goals as goal

pub returns-clause-segments : goal.returns-clause-segments
returns-clause-segments g c =
    let before = c.args.out.now.items in
    let held = ap (λ o. unwrap_or o []) c.in-Some.ensures in
    ap flat c.in_ok-push.ensures.items
    ∙ flat_snoc before c.new.result
    ∙ ap (λ s. flat before ++ s) (c.new.ensures ∙ ap (numbered c.args.slot.epoch c.args.n) (c.in_ok-share.ensures.ok ∙ held))
