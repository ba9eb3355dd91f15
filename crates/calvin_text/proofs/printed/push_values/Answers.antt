use Rattle.std.proofs.Common.{◌+◌, ◌++◌, ap, ◌∙◌, codes, drop}
use Rattle.std.specs.List.{flat_map}
use Rattle.calvin_text.specs.Texts.{value_text}
use Rattle.calvin_text.proofs.Joins.{one_joined}
use Rattle.calvin_text.proofs.printed.push_values.Goals as goal

pub loop-i-preserved : goal.loop-i-preserved
loop-i-preserved c =
    ap (λ xs. xs ++ flat_map (λ w. codes " " ++ value_text w) (drop (c.loop-i.i + 1) c.args.values.now)) c.in_ok-push_next_value.ensures
    ∙ one_joined (codes " ") value_text c.args.values.now c.loop-i.text.items _ c.loop-i.i c.at.result c.at.ensures c.loop-i.invariant
