use Rattle.std.proofs.Common.{sym, ◌∙◌}
use Rattle.calvin_types.specs.SameKeys.{equal_keys}
use Rattle.calvin_types.proofs.Fews.{pointwise-drop_alike, pointwise-drop_unlike}
use Rattle.calvin_types.proofs.key_list.KeyListPartialEq.eq.Goals as goal

pub returns-then-ne : goal.returns-then-ne
returns-then-ne c =
    sym (pointwise-drop_unlike equal_keys c.args.self.now c.args.other.now c.loop-i.i _ _ c.at.ensures c.at-in-loop-i.ensures c.if-ne.ensures) ∙ c.loop-i.invariant.alike

pub loop-i-preserved : goal.loop-i-preserved
loop-i-preserved c = record {
  alike = sym (pointwise-drop_alike equal_keys c.args.self.now c.args.other.now c.loop-i.i _ _ c.at.ensures c.at-in-loop-i.ensures c.if-ne.ensures) ∙ c.loop-i.invariant.alike;
  as_long = c.loop-i.invariant.as_long;
}
