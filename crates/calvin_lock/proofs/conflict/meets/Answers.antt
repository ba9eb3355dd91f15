use Rattle.std.proofs.Common.{sym, ◌∙◌}
use Rattle.calvin_types.specs.Keys.{has}
use Rattle.calvin_types.proofs.ListTests.{any_hit, any_next}
use Rattle.calvin_lock.proofs.conflict.meets.Goals as goal

pub returns-then-has : goal.returns-then-has
returns-then-has c = any_hit (has c.args.b.now) c.args.a.now c.loop-i.i c.at.result c.at.ensures (sym c.has.ensures ∙ c.if-has.true) c.loop-i.invariant

pub loop-i-preserved : goal.loop-i-preserved
loop-i-preserved c = any_next (has c.args.b.now) c.args.a.now c.loop-i.i c.at.result c.at.ensures (sym c.has.ensures ∙ c.if-has.false) c.loop-i.invariant
