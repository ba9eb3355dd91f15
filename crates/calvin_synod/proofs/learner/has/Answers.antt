use Rattle.std.proofs.Common.{sym, ◌∙◌}
use Rattle.calvin_synod.proofs.Voters.{any_found, any_passed}
use Rattle.calvin_synod.proofs.learner.has.Goals as goal

pub returns-then-from-at : goal.returns-then-from-at
returns-then-from-at c = sym (any_found c.args.from c.args.voters.now c.loop-i.i c.at.result c.at.ensures c.if-from-at.true) ∙ c.loop-i.invariant

pub loop-i-preserved : goal.loop-i-preserved
loop-i-preserved c = any_passed c.args.from c.args.voters.now c.loop-i.i c.at.result c.at.ensures c.if-from-at.false ∙ c.loop-i.invariant
