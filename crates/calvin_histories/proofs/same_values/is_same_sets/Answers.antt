use Rattle.calvin_histories.proofs.SameValues.{sets_told}
use Rattle.calvin_histories.proofs.same_values.is_same_sets.Goals as goal

pub returns : goal.returns
returns c = sets_told c.args.one.now c.args.other.now c.eq.result c.eq.ensures
