-- By the laws of arguments.
use Rattle.calvin_histories.proofs.SameValues.{batches_told}
use Rattle.calvin_histories.proofs.same_message.is_same_batch.Goals as goal

pub returns : goal.returns
returns g c = batches_told g.A.Args.PartialEq.eq g.met.A.App.args_exact g.met.A.Args.Eq.laws c.args.one.now c.args.other.now c.eq.result c.eq.ensures
