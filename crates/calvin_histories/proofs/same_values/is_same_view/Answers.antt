-- By the laws of rows.
use Rattle.calvin_histories.proofs.SameValues.{views_told}
use Rattle.calvin_histories.proofs.same_values.is_same_view.Goals as goal

pub returns : goal.returns
returns g c = views_told g.A.Row.PartialEq.eq g.met.A.App.rows_exact g.met.A.Row.Eq.laws c.args.one.now c.args.other.now c.is_same.result c.is_same.ensures
