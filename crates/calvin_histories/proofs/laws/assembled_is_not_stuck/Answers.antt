-- None is left over.
use Rattle.calvin_histories.proofs.Whole.{none_left}
use Rattle.calvin_histories.proofs.laws.assembled_is_not_stuck.Goals as goal

pub returns : goal.returns
returns g c = λ config histories events assembled node entry stuck. none_left g.A.App.meaning g.met.A.App.lawful.writes_within_the_sets config histories events assembled node entry stuck
