-- As it is computed, event by event.
use Rattle.calvin_world.proofs.PointCases.{points_refuse}
use Rattle.calvin_world.proofs.worked.refused_over_a_point.Goals as goal

pub returns : goal.returns
returns c = points_refuse
