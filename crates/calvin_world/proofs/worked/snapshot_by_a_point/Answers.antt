-- As it is computed, event by event.
use Rattle.calvin_world.proofs.PointCases.{marked_runs}
use Rattle.calvin_world.proofs.worked.snapshot_by_a_point.Goals as goal

pub returns : goal.returns
returns c = marked_runs
