-- As it is computed, event by event.
use Rattle.calvin_world.proofs.TwoEpochs.{in_time_runs}
use Rattle.calvin_world.proofs.worked.mark_then_snapshot.Goals as goal

pub returns : goal.returns
returns c = in_time_runs
