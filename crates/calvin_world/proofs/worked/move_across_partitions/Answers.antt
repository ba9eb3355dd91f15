-- As it is computed, event by event.
use Rattle.calvin_world.proofs.MoveRun.{move_runs}
use Rattle.calvin_world.proofs.worked.move_across_partitions.Goals as goal

pub returns : goal.returns
returns c = move_runs
