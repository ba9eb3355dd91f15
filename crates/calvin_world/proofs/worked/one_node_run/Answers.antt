-- As it is computed, event by event.
use Rattle.calvin_world.proofs.OneRun.{one_runs}
use Rattle.calvin_world.proofs.worked.one_node_run.Goals as goal

pub returns : goal.returns
returns c = one_runs
