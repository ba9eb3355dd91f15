-- As it is computed, event by event.
use Rattle.calvin_world.proofs.RowCases.{kept_runs}
use Rattle.calvin_world.proofs.worked.snapshot_then_restart.Goals as goal

pub returns : goal.returns
returns c = kept_runs
