-- As it is computed, event by event.
use Rattle.calvin_world.proofs.SynodCases.{empty_runs}
use Rattle.calvin_world.proofs.worked.empty_epoch.Goals as goal

pub returns : goal.returns
returns c = empty_runs
