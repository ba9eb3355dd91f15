-- As it is computed, event by event.
use Rattle.calvin_world.proofs.SynodCases.{restart_runs}
use Rattle.calvin_world.proofs.worked.restart_between_phases.Goals as goal

pub returns : goal.returns
returns c = restart_runs
