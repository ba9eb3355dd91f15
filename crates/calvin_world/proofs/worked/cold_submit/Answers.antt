-- As it is computed, event by event.
use Rattle.calvin_world.proofs.ColdCase.{cold_runs}
use Rattle.calvin_world.proofs.worked.cold_submit.Goals as goal

pub returns : goal.returns
returns c = cold_runs
