-- As it is computed, event by event.
use Rattle.calvin_world.proofs.TwoEpochs.{unmarked_runs}
use Rattle.calvin_world.proofs.worked.snapshot_without_mark.Goals as goal

pub returns : goal.returns
returns c = unmarked_runs
