-- As it is computed, event by event.
use Rattle.calvin_world.proofs.SynodCases.{outbid_runs}
use Rattle.calvin_world.proofs.worked.old_prepare_refused.Goals as goal

pub returns : goal.returns
returns c = outbid_runs
