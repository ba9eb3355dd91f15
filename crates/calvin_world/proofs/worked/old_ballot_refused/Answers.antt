-- As it is computed, event by event.
use Rattle.calvin_world.proofs.TwoBallots.{late_accept_run}
use Rattle.calvin_world.proofs.worked.old_ballot_refused.Goals as goal

pub returns : goal.returns
returns c = late_accept_run
