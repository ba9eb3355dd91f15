-- As it is computed, event by event.
use Rattle.calvin_world.proofs.TwoBallots.{two_ballots_run}
use Rattle.calvin_world.proofs.worked.new_ballot_keeps_the_vote.Goals as goal

pub returns : goal.returns
returns c = two_ballots_run
