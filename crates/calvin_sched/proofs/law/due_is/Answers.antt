-- What is done doesn't matter for where a partition stands.
use Rattle.calvin_sched.proofs.Standings.{stands_at_left}
use Rattle.calvin_sched.proofs.law.due_is.Goals as goal

pub returns : goal.returns
returns g c = stands_at_left
