-- The places that are left are done where all that are due are.
use Rattle.calvin_sched.proofs.Standings.{stands_left}
use Rattle.calvin_world.proofs.SettledNodes.{all_done_same}
use Rattle.calvin_world.proofs.settled.settled_stands.Goals as goal

pub returns-clause-stands : goal.returns-clause-stands
returns-clause-stands g c = λ x n. stands_left x.scheduler x.merged_epochs x.due n

pub returns-clause-done : goal.returns-clause-done
returns-clause-done g c = λ x n. all_done_same x.scheduler x.merged_epochs x.due n
