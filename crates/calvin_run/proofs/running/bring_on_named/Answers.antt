use Rattle.std.proofs.Common.{false}
use Rattle.calvin_run.proofs.Ends.{opened_only}
use Rattle.calvin_run.proofs.running.bring_on_named.Goals as goal

pub returns-in-Err-clause-only : goal.returns-in-Err-clause-only
returns-in-Err-clause-only g c = opened_only false c.args.workers c.in-Err.fault c.requires.some_worker c.requires.workers_at_most (c.in-Err.ensures.only)
