use Rattle.calvin_sched.proofs.scheduler.Scheduler.run.Goals as goal

pub returns-clause-ok : goal.returns-clause-ok
returns-clause-ok g c = rw c.seek.ensures at c.run_found.ensures.ok
