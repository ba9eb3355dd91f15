use Rattle.std.proofs.Common.{Ok, sym, ap, ◌∙◌}
use Rattle.calvin_sched.proofs.Finishes.{due_begun}
use Rattle.calvin_sched.proofs.scheduler.Scheduler.check_due.Goals as goal

pub returns-clause-ok : goal.returns-clause-ok
returns-clause-ok g c =
    let is = sym c.job.ensures ∙ c.in-Ok.is in
    let due = due_begun c.args.self.now.here c.args.self.now.scheduling c.args.job.now.place c.in-Ok.due is in
    is ∙ ap Ok (c.if-not-is_same_job.ensures due.3)
