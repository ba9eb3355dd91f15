use Rattle.std.proofs.Common.{subst}
use Rattle.calvin_sched.specs.Keeping.{IsFirstReadyHere}
use Rattle.calvin_sched.proofs.ReadyHere.{first_ready_here}
use Rattle.calvin_sched.proofs.scheduler.Scheduler.first_ready.Goals as goal

pub returns : goal.returns
returns g c = subst (λ s. IsFirstReadyHere s.here s.scheduling c.args.after c.first_ready.result) c.self.view_is (first_ready_here _ _ _ _ c.self.invariant.0 c.args.after c.first_ready.result c.first_ready.ensures)
