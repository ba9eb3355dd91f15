use Rattle.std.proofs.Common.{subst}
use Rattle.calvin_lock.specs.Ready.{IsFirstReady}
use Rattle.calvin_lock.proofs.QueuedSteps.{first_is}
use Rattle.calvin_lock.proofs.queue_locks.QueueLocksLocks.first_ready.Goals as goal

pub returns : goal.returns
returns c = subst (λ l. IsFirstReady l.requested c.args.after c.first_ready.result) c.self.view_is (first_is c.self.inside.queues.queues.entries c.self.inside.unreleased c.self.inside.last c.self.invariant c.args.after c.first_ready.result c.first_ready.ensures)
