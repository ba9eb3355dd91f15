use Rattle.std.proofs.Common.{subst, sym}
use Rattle.calvin_lock.specs.Ready.{IsReady}
use Rattle.calvin_lock.proofs.QueuedSteps.{ready_iff}
use Rattle.calvin_lock.proofs.queue_locks.QueueLocksLocks.is_ready.Goals as goal

pub returns : goal.returns
returns c =
    let iff = ready_iff c.self.inside.queues.queues.entries c.self.inside.unreleased c.self.inside.last c.self.invariant c.args.place in (
      λ yes. subst (λ l. IsReady l.requested c.args.place) c.self.view_is (iff.0 (c.is_ready.ensures.0 yes)),
      λ ready. c.is_ready.ensures.1 (iff.1 (subst (λ l. IsReady l.requested c.args.place) (sym c.self.view_is) ready)),
    )
