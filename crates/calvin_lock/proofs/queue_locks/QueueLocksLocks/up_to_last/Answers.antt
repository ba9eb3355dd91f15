use Rattle.std.proofs.Common.{subst, sym}
use Rattle.calvin_lock.specs.Locking.{IsUpToLast}
use Rattle.calvin_lock.proofs.Requests.{up_to_last}
use Rattle.calvin_lock.proofs.QueuedSteps.{kept_map}
use Rattle.calvin_lock.proofs.queue_locks.QueueLocksLocks.up_to_last.Goals as goal

pub returns : goal.returns
returns c =
    let k = c.self.invariant in
    subst IsUpToLast c.self.view_is (subst (λ m. IsUpToLast (record { requested = m; last = c.self.inside.last })) (sym (kept_map c.self.inside.queues.queues.entries c.self.inside.unreleased c.self.inside.last k)) (up_to_last k.requests c.self.inside.last k.order))
