use Rattle.calvin_lock.proofs.queue_locks.reserve.Goals as goal

pub returns-clause-queues : goal.returns-clause-queues
returns-clause-queues c = λ asks queues. c.reserve-3.ensures.kept asks (c.in_ok-reserve-2.ensures.kept asks queues)
