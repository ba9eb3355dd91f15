-- A lock manager may go to another thread.
use denote.Param.Send.{sendable}
use Rattle.calvin_lock.proofs.queue_locks.QueueLocks.TheSendSync.{the_send}
use Rattle.calvin_wide_stress.proofs.running.call_all.Goals as goal

pub open-requires-send-L : goal.open-requires-send-L
open-requires-send-L _ _ _ _ = search (the_send, sendable)
