-- A lock manager may go to another thread.
use denote.Param.Send.{sendable}
use Rattle.calvin_lock.proofs.queue_locks.QueueLocks.TheSendSync.{the_send}
use Rattle.calvin_wide_run_cases.proofs.adding.rows_over.Goals as goal

pub bring_on_wide-requires-send-L : goal.bring_on_wide-requires-send-L
bring_on_wide-requires-send-L _ _ _ _ = search (the_send, sendable)
