use Rattle.calvin_lock.proofs.Requests.{NoneReady}
use Rattle.calvin_lock.proofs.list_locks.ListLocksLocks.first_ready.Given as goal

abbrev pub invariant-loop-i : goal.invariant-loop-i
invariant-loop-i l = NoneReady l.after l.self-inside.unreleased.items l.i
