use Rattle.std.proofs.Common.{◌≡◌}
use Rattle.std.specs.VecDeque.{deque_len}
use Rattle.calvin_sched.specs.Progress.{from_left, done_at, HasReserved}
use Rattle.calvin_sched.proofs.progress.Progress.skip_done.Given as goal

abbrev pub invariant-loop-self : goal.invariant-loop-self
invariant-loop-self g l = record {
  merged : l.self.merged ≡ l.fn.self.merged;
  done : l.self.done ≡ l.fn.self.done;
  due : from_left (done_at l.opened l.turns.kept) l.self.due.items ≡ from_left (done_at l.opened l.turns.kept) l.fn.self.due.items;
  room : l.self.room ≡ l.fn.self.room;
  reserved : HasReserved l.self;
}

abbrev pub decreases-loop-self : goal.decreases-loop-self
decreases-loop-self g l = deque_len l.self.due
