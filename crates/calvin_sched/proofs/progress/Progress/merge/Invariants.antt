use Rattle.std.proofs.Common.{◌≡◌, ◌+◌, ◌++◌, length, take}
use Rattle.std.specs.VecDeque.{deque_len, deque_capacity}
use Rattle.calvin_types.specs.Participants.{site}
use Rattle.calvin_sched.specs.Standing.{local_places}
use Rattle.calvin_sched.proofs.progress.Progress.merge.Given as goal

abbrev pub invariant-loop-i : goal.invariant-loop-i
invariant-loop-i g l = record {
  merged : l.self.merged ≡ l.epoch + 1;
  done : l.self.done ≡ l.fn.self.done;
  due : l.self.due.items ≡ l.fn.self.due.items ++ local_places (site l.config.partitions l.partition) (take l.i l.entries);
  len : deque_len l.self.due ≡ deque_len l.fn.self.due + length (local_places (site l.config.partitions l.partition) (take l.i l.entries));
  capacity : deque_capacity l.self.due ≡ deque_capacity l.fn.self.due;
  room : l.self.room ≡ 0;
}
