-- The places of the requests so far are due, and there is room for those of the others.
use Rattle.std.proofs.Common.{◌≡◌, ◌+◌, ◌++◌, length}
use Rattle.std.specs.VecDeque.{deque_len, deque_capacity}
use Rattle.calvin_types.specs.Participants.{site}
use Rattle.calvin_sched.specs.Standing.{local_places}
use Rattle.calvin_sched.proofs.progress.Progress.merge_walk.Given as goal

abbrev pub invariant-loop-place : goal.invariant-loop-place
invariant-loop-place g l = record {
  merged : l.self.merged ≡ l.epoch + 1;
  done : l.self.done ≡ l.fn.self.done;
  due : l.self.due.items ++ local_places (site l.config.partitions l.partition) l.place-iterator ≡ l.fn.self.due.items ++ local_places (site l.config.partitions l.partition) l.initial.place-iterator;
  len : deque_len l.self.due + length (local_places (site l.config.partitions l.partition) l.place-iterator) ≡ deque_len l.fn.self.due + length (local_places (site l.config.partitions l.partition) l.initial.place-iterator);
  capacity : deque_capacity l.self.due ≡ deque_capacity l.fn.self.due;
  room : l.self.room ≡ 0;
}
