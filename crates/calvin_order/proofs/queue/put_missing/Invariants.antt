use Rattle.std.proofs.Common.{◌≡◌, ◌+◌, ◌≤◌, ◌++◌, drop, length, not}
use Rattle.std.specs.List.{list_any, filter}
use Rattle.std.specs.VecDeque.{deque_len, deque_capacity}
use Rattle.calvin_order.specs.Sequencing.{same_attempt}
use Rattle.calvin_order.proofs.queue.put_missing.Given as goal

abbrev pub invariant-loop-i : goal.invariant-loop-i
invariant-loop-i g l = record {
  within : l.i ≤ length l.closed;
  items : l.queue.items ≡ filter (λ t. not (list_any (same_attempt t) l.decided)) (drop l.i l.closed) ++ l.initial.queue.items;
  len : deque_len l.queue + l.i ≤ deque_len l.initial.queue + length l.closed;
  room : deque_len l.queue + l.i ≤ deque_capacity l.queue;
  capacity : deque_capacity l.queue ≡ deque_capacity l.initial.queue;
}

abbrev pub decreases-loop-i : goal.decreases-loop-i
decreases-loop-i g l = l.i
