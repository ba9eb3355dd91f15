use Rattle.std.proofs.Common.{◌≡◌, ◌≤◌, drop}
use Rattle.std.specs.VecDeque.{deque_len, deque_capacity}
use Rattle.calvin_order.proofs.queue.drop_first.Given as goal

abbrev pub invariant-loop : goal.invariant-loop
invariant-loop g l = record { items : l.queue.items ≡ drop l.counter l.initial.queue.items; len : deque_len l.queue ≤ deque_len l.initial.queue; capacity : deque_capacity l.queue ≡ deque_capacity l.initial.queue }
