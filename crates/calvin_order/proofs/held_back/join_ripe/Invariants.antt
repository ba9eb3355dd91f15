use Rattle.std.proofs.Common.{◌≡◌, ◌+◌, ◌++◌}
use Rattle.std.specs.VecDeque.{deque_len, deque_capacity}
use Rattle.calvin_order.specs.Keeping.{held_of, InTurn}
use Rattle.calvin_order.specs.Sequencing.{ripe, unripe}
use Rattle.calvin_order.proofs.held_back.join_ripe.Given as goal

abbrev pub invariant-loop-txn : goal.invariant-loop-txn
invariant-loop-txn g l = record {
  queue : l.queue.items ++ ripe l.delay (held_of l.closings l.held.items) ≡ l.fn.queue.items ++ ripe l.delay (held_of l.closings l.fn.held.items);
  held : unripe l.delay (held_of l.closings l.held.items) ≡ unripe l.delay (held_of l.closings l.fn.held.items);
  in_turn : InTurn 0 l.closings l.held.items;
  len : deque_len l.queue + deque_len l.held ≡ deque_len l.fn.queue + deque_len l.fn.held;
  capacity : deque_capacity l.queue ≡ deque_capacity l.fn.queue;
  held_capacity : deque_capacity l.held ≡ deque_capacity l.fn.held;
}

abbrev pub decreases-loop-txn : goal.decreases-loop-txn
decreases-loop-txn g l = deque_len l.held
