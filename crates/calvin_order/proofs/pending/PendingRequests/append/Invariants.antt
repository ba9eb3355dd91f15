-- The segments so far are behind those that were there, and there is room for the others.
use Rattle.std.proofs.Common.{◌≡◌, ◌+◌, ◌≤◌, ◌++◌, length}
use Rattle.std.specs.Vec.Iter.{into_iter_items}
use Rattle.std.specs.VecDeque.{deque_len, deque_capacity}
use Rattle.calvin_order.specs.Walking.{flat}
use Rattle.calvin_order.proofs.pending.PendingRequests.append.Given as goal

abbrev pub invariant-loop-segment : goal.invariant-loop-segment
invariant-loop-segment g l = record {
  to_come : flat l.self-inside.segments.items ++ flat (into_iter_items l.segment-iterator) ≡ l.fn.self.requests ++ flat l.fn.more.items;
  room : deque_len l.self-inside.segments + length (into_iter_items l.segment-iterator) ≤ deque_capacity l.self-inside.segments;
}
