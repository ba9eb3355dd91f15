-- The segments so far have the requests of the groups so far.
use Rattle.std.proofs.Common.{◌≡◌, ◌≤◌, ◌*◌, length}
use Rattle.calvin_types.specs.declared.limits.TheConstants.{MOST_REQUESTS}
use Rattle.calvin_order.specs.Merged.{joined, numbered}
use Rattle.calvin_order.specs.Merging.{batch_at}
use Rattle.calvin_order.specs.Walking.{flat}
use Rattle.calvin_order.proofs.held.Held.joined_segments.Given as goal

abbrev pub invariant-loop-group : goal.invariant-loop-group
invariant-loop-group g l = record {
  so_far : flat l.segments.items ≡ numbered l.epoch 0 (joined (batch_at l.self.batches) l.epoch l.group);
  number : l.n ≡ length (joined (batch_at l.self.batches) l.epoch l.group);
  fewer : length l.segments.items ≤ l.n;
  few : l.n ≤ MOST_REQUESTS * l.group;
}
