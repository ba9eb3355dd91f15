-- The requests of the groups so far are counted.
use Rattle.std.proofs.Common.{◌≡◌, ◌*◌, ◌≤◌, length}
use Rattle.calvin_types.specs.declared.limits.TheConstants.{MOST_REQUESTS}
use Rattle.calvin_order.specs.Merged.{joined}
use Rattle.calvin_order.proofs.walk.count_requests.Given as goal

abbrev pub invariant-loop-group : goal.invariant-loop-group
invariant-loop-group g l = record {
  so_far : l.count ≡ length (joined (g.B.BatchSource.assignment l.batches) l.epoch l.group);
  few : l.count ≤ MOST_REQUESTS * l.group;
}
