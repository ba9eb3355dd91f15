use Rattle.std.proofs.Common.{◌≡◌, ◌+◌, ◌<◌, take, vec_len, vec_capacity}
use Rattle.std.specs.FinMap as map
use Rattle.calvin_app.specs.Entries.{shown}
use Rattle.calvin_sched.specs.Arrivals.{came_by}
use Rattle.calvin_sched.proofs.came.push_view.Given as goal

-- once the first row came, the partition has the first so many rows of the view
abbrev pub invariant-loop-i : goal.invariant-loop-i
invariant-loop-i g l = record {
  before : l.i ≡ 0 → came_by l.arrivals.items ≡ came_by l.fn.arrivals.items;
  after : 0 < l.i → came_by l.arrivals.items ≡ map.insert (came_by l.fn.arrivals.items) l.partition (shown (take l.i (map.entries l.view)));
  len : vec_len l.arrivals ≡ vec_len l.fn.arrivals + l.i;
  capacity : vec_capacity l.arrivals ≡ vec_capacity l.fn.arrivals;
}
