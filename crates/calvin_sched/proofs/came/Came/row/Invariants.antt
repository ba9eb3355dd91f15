use Rattle.std.proofs.Common.{◌≡◌, take}
use Rattle.std.specs.FinMap as map
use Rattle.calvin_sched.specs.Arrivals.{rows_from, came_by}
use Rattle.calvin_sched.proofs.came.Came.row.Given as goal

abbrev pub invariant-loop-i : goal.invariant-loop-i
invariant-loop-i g l = l.row ≡ map.get (rows_from (came_by (take l.i l.self-inside.arrivals.items)) l.partition) l.key
