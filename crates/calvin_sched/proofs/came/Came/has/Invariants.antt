use Rattle.std.proofs.Common.{◌≡◌, drop}
use Rattle.std.specs.Prelude.{◌==◌}
use Rattle.std.specs.List.{list_any}
use Rattle.calvin_sched.specs.Arrivals.{from_of}
use Rattle.calvin_sched.proofs.came.Came.has.Given as goal

abbrev pub invariant-loop-i : goal.invariant-loop-i
invariant-loop-i g l =
    list_any (λ a. from_of a == l.partition) (drop l.i l.self-inside.arrivals.items)
    ≡ list_any (λ a. from_of a == l.partition) l.self-inside.arrivals.items
