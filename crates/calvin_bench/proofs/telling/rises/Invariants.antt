-- Each place so far is before the next one.
use Rattle.calvin_bench.proofs.ToldOrders.{NextRises}
use Rattle.calvin_bench.proofs.telling.rises.Given as goal

abbrev pub invariant-loop-i : goal.invariant-loop-i
invariant-loop-i g l = NextRises l.order l.i
