-- The epochs so far are told.
use Rattle.std.proofs.Common.{◌≡◌}
use Rattle.calvin_bench.specs.Telling.{EndsAt, told_upto}
use Rattle.calvin_bench.proofs.telling.tell.Given as goal

abbrev pub invariant-loop-epoch : goal.invariant-loop-epoch
invariant-loop-epoch g l = EndsAt l.order l.epoch l.start × (l.scheduler ≡ told_upto l.fn.scheduler.here l.order l.start l.epoch)
