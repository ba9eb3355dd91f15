use Rattle.std.proofs.Common.{◌≡◌, drop}
use Rattle.std.specs.Prelude.{◌==◌}
use Rattle.std.specs.List.{list_all}
use Rattle.calvin_sched.proofs.progress.are_of_epoch.Given as goal

abbrev pub invariant-loop-i : goal.invariant-loop-i
invariant-loop-i g l = list_all (λ e. e.0.epoch == l.epoch) (drop l.i l.entries) ≡ list_all (λ e. e.0.epoch == l.epoch) l.entries
