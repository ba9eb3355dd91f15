use Rattle.std.proofs.Common.{ℕ, ◌≡◌, ◌-◌, List}
use Rattle.calvin_types.specs.declared.limits.TheConstants.{MOST_EPOCHS}
use Rattle.calvin_serve_recovery.specs.Runs.{Runs}
use Rattle.calvin_serve_recovery.specs.Beginnings.{start_at}
use Rattle.calvin_serve_recovery.proofs.recovery.run_all.Given as goal

-- the epochs so far were run
abbrev pub invariant-epochs : goal.invariant-epochs
invariant-epochs g l = record {
  runs : (said : List ℕ) × Runs g.A.App.meaning g.A.Reply.Printed.printed g.A.Args.Operation.grammar l.fn.setting (start_at l.fn.started.epoch l.fn.started.store) l.fn.started.opening.lines l.replaying.opening.lines l.replaying.epoch l.replaying.store said;
  setting : l.replaying.setting ≡ l.fn.setting;
  failures : l.replaying.opening.failures ≡ l.fn.started.opening.failures;
}

abbrev pub decreases-epochs : goal.decreases-epochs
decreases-epochs g l = MOST_EPOCHS - l.replaying.epoch
