use Rattle.std.proofs.Common.{◌≡◌, [], ◌∷◌, ◌++◌}
use Rattle.calvin_synod.specs.Roles as roles
use Rattle.calvin_synod.proofs.attempt.Reports.into_highest.Given as goal

-- the highest of those that are left, with the best so far in a report more, is the highest of all
abbrev pub invariant-loop-report : goal.invariant-loop-report
invariant-loop-report g l = roles.highest (l.items.items ++ record { from = 0; vote = l.best } ∷ []) ≡ roles.highest l.fn.self

abbrev pub decreases-loop-report : goal.decreases-loop-report
decreases-loop-report g l = goal.left-loop-report g l
