use Rattle.std.proofs.Common.{◌≡◌, ◌++◌, drop}
use Rattle.calvin_report.specs.Reports.{outcome_lines}
use Rattle.calvin_report.proofs.outcomes.push_outcomes.Given as goal

-- with the lines of what is left the text is as it is at the end
abbrev pub invariant-loop-event : goal.invariant-loop-event
invariant-loop-event l = l.text.items ++ outcome_lines l.event (drop l.event l.outcomes) ≡ l.initial.text.items ++ outcome_lines 0 l.outcomes
