-- The events so far went on, and their lines are there.
use Rattle.std.proofs.Common.{map}
use Rattle.calvin_script_events.specs.EventForms.{event_of}
use Rattle.calvin_check.proofs.Steps.{Goes}
use Rattle.calvin_check.proofs.running.run_events.Given as goal

abbrev pub invariant-loop-number : goal.invariant-loop-number
invariant-loop-number g l = Goes g.A.App.meaning l.fn.world (map event_of l.events) l.number l.fn.text.items l.world l.text.items
