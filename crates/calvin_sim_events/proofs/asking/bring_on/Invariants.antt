use Rattle.calvin_report.specs.Reports.{is_lost}
use Rattle.calvin_sim_events.specs.Passes.{Passes}
use Rattle.calvin_sim_events.proofs.asking.bring_on.Given as goal

-- so many passes so far
abbrev pub invariant-loop : goal.invariant-loop
invariant-loop g l = Passes g.A.App.meaning l.schedule.repeats (is_lost l.schedule.lost) l.counter l.fn.world l.world
