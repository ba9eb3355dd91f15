use Rattle.calvin_report.specs.Reports.{is_lost}
use Rattle.calvin_sim_events.specs.Quiet.{LeadsQuietlyBy}
use Rattle.calvin_sim_events.proofs.drawing.draw_events.Given as goal

-- so many events happened so far
abbrev pub invariant-loop-step : goal.invariant-loop-step
invariant-loop-step g l = LeadsQuietlyBy g.A.App.meaning l.schedule.restarts (is_lost l.schedule.lost) l._step l.fn.world l.world
