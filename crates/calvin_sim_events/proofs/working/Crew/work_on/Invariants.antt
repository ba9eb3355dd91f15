use Rattle.calvin_sim_events.specs.declared.schedule.Restarts.TheVariants.{Never}
use Rattle.calvin_report.specs.Reports.{is_lost}
use Rattle.calvin_sim_events.specs.Quiet.{LeadsQuietly}
use Rattle.calvin_sim_events.proofs.working.Crew.work_on.Given as goal

abbrev pub invariant-loop : goal.invariant-loop
invariant-loop g l = LeadsQuietly g.A.App.meaning Never (is_lost l.lost) l.fn.world l.world
