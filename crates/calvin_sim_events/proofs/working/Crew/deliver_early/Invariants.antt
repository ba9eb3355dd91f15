use Rattle.calvin_sim_events.specs.declared.schedule.Restarts.TheVariants.{Never}
use Rattle.calvin_report.specs.Reports.{is_lost}
use Rattle.calvin_sim_events.specs.Quiet.{LeadsQuietly}
use Rattle.calvin_sim_events.proofs.working.Crew.deliver_early.Given as goal

abbrev pub invariant-loop-at : goal.invariant-loop-at
invariant-loop-at g l = LeadsQuietly g.A.App.meaning Never (is_lost l.lost) l.fn.world l.world
