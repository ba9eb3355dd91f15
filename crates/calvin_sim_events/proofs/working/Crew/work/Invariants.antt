use Rattle.calvin_sim_events.specs.declared.schedule.Restarts.TheVariants.{Never}
use Rattle.calvin_sim_events.specs.Quiet.{everyone, LeadsQuietly}
use Rattle.calvin_sim_events.proofs.working.Crew.work.Given as goal

abbrev pub invariant-loop-seat : goal.invariant-loop-seat
invariant-loop-seat g l = LeadsQuietly g.A.App.meaning Never everyone l.fn.world l.world
