use Rattle.calvin_sim_events.specs.declared.schedule.Restarts.TheVariants.{Never}
use Rattle.calvin_sim_events.specs.Quiet.{everyone, LeadsQuietly}
use Rattle.calvin_sim_events.proofs.working.merge_up_to.Given as goal

abbrev pub invariant-loop : goal.invariant-loop
invariant-loop g l = LeadsQuietly g.A.App.meaning Never everyone l.fn.world l.world
