use Rattle.calvin_sim_events.specs.declared.schedule.Restarts.TheVariants.{Never}
use Rattle.calvin_sim_events.specs.Quiet.{everyone, LeadsQuietly}
use Rattle.calvin_sim_events.proofs.asking.ask_for_epoch.Given as goal

abbrev pub invariant-loop-group : goal.invariant-loop-group
invariant-loop-group g l = LeadsQuietly g.A.App.meaning Never everyone l.fn.world l.world
