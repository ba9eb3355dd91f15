use Rattle.calvin_sim_events.specs.declared.schedule.Restarts.TheVariants.{Never}
use Rattle.calvin_sim_events.specs.Quiet.{everyone, LeadsQuietly}
use Rattle.calvin_sim_events.proofs.asking.ask_at.Given as goal

abbrev pub invariant-loop-epoch : goal.invariant-loop-epoch
invariant-loop-epoch g l = LeadsQuietly g.A.App.meaning Never everyone l.fn.world l.world
