use Rattle.calvin_sim_events.specs.declared.schedule.Restarts.TheVariants.{Never}
use Rattle.calvin_sim_events.specs.Quiet.{everyone, LeadsQuietly}
use Rattle.calvin_sim_events.proofs.asking.ask.Given as goal

abbrev pub invariant-loop-epoch : goal.invariant-loop-epoch
invariant-loop-epoch g l = LeadsQuietly g.A.App.meaning Never everyone l.fn.world l.world

abbrev pub invariant-loop-seat : goal.invariant-loop-seat
invariant-loop-seat g l = LeadsQuietly g.A.App.meaning Never everyone l.fn.world l.world
