use Rattle.std.proofs.Common.{subst}
use Rattle.calvin_script.specs.Scripts.{contents}
use Rattle.calvin_sim.specs.Simulations.{submissions, AllDone}
use Rattle.calvin_sim.proofs.simulation.play.Goals as goal

pub returns-clause-ok : goal.returns-clause-ok
returns-clause-ok g c = record {
  submitted = c.submit_all.new.world;
  drawn = c.draw_events.new.world;
  submits = subst (λ w. AllDone g.A.App.meaning w (submissions (contents c.args.script.now)) c.submit_all.new.world) c.requires.new c.in_ok-submit_all.ensures.done;
  draws = c.in_ok-draw_events.ensures.quiet;
  more = c.in_ok-bring_on.ensures.passes.0;
  follows = c.in_ok-bring_on.ensures.passes.1;
}
