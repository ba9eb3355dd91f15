-- Where it is refused nothing changed, since the world was reached.
use Rattle.std.proofs.Common.{subst}
use Rattle.calvin_world.specs.RunningWorlds.{IsReached}
use Rattle.calvin_world.specs.declared.event.Event.TheVariants.{At, Deliver}
use Rattle.calvin_world.proofs.Refused.{err_keeps}
use Rattle.calvin_world.proofs.world.World.step.Goals as goal

pub returns-in-At-clause-err : goal.returns-in-At-clause-err
returns-in-At-clause-err g c = err_keeps g.A.App.meaning c.args.self.now (subst (λ w. IsReached g.A.App.meaning w) c.self.view_is c.self.invariant.1) (At c.in-At.id c.in-At.act) c.act.result c.act.new.self c.act.ensures

pub returns-in-Deliver-clause-err : goal.returns-in-Deliver-clause-err
returns-in-Deliver-clause-err g c = err_keeps g.A.App.meaning c.args.self.now (subst (λ w. IsReached g.A.App.meaning w) c.self.view_is c.self.invariant.1) (Deliver c.in-Deliver.number) c.deliver.result c.deliver.new.self c.deliver.ensures
