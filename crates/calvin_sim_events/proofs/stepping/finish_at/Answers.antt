use Rattle.std.proofs.Common.{refl}
use Rattle.calvin_node_acts.specs.declared.act.Act.TheVariants.{Finish}
use Rattle.calvin_world.specs.declared.event.Event.TheVariants.{At}
use Rattle.calvin_sim_events.specs.declared.schedule.Restarts.TheVariants.{Never}
use Rattle.calvin_sim_events.specs.Quiet.{everyone}
use Rattle.calvin_sim_events.proofs.Telling.{told_step, told_quiet, told_want}
use Rattle.calvin_sim_events.proofs.stepping.finish_at.Goals as goal

pub returns-clause-quiet : goal.returns-clause-quiet
returns-clause-quiet g c = told_quiet g.A.App.meaning c.args.world.now c.finish.new.self (At c.args.id (Finish c.args.place)) c.finish.result c.finish.ensures Never everyone refl refl c.without_want.result c.without_want.ensures.ok

pub returns-clause-want : goal.returns-clause-want
returns-clause-want g c = told_want g.A.App.meaning c.args.world.now c.finish.new.self (At c.args.id (Finish c.args.place)) c.finish.result c.finish.ensures Never everyone refl refl c.without_want.result c.without_want.ensures.want

pub returns-clause-step : goal.returns-clause-step
returns-clause-step g c = told_step g.A.App.meaning c.args.world.now c.finish.new.self (At c.args.id (Finish c.args.place)) c.finish.result c.finish.ensures c.without_want.result c.without_want.ensures.ok
