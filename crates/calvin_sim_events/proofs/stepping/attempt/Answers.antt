use Rattle.calvin_sim_events.proofs.Telling.{told_step, told_quiet_by, told_want}
use Rattle.calvin_sim_events.proofs.stepping.attempt.Goals as goal

pub returns-clause-quiet : goal.returns-clause-quiet
returns-clause-quiet g c = λ restarts lost allowed kept. told_quiet_by g.A.App.meaning c.args.world.now c.step.new.self c.args.event.now c.step.result c.step.ensures.step restarts lost allowed kept c.without_want.result c.without_want.ensures.ok

pub returns-clause-want : goal.returns-clause-want
returns-clause-want g c = λ restarts lost allowed kept. told_want g.A.App.meaning c.args.world.now c.step.new.self c.args.event.now c.step.result c.step.ensures.step restarts lost allowed kept c.without_want.result c.without_want.ensures.want

pub returns-clause-step : goal.returns-clause-step
returns-clause-step g c = told_step g.A.App.meaning c.args.world.now c.step.new.self c.args.event.now c.step.result c.step.ensures.step c.without_want.result c.without_want.ensures.ok
