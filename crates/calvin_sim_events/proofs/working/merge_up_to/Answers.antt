use Rattle.calvin_app.proofs.Results.{on_err}
use Rattle.calvin_sim_events.specs.declared.schedule.Restarts.TheVariants.{Never}
use Rattle.calvin_sim_events.specs.Quiet.{everyone}
use Rattle.calvin_sim_events.proofs.Leading.{want_then}
use Rattle.calvin_sim_events.proofs.working.merge_up_to.Goals as goal

pub returns-in_err-happen_at-clause-want : goal.returns-in_err-happen_at-clause-want
returns-in_err-happen_at-clause-want g c = on_err _ c.from_residual.result (want_then g.A.App.meaning Never everyone _ _ _ c.loop.invariant c.in_err-happen_at.ensures.want)
