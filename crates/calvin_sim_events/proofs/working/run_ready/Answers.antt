use Rattle.calvin_app.proofs.Results.{on_err}
use Rattle.calvin_sim_events.specs.declared.schedule.Restarts.TheVariants.{Never}
use Rattle.calvin_sim_events.specs.Quiet.{everyone}
use Rattle.calvin_sim_events.proofs.Leading.{want_then}
use Rattle.calvin_sim_events.proofs.working.run_ready.Goals as goal

pub returns-in_err-run-clause-want : goal.returns-in_err-run-clause-want
returns-in_err-run-clause-want g c = on_err _ c.from_residual.result (want_then g.A.App.meaning Never everyone _ _ _ c.loop.invariant c.in_err-run.ensures.want)
