use Rattle.calvin_app.proofs.Results.{on_err}
use Rattle.calvin_sim_events.specs.declared.schedule.Restarts.TheVariants.{Never}
use Rattle.calvin_sim_events.specs.Quiet.{everyone}
use Rattle.calvin_sim_events.proofs.Leading.{want_then}
use Rattle.calvin_sim_events.proofs.working.work_at.Goals as goal

pub returns-in_err-run_ready-clause-want : goal.returns-in_err-run_ready-clause-want
returns-in_err-run_ready-clause-want g c = on_err _ c.from_residual-in_err-run_ready.result (want_then g.A.App.meaning Never everyone _ _ _ c.in_ok-merged.ensures.quiet c.in_err-run_ready.ensures.want)
