use Rattle.calvin_app.proofs.Results.{on_err}
use Rattle.calvin_sim_events.specs.declared.schedule.Restarts.TheVariants.{Never}
use Rattle.calvin_sim_events.specs.Quiet.{everyone}
use Rattle.calvin_sim_events.proofs.Leading.{want_then}
use Rattle.calvin_sim_events.proofs.working.admit.Goals as goal

pub returns-in_err-lock_all-clause-want : goal.returns-in_err-lock_all-clause-want
returns-in_err-lock_all-clause-want g c = on_err _ c.from_residual-in_err-lock_all.result (want_then g.A.App.meaning Never everyone _ _ _ c.in_ok-merged.ensures.quiet c.in_err-lock_all.ensures.want)
