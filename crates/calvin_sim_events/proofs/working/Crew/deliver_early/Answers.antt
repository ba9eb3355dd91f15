use Rattle.calvin_app.proofs.Results.{on_err}
use Rattle.calvin_report.specs.Reports.{is_lost}
use Rattle.calvin_sim_events.specs.declared.schedule.Restarts.TheVariants.{Never}
use Rattle.calvin_sim_events.proofs.Leading.{want_then}
use Rattle.calvin_sim_events.proofs.working.Crew.deliver_early.Goals as goal

pub returns-in_err-deliver_early_at-clause-want : goal.returns-in_err-deliver_early_at-clause-want
returns-in_err-deliver_early_at-clause-want g c = on_err _ c.from_residual.result (want_then g.A.App.meaning Never (is_lost c.args.lost) _ _ _ c.loop-at.invariant c.in_err-deliver_early_at.ensures.want)
