use Rattle.std.proofs.lemmas.Result.{on_ok_weaker, on_err_weaker}
use Rattle.calvin_app.proofs.Results.{on_err}
use Rattle.calvin_sim_events.specs.declared.schedule.Restarts.TheVariants.{Never}
use Rattle.calvin_sim_events.specs.Quiet.{everyone}
use Rattle.calvin_sim_events.proofs.Leading.{quiet_then, want_then}
use Rattle.calvin_sim_events.proofs.asking.ask_at.Goals as goal

pub returns-in_err-ask_for_epoch-clause-want : goal.returns-in_err-ask_for_epoch-clause-want
returns-in_err-ask_for_epoch-clause-want g c = on_err _ c.from_residual.result (want_then g.A.App.meaning Never everyone _ _ _ c.loop-epoch.invariant c.in_err-ask_for_epoch.ensures.want)

pub returns-clause-quiet : goal.returns-clause-quiet
returns-clause-quiet g c = on_ok_weaker c.ask_for_rows.result (quiet_then g.A.App.meaning Never everyone _ _ _ c.loop-epoch.invariant) c.ask_for_rows.ensures.quiet

pub returns-clause-want : goal.returns-clause-want
returns-clause-want g c = on_err_weaker c.ask_for_rows.result (want_then g.A.App.meaning Never everyone _ _ _ c.loop-epoch.invariant) c.ask_for_rows.ensures.want
