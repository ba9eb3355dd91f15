use Rattle.calvin_app.proofs.Results.{on_err}
use Rattle.calvin_sim_events.specs.declared.schedule.Restarts.TheVariants.{Never}
use Rattle.calvin_sim_events.specs.Quiet.{everyone}
use Rattle.calvin_sim_events.proofs.Leading.{want_then}
use Rattle.calvin_sim_events.proofs.asking.ask.Goals as goal

pub returns-in_err-propose_epoch-clause-want : goal.returns-in_err-propose_epoch-clause-want
returns-in_err-propose_epoch-clause-want g c = on_err _ c.from_residual.result (want_then g.A.App.meaning Never everyone _ _ _ c.loop-epoch.invariant c.in_err-propose_epoch.ensures.want)

pub returns-in_err-ask_at-clause-want : goal.returns-in_err-ask_at-clause-want
returns-in_err-ask_at-clause-want g c = on_err _ c.from_residual-in_err-ask_at.result (want_then g.A.App.meaning Never everyone _ _ _ c.loop-seat.invariant c.in_err-ask_at.ensures.want)
