use Rattle.std.proofs.lemmas.Result.{on_ok_weaker, on_err_weaker}
use Rattle.calvin_app.proofs.Results.{on_err}
use Rattle.calvin_report.specs.Reports.{is_lost}
use Rattle.calvin_sim_events.specs.declared.schedule.Restarts.TheVariants.{Never}
use Rattle.calvin_sim_events.proofs.Leading.{quiet_then, want_then, quiet_less, want_less}
use Rattle.calvin_sim_events.proofs.working.Crew.turn.Goals as goal

pub returns-in_err-work-clause-want : goal.returns-in_err-work-clause-want
returns-in_err-work-clause-want g c = on_err _ c.from_residual.result (want_less g.A.App.meaning Never (is_lost c.args.lost) _ _ c.in_err-work.ensures.want)

pub returns-in_err-deliver_early-clause-want : goal.returns-in_err-deliver_early-clause-want
returns-in_err-deliver_early-clause-want g c =
    let lost = is_lost c.args.lost in
    on_err _ c.from_residual-in_err-deliver_early.result (want_then g.A.App.meaning Never lost _ _ _ (quiet_less g.A.App.meaning Never lost _ _ c.in_ok-work.ensures.quiet) c.in_err-deliver_early.ensures.want)

pub returns-clause-quiet : goal.returns-clause-quiet
returns-clause-quiet g c =
    let lost = is_lost c.args.lost in
    on_ok_weaker c.deliver_sent.result (λ it. quiet_then g.A.App.meaning Never lost _ _ _ (quiet_then g.A.App.meaning Never lost _ _ _ (quiet_less g.A.App.meaning Never lost _ _ c.in_ok-work.ensures.quiet) c.in_ok-deliver_early.ensures.quiet) it) c.deliver_sent.ensures.quiet

pub returns-clause-want : goal.returns-clause-want
returns-clause-want g c =
    let lost = is_lost c.args.lost in
    on_err_weaker c.deliver_sent.result (λ it. want_then g.A.App.meaning Never lost _ _ _ (quiet_then g.A.App.meaning Never lost _ _ _ (quiet_less g.A.App.meaning Never lost _ _ c.in_ok-work.ensures.quiet) c.in_ok-deliver_early.ensures.quiet) it) c.deliver_sent.ensures.want
