use Rattle.std.proofs.Common.{ℕ, subst, arith}
use Rattle.calvin_app.proofs.Results.{on_err}
use Rattle.calvin_report.specs.Reports.{is_lost}
use Rattle.calvin_sim_events.specs.Quiet.{LeadsQuietlyBy}
use Rattle.calvin_sim_events.proofs.Leading.{quiet_then_by, want_then_by}
use Rattle.calvin_sim_events.proofs.drawing.draw_events.Goals as goal

pub returns-in_err-_outcome-clause-want : goal.returns-in_err-_outcome-clause-want
returns-in_err-_outcome-clause-want g c =
    let restarts = c.args.schedule.now.restarts in
    let lost = is_lost c.args.schedule.now.lost in
    on_err _ c.from_residual.result (want_then_by g.A.App.meaning restarts lost _ _ _ _ c.loop-step.invariant (c.in_err-_outcome.ensures.want restarts lost c.draw_event-event.ensures.allowed c.draw_event-event.ensures.kept))

pub loop-step-preserved : goal.loop-step-preserved
loop-step-preserved g c =
    let restarts = c.args.schedule.now.restarts in
    let lost = is_lost c.args.schedule.now.lost in
    quiet_then_by g.A.App.meaning restarts lost _ _ _ c.loop-step._step 1 c.loop-step.invariant (c.in_ok-_outcome.ensures.quiet restarts lost c.draw_event-event.ensures.allowed c.draw_event-event.ensures.kept)

pub returns-clause-quiet : goal.returns-clause-quiet
returns-clause-quiet g c =
    subst (λ (n : ℕ). LeadsQuietlyBy g.A.App.meaning c.args.schedule.now.restarts (is_lost c.args.schedule.now.lost) n c.args.world.now c.loop-step.world) (omega (arith, c.loop-step-test.false, c.loop-step.auto._step-end)) c.loop-step.invariant
