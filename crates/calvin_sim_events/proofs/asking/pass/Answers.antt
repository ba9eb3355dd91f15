use Rattle.std.proofs.Common.{ℕ, subst}
use Rattle.calvin_app.proofs.Results.{on_err}
use Rattle.calvin_report.specs.Reports.{is_lost}
use Rattle.calvin_sim_events.specs.declared.schedule.Restarts.TheVariants.{Never}
use Rattle.calvin_sim_events.specs.Passes.{Repeats}
use Rattle.calvin_sim_events.proofs.Leading.{quiet_here, quiet_then, quiet_less, want_then, want_less}
use Rattle.calvin_sim_events.proofs.Passing.{repeated_lead}
use Rattle.calvin_sim_events.proofs.asking.pass.Goals as goal

pub returns-then-all_stand-clause-pass : goal.returns-then-all_stand-clause-pass
returns-then-all_stand-clause-pass g c =
    let schedule = c.args.schedule.now in
    let lost = is_lost schedule.lost in
    record {
      moved = c.work_on.new.world;
      repeated = c.deliver_again.new.world;
      moves = c.in_ok-work_on.ensures.quiet;
      again = subst (λ (n : ℕ). Repeats g.A.App.meaning schedule.repeats lost n c.work_on.new.world c.deliver_again.new.world) c.sent-packets.ensures c.in_ok-deliver_again.ensures.again;
      asks = quiet_here g.A.App.meaning Never lost c.deliver_again.new.world;
    }

pub returns-in_err-ask-clause-want : goal.returns-in_err-ask-clause-want
returns-in_err-ask-clause-want g c =
    let schedule = c.args.schedule.now in
    let lost = is_lost schedule.lost in
    let again = repeated_lead g.A.App.meaning lost schedule.repeats _ _ _ c.in_ok-deliver_again.ensures.again in
    on_err _ c.from_residual-in_err-ask.result
    (want_then g.A.App.meaning Never lost _ _ _ (quiet_then g.A.App.meaning Never lost _ _ _ c.in_ok-work_on.ensures.quiet again) (want_less g.A.App.meaning Never lost _ _ c.in_err-ask.ensures.want))

pub returns-clause-pass : goal.returns-clause-pass
returns-clause-pass g c =
    let schedule = c.args.schedule.now in
    let lost = is_lost schedule.lost in
    record {
      moved = c.work_on.new.world;
      repeated = c.deliver_again.new.world;
      moves = c.in_ok-work_on.ensures.quiet;
      again = subst (λ (n : ℕ). Repeats g.A.App.meaning schedule.repeats lost n c.work_on.new.world c.deliver_again.new.world) c.sent-packets.ensures c.in_ok-deliver_again.ensures.again;
      asks = quiet_less g.A.App.meaning Never lost _ _ c.in_ok-ask.ensures.quiet;
    }
