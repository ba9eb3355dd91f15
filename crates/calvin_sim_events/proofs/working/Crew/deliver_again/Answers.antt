use Rattle.std.proofs.Common.{◌≡◌, ◌+◌, ◌-◌, ℕ, suc, refl, sym, subst, arith}
use Rattle.calvin_app.proofs.Results.{on_err}
use Rattle.calvin_report.specs.Reports.{is_lost}
use Rattle.calvin_sim_events.specs.declared.schedule.Restarts.TheVariants.{Never}
use Rattle.calvin_sim_events.specs.Passes.{Redelivers, Repeats}
use Rattle.calvin_sim_events.proofs.Leading.{quiet_then, want_then}
use Rattle.calvin_sim_events.proofs.working.Crew.deliver_again.Goals as goal

pub returns-in_err-_reached-clause-want : goal.returns-in_err-_reached-clause-want
returns-in_err-_reached-clause-want g c = on_err _ c.from_residual.result (want_then g.A.App.meaning Never (is_lost c.args.schedule.now.lost) _ _ _ c.loop-done.invariant.0 c.in_err-_reached.ensures.want)

pub loop-done-preserved : goal.loop-done-preserved
loop-done-preserved g c =
    let lost = is_lost c.args.schedule.now.lost in
    let less = c.loop-done-test.true in
    let now : suc (c.args.packets - c.loop-done.done - 1) ≡ c.args.packets - c.loop-done.done = omega (arith, less) in
    let then : c.args.packets - (c.loop-done.done + 1) ≡ c.args.packets - c.loop-done.done - 1 = omega (arith, less) in (
      quiet_then g.A.App.meaning Never lost _ _ _ c.loop-done.invariant.0 c.in_ok-_reached.ensures.quiet,
      λ v rest. c.loop-done.invariant.1 v
          (subst (λ (n : ℕ). Redelivers g.A.App.meaning lost n c.loop-done.world v) now
          (c.deliver.new.world, c.in_ok-_reached.ensures.delivered, subst (λ (n : ℕ). Redelivers g.A.App.meaning lost n c.deliver.new.world v) then rest)),
    )

pub returns-clause-again : goal.returns-clause-again
returns-clause-again g c =
    let lost = is_lost c.args.schedule.now.lost in
    let past = c.loop-done-test.false in
    let none : 0 ≡ c.args.packets - c.loop-done.done = omega (arith, past) in
    let all = c.loop-done.invariant.1 c.loop-done.world (subst (λ (n : ℕ). Redelivers g.A.App.meaning lost n c.loop-done.world c.loop-done.world) none refl) in
    subst (λ b. Repeats g.A.App.meaning b lost c.args.packets c.args.world.now c.loop-done.world) (sym c.if-not-schedule.false) all
