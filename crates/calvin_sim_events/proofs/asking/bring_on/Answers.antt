use Rattle.std.proofs.Common.{◌≡◌, ◌≤◌, ◌+◌, suc, inr, sym, subst, arith}
use Rattle.calvin_app.proofs.Results.{on_err}
use Rattle.calvin_report.specs.Reports.{is_lost}
use Rattle.calvin_sim_events.specs.declared.schedule.Restarts.TheVariants.{Never}
use Rattle.calvin_sim_events.specs.Passes.{IsPass, Passes}
use Rattle.calvin_sim_events.proofs.Leading.{want_then}
use Rattle.calvin_sim_events.proofs.Passing.{passes_lead, some_passes}
use Rattle.calvin_sim_events.proofs.asking.bring_on.Goals as goal
use Rattle.calvin_sim_events.proofs.asking.bring_on.Goals.{else-loop-test, then-loop-test+in_ok-pass+in-AllStand}

pub returns-in_err-pass-clause-want : goal.returns-in_err-pass-clause-want
returns-in_err-pass-clause-want g c =
    let schedule = c.args.schedule.now in
    let so_far = passes_lead g.A.App.meaning (is_lost schedule.lost) schedule.repeats c.loop.counter _ _ c.loop.invariant in
    on_err _ c.from_residual-in_err-pass.result (inr (want_then g.A.App.meaning Never (is_lost schedule.lost) _ _ _ so_far c.in_err-pass.ensures.want))

pub loop-preserved : goal.loop-preserved
loop-preserved g c =
    let schedule = c.args.schedule.now in
    let next : suc c.loop.counter ≡ c.loop.counter + 1 = omega arith in
    subst (λ n. Passes g.A.App.meaning schedule.repeats (is_lost schedule.lost) n c.args.world.now c.pass.new.world) next
    (c.loop.world, c.loop.invariant, c.in_ok-pass.ensures.pass)

pub returns-clause-passes : goal.returns-clause-passes
returns-clause-passes g c =
    let schedule = c.args.schedule.now in
    elim c.loop-test.branch [
      | else-loop-test w ↦
          let all : 1 ≤ c.loop.counter = (let past = w.loop-test.false in omega (arith, past)) in
          some_passes g.A.App.meaning (is_lost schedule.lost) schedule.repeats c.loop.counter c.args.world.now c.loop-test.world all
          (subst (λ v. Passes g.A.App.meaning schedule.repeats (is_lost schedule.lost) c.loop.counter c.args.world.now v) (sym w.world-is) c.loop.invariant)
      | then-loop-test+in_ok-pass+in-AllStand w ↦
          (c.loop.counter, (c.loop.world, c.loop.invariant, subst (λ v. IsPass g.A.App.meaning schedule.repeats (is_lost schedule.lost) c.loop.world v) (sym w.world-is) w.in_ok-pass.ensures.pass))
    ]
