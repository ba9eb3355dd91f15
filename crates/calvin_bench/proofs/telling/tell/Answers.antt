use Rattle.std.proofs.Common.{◌≡◌, suc, ◌+◌, sym, ap, subst, ◌∙◌, arith}
use Rattle.calvin_bench.specs.Telling.{EndsAt, told_upto}
use Rattle.calvin_bench.proofs.ToldOrders.{told_all, told_here}
use Rattle.calvin_bench.proofs.telling.tell.Goals as goal

pub loop-epoch-preserved : goal.loop-epoch-preserved
loop-epoch-preserved g c =
    let next : suc c.loop-epoch.epoch ≡ c.loop-epoch.epoch + 1 = omega arith in (
      subst (λ n. EndsAt c.args.order.now n c.in_ok-start.start) next c.in_ok-start.ensures.split,
      c.in_ok-start.ensures.told ∙ ap (λ h. told_upto h c.args.order.now c.in_ok-start.start (suc c.loop-epoch.epoch)) (told_here c.loop-epoch.scheduler c.args.scheduler.now.here c.args.order.now c.loop-epoch.start c.loop-epoch.epoch c.loop-epoch.invariant.1)
          ∙ ap (told_upto c.args.scheduler.now.here c.args.order.now c.in_ok-start.start) next,
    )

pub tell_epoch-requires-2-clause-split : goal.tell_epoch-requires-2-clause-split
tell_epoch-requires-2-clause-split g c =
    let same : c.loop-epoch.epoch ≡ c.in-Some.last.now.0.epoch = omega (arith, c.loop-epoch-test.false, c.loop-epoch.auto.epoch-end) in
    subst (λ n. EndsAt c.args.order.now n c.loop-epoch.start) same c.loop-epoch.invariant.0

pub returns-clause-ok : goal.returns-clause-ok
returns-clause-ok g c = told_all c.args.order.now c.requires.rises c.in-Some.last.now (sym c.in-Some.ensures.value) c.args.scheduler.now c.requires.untold c.in_ok-_all._all c.in_ok-_all.ensures.split c.tell_epoch-2.new.scheduler
    (c.in_ok-_all.ensures.told ∙ ap (λ h. told_upto h c.args.order.now c.in_ok-_all._all (suc c.in-Some.last.now.0.epoch)) (told_here c.loop-epoch.scheduler c.args.scheduler.now.here c.args.order.now c.loop-epoch.start c.loop-epoch.epoch c.loop-epoch.invariant.1))
