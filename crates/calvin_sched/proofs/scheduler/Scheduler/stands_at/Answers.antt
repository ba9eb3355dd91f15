use Rattle.std.proofs.Common.{◌≡◌, ◌⊎◌, ◌<◌, ◌-◌, None, Some, sym, subst, arith}
use Rattle.calvin_sched.specs.Standing.{stands_at}
use Rattle.calvin_sched.proofs.Standings.{stands_nowhere, stands_here, end_merged}
use Rattle.calvin_sched.proofs.scheduler.Scheduler.stands_at.Goals as goal

pub returns-then-is_no_standing : goal.returns-then-is_no_standing
returns-then-is_no_standing g c =
    subst (λ v. None ≡ stands_at v.scheduling v.merged v.due) c.self.view_is
    (sym (stands_nowhere c.self.inside.opened c.self.inside.last c.self.inside.turns.kept (g.S.Rows.store c.self.inside.rows) c.self.inside.progress.merged c.self.inside.progress.done c.self.inside.progress.due.items c.self.invariant.1
    (subst (λ e. (e ≡ 0) ⊎ ((e < c.self.inside.opened) ⊎ (e < c.self.inside.progress.done))) c.end-end.ensures c.if-is_no_standing.ensures)))

pub overflow_cast-result : goal.overflow_cast-result
overflow_cast-result g c =
    omega (
      arith,
      c.end-end.ensures,
      c.if-is_no_standing.ensures.0,
      c.self.invariant.1.counted,
      end_merged c.self.inside.opened c.self.inside.last c.self.inside.turns.kept (g.S.Rows.store c.self.inside.rows) c.self.inside.progress.merged c.self.inside.progress.done c.self.inside.progress.due.items c.self.invariant.1,
    )

pub returns : goal.returns
returns g c =
    subst (λ v. Some (c.end-end.result - 1) ≡ stands_at v.scheduling v.merged v.due) c.self.view_is
    (sym (stands_here c.self.inside.opened c.self.inside.last c.self.inside.turns.kept (g.S.Rows.store c.self.inside.rows) c.self.inside.progress.merged c.self.inside.progress.done c.self.inside.progress.due.items c.self.invariant.1
    (c.end-end.result - 1) (omega (arith, c.end-end.ensures, c.if-is_no_standing.ensures.0)) (omega (arith, c.end-end.ensures, c.if-is_no_standing.ensures.1)) (omega (arith, c.end-end.ensures, c.if-is_no_standing.ensures.2))))
