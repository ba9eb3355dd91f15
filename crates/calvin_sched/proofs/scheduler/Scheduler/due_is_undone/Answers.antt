use Rattle.std.proofs.Common.{◌≡◌, sym, subst}
use Rattle.calvin_sched.specs.Keeping.{scheduling_of}
use Rattle.calvin_sched.specs.Progress.{left}
use Rattle.calvin_sched.proofs.Progresses.{left_again}
use Rattle.calvin_sched.proofs.scheduler.Scheduler.due_is_undone.Goals as goal

pub returns : goal.returns
returns g c =
    let p = c.self.inside in
    subst (λ v. left v.scheduling v.due ≡ v.due) c.self.view_is (sym (left_again (scheduling_of p.opened p.last p.turns.kept (g.S.Rows.store p.rows)) p.progress.due.items))
