use Rattle.std.proofs.Common.{◌≡◌, ◌<◌, sym, ap, subst, length, ◌∙◌, arith}
use Rattle.std.proofs.Math.Nat.{lt_of_not-le}
use Rattle.std.proofs.lemmas.Bool.{false≢true}
use Rattle.std.proofs.lemmas.Result.{err_from_is_err_and}
use Rattle.std.specs.Prelude.{IfErr}
use Rattle.calvin_sched.specs.Keeping.{scheduling_of, IsNotRun}
use Rattle.calvin_sched.specs.Scheduling.{local_writes}
use Rattle.calvin_sched.specs.Steps as steps
use Rattle.calvin_sched.specs.Progress.{left}
use Rattle.calvin_sched.proofs.Progresses.{left_again}
use Rattle.calvin_order.proofs.KeptRoom.{where_refused}
use Rattle.calvin_sched.proofs.scheduler.Scheduler.run_found.Goals as goal

pub returns-in_err-name-clause-due : goal.returns-in_err-name-clause-due
returns-in_err-name-clause-due g c =
    let s = scheduling_of c.self.inside.opened c.self.inside.last c.self.inside.turns.kept (g.S.Rows.store c.self.inside.rows) in
    subst (λ v. v.due ≡ left v.scheduling v.due) c.self.view_is (left_again s c.self.inside.progress.due.items)

pub apply-requires : goal.apply-requires
apply-requires g c =
    let told = c.in_ok-name.ensures.ok in
    let due = steps.job c.args.self.now.here c.args.place c.args.self.now.scheduling in
    let all = c.are_local.ensures c.if-are_local.true ∙ ap (λ v. local_writes v.here c.compute.new.writes) c.self.view_is in
    (g.met.A.App.rows_fit, (told.0, told.1, all ∙ ap (local_writes c.args.self.now.here) told.4))

pub apply-requires-else-are_local : goal.apply-requires-else-are_local
apply-requires-else-are_local g c =
    let told = c.in_ok-name.ensures.ok in
    (g.met.A.App.rows_fit, (told.0, told.1, c.local_part-here.ensures ∙ ap (λ v. local_writes v.here c.compute.new.writes) c.self.view_is ∙ ap (local_writes c.args.self.now.here) told.4))

pub returns-in_err-apply-clause-refused : goal.returns-in_err-apply-clause-refused
returns-in_err-apply-clause-refused g c =
    let told = c.in_ok-name.ensures.ok in
    let due = steps.job c.args.self.now.here c.args.place c.args.self.now.scheduling in
    let all = c.are_local.ensures c.if-are_local.true ∙ ap (λ v. local_writes v.here c.compute.new.writes) c.self.view_is ∙ ap (local_writes c.args.self.now.here) told.4 in
    let p = err_from_is_err_and c.from_residual-in_err-apply.result c.from_residual-in_err-apply.ensures.1 in
    let short : c.args.self.now.room < length c.compute.new.writes = lt_of_not-le (λ h. false≢true (c.in_err-apply.ensures.succeeds h)) in
    subst (λ r. IfErr r (IsNotRun g.A.App.meaning c.args.self.now.here c.args.self.now.room due)) (sym p.1) (subst (λ d. IsNotRun g.A.App.meaning c.args.self.now.here c.args.self.now.room d p.0) (sym told.1) (p.2 ∙ c.in_err-apply.ensures.only, omega (arith, short, ap length all)))

pub returns-in_err-apply-2-clause-refused : goal.returns-in_err-apply-2-clause-refused
returns-in_err-apply-2-clause-refused g c =
    let told = c.in_ok-name.ensures.ok in
    let due = steps.job c.args.self.now.here c.args.place c.args.self.now.scheduling in
    let all = c.local_part-here.ensures ∙ ap (λ v. local_writes v.here c.compute.new.writes) c.self.view_is ∙ ap (local_writes c.args.self.now.here) told.4 in
    let p = err_from_is_err_and c.from_residual-in_err-apply-2.result c.from_residual-in_err-apply-2.ensures.1 in
    let short : c.args.self.now.room < length c.local_part-here.result = lt_of_not-le (λ h. false≢true (c.in_err-apply-2.ensures.succeeds h)) in
    subst (λ r. IfErr r (IsNotRun g.A.App.meaning c.args.self.now.here c.args.self.now.room due)) (sym p.1) (subst (λ d. IsNotRun g.A.App.meaning c.args.self.now.here c.args.self.now.room d p.0) (sym told.1) (p.2 ∙ c.in_err-apply-2.ensures.only, omega (arith, short, ap length all)))

pub returns-in_ok-apply-clause-ok : goal.returns-in_ok-apply-clause-ok
returns-in_ok-apply-clause-ok g c =
    let told = c.in_ok-name.ensures.ok in
    (told.0, told.1, told.2, told.3, c.in_ok-apply.ensures.ok told.0 told.1)

pub returns-in_ok-apply-2-clause-ok : goal.returns-in_ok-apply-2-clause-ok
returns-in_ok-apply-2-clause-ok g c =
    let told = c.in_ok-name.ensures.ok in
    (told.0, told.1, told.2, told.3, c.in_ok-apply-2.ensures.ok told.0 told.1)

pub returns-in_err-name-clause-room : goal.returns-in_err-name-clause-room
returns-in_err-name-clause-room g c = where_refused c.from_residual.result _ (let room = ap (λ v. v.room) c.self.view_is in omega (arith, room))

pub returns-in_err-apply-clause-room : goal.returns-in_err-apply-clause-room
returns-in_err-apply-clause-room g c = where_refused c.from_residual-in_err-apply.result _ c.in_err-apply.ensures.room

pub returns-in_err-apply-2-clause-room : goal.returns-in_err-apply-2-clause-room
returns-in_err-apply-2-clause-room g c = where_refused c.from_residual-in_err-apply-2.result _ c.in_err-apply-2.ensures.room
