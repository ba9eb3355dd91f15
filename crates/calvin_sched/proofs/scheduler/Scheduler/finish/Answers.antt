use Rattle.std.proofs.Common.{rules, ◌≡◌, ◌<◌, sym, ap, subst, inr, length, ◌∙◌, arith}
use Rattle.std.proofs.Math.Nat.{lt_of_not-le}
use Rattle.std.proofs.lemmas.Bool.{false≢true}
use Rattle.std.proofs.lemmas.Result.{err_from_is_err_and}
use Rattle.calvin_sched.specs.Keeping.{scheduling_of, Finished}
use Rattle.calvin_sched.specs.Scheduling.{local_writes}
use Rattle.calvin_sched.specs.Progress.{left}
use Rattle.calvin_sched.proofs.Progresses.{left_again}
use Rattle.calvin_order.proofs.KeptRoom.{where_refused}
use Rattle.calvin_sched.proofs.scheduler.Scheduler.finish.Goals as goal

pub apply-requires : goal.apply-requires
apply-requires g c = (
  search rules,
  (
    c.args.computed.now.job,
    c.in_ok-check_due.ensures.ok,
    c.local_part-writes.ensures ∙ ap (λ v. local_writes v.here c.args.computed.now.writes) c.self.view_is ∙ ap (local_writes c.args.self.now.here) c.args.computed.now.written,
  ),
)

pub returns-in_err-check_due-clause-due : goal.returns-in_err-check_due-clause-due
returns-in_err-check_due-clause-due g c =
    let s = scheduling_of c.self.inside.opened c.self.inside.last c.self.inside.turns.kept (g.S.Rows.store c.self.inside.rows) in
    subst (λ v. v.due ≡ left v.scheduling v.due) c.self.view_is (left_again s c.self.inside.progress.due.items)

pub returns-in_err-apply-clause-did : goal.returns-in_err-apply-clause-did
returns-in_err-apply-clause-did g c =
    let s = c.args.self.now.scheduling in
    let j = c.args.computed.now.job in
    let r = c.args.self.now.room in
    let p = err_from_is_err_and c.from_residual-in_err-apply.result c.from_residual-in_err-apply.ensures.1 in
    let size = ap length (c.local_part-writes.ensures ∙ ap (λ v. local_writes v.here c.args.computed.now.writes) c.self.view_is ∙ ap (local_writes c.args.self.now.here) c.args.computed.now.written) in
    let short : r < length c.local_part-writes.result = lt_of_not-le (λ h. false≢true (c.in_err-apply.ensures.succeeds h)) in
    subst (λ x. Finished g.A.App.meaning c.args.self.now.here r j x s c.apply.new.self.scheduling) (sym p.1)
    (c.in_err-apply.ensures.err, inr (p.2 ∙ c.in_err-apply.ensures.only, c.in_ok-check_due.ensures.ok, omega (arith, short, size)))

pub returns-clause-did : goal.returns-clause-did
returns-clause-did g c = (c.in_ok-check_due.ensures.ok, c.in_ok-apply.ensures.ok c.args.computed.now.job c.in_ok-check_due.ensures.ok, c.args.computed.now.answered)

pub returns-in_err-check_due-clause-room : goal.returns-in_err-check_due-clause-room
returns-in_err-check_due-clause-room g c = where_refused c.from_residual.result _ (let room = ap (λ v. v.room) c.self.view_is in omega (arith, room))

pub returns-in_err-apply-clause-room : goal.returns-in_err-apply-clause-room
returns-in_err-apply-clause-room g c = where_refused c.from_residual-in_err-apply.result _ c.in_err-apply.ensures.room
