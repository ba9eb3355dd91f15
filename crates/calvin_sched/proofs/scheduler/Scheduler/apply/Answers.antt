use Rattle.std.proofs.lemmas.Result.{err_from_is_err_and}
use Rattle.std.specs.Prelude.{OnErr}
use Rattle.std.proofs.Common.{◌≡◌, Ok, refl, sym, ap, subst, ◌∙◌, arith}
use Rattle.calvin_types.specs.Participants.{site}
use Rattle.calvin_app.specs.Serial.{writes_on}
use Rattle.calvin_app.specs.Stores.{put_at}
use Rattle.calvin_sched.specs.Keeping.{scheduling_of, IsScheduler}
use Rattle.calvin_sched.specs.Scheduling.{local_writes}
use Rattle.calvin_sched.specs.Steps as steps
use Rattle.calvin_sched.proofs.Finishes.{due_begun, one_job, keeps_finished, finished_is}
use Rattle.calvin_sched.proofs.Keepers.{kept_turn}
use Rattle.calvin_sched.specs.Progress.{left}
use Rattle.calvin_sched.specs.declared.phase.Phase.TheVariants.{Done}
use Rattle.calvin_sched.proofs.Progresses.{progress_ended, left_ended, left_again}
use Rattle.calvin_sched.proofs.Steps.{if_ok}
use Rattle.calvin_order.proofs.KeptRoom.{where_refused}
use Rattle.calvin_sched.proofs.scheduler.Scheduler.apply.Goals as goal

pub returns-in_err-reserve-clause-err : goal.returns-in_err-reserve-clause-err
returns-in_err-reserve-clause-err g c =
    let new = scheduling_of c.self.inside.opened c.self.inside.last c.self.inside.turns.kept (g.S.Rows.store c.reserve.new.self) in
    let p = err_from_is_err_and c.from_residual.result c.from_residual.ensures.1 in
    subst (λ r. OnErr r (new ≡ c.args.self.now.scheduling)) (sym p.1)
    (ap (scheduling_of c.self.inside.opened c.self.inside.last c.self.inside.turns.kept) c.in_err-reserve.ensures.store ∙ ap (λ v. v.scheduling) c.self.view_is)

pub invariant_of-self-2 : goal.invariant_of-self-2
invariant_of-self-2 g c =
    let here = site c.self.inside.config.partitions c.self.inside.partition in
    let s = scheduling_of c.self.inside.opened c.self.inside.last c.self.inside.turns.kept (g.S.Rows.store c.self.inside.rows) in
    let job = subst (λ v. steps.job v.here c.args.place v.scheduling ≡ Ok c.requires.0) (sym c.self.view_is) c.requires.1 in
    let due = due_begun here s c.args.place c.requires.0 job in
    let kept = kept_turn c.self.inside.turns.kept c.args.place due.0 due.1 in
    let put = c.finish.ensures kept.0 kept.1 in
    let locked = c.self.invariant.0.begun c.args.place due.0 due.1 due.2 in
    let released = if_ok c.release-released.result (c.release-released.ensures.held.1 locked) c.release-released.ensures.ok in (
      subst (λ l. IsScheduler here (scheduling_of c.self.inside.opened c.self.inside.last c.finish.new.self.kept (g.S.Rows.store c.put_all.new.self)) c.finish.new.self.kept l) (sym released)
          (keeps_finished here c.self.inside.opened c.self.inside.last c.self.inside.turns.kept (g.S.Rows.store c.self.inside.rows) (g.L.Locks.kept c.self.inside.locks) c.self.invariant.0 c.args.place kept.0 kept.1
          c.finish.new.self.kept (ap (λ t. t.kept) put) (g.S.Rows.store c.put_all.new.self)),
      progress_ended c.self.inside.opened c.self.inside.last c.self.inside.turns.kept c.self.inside.progress.merged c.self.inside.progress.done c.self.inside.progress.due.items c.self.invariant.1 c.args.place (record { turn = record kept.0.turn { phase = Done }; room = kept.0.room }) c.finish.new.self.kept (ap (λ t. t.kept) put) kept.0 kept.1 refl c.finish-2.new.self.merged c.finish-2.new.self.done c.finish-2.new.self.due.items c.finish-2.ensures.merged c.finish-2.ensures.done c.finish-2.ensures.due,
      c.finish-2.ensures.reserved,
    )

pub returns-clause-ok : goal.returns-clause-ok
returns-clause-ok g c = λ j is.
    let here = site c.self.inside.config.partitions c.self.inside.partition in
    let s = scheduling_of c.self.inside.opened c.self.inside.last c.self.inside.turns.kept (g.S.Rows.store c.self.inside.rows) in
    let job = subst (λ v. steps.job v.here c.args.place v.scheduling ≡ Ok c.requires.0) (sym c.self.view_is) c.requires.1 in
    let due = due_begun here s c.args.place c.requires.0 job in
    let kept = kept_turn c.self.inside.turns.kept c.args.place due.0 due.1 in
    let put = c.finish.ensures kept.0 kept.1 in
    let due_there = subst (λ v. steps.job v.here c.args.place v.scheduling ≡ Ok j) (sym c.self.view_is) is in
    let placed = (due_begun here s c.args.place j due_there).3 in
    let written = c.requires.2 ∙ ap (λ v. local_writes v.here (writes_on g.A.App.meaning c.requires.0.txn c.requires.0.view)) (sym c.self.view_is)
    ∙ ap (λ i. local_writes here (writes_on g.A.App.meaning i.txn i.view)) (one_job here s c.args.place c.requires.0 j job due_there) in
    let stored = c.put_all.ensures.store ∙ (λ i. put_at (sym placed i) (written i) (c.in_ok-reserve.ensures.store i)) in
    finished_is here c.self.inside.opened c.self.inside.last c.self.inside.turns.kept (g.S.Rows.store c.self.inside.rows) (g.L.Locks.kept c.self.inside.locks) c.self.invariant.0 c.args.place kept.0 kept.1
    g.A.App.meaning j placed c.finish.new.self.kept (ap (λ t. t.kept) put) (g.S.Rows.store c.put_all.new.self) stored
    ∙ ap (λ v. steps.after_job g.A.App.meaning v.here j v.scheduling) c.self.view_is

pub returns-clause-due : goal.returns-clause-due
returns-clause-due g c =
    let here = site c.self.inside.config.partitions c.self.inside.partition in
    let s = scheduling_of c.self.inside.opened c.self.inside.last c.self.inside.turns.kept (g.S.Rows.store c.self.inside.rows) in
    let job = subst (λ v. steps.job v.here c.args.place v.scheduling ≡ Ok c.requires.0) (sym c.self.view_is) c.requires.1 in
    let due = due_begun here s c.args.place c.requires.0 job in
    let kept = kept_turn c.self.inside.turns.kept c.args.place due.0 due.1 in
    let put = c.finish.ensures kept.0 kept.1 in
    left_ended c.self.inside.opened c.self.inside.last c.self.inside.turns.kept c.self.inside.progress.merged c.self.inside.progress.done c.self.inside.progress.due.items c.self.invariant.1 c.args.place (record { turn = record kept.0.turn { phase = Done }; room = kept.0.room }) c.finish.new.self.kept (ap (λ t. t.kept) put) kept.0 kept.1 refl c.finish-2.new.self.merged c.finish-2.new.self.done c.finish-2.new.self.due.items c.finish-2.ensures.merged c.finish-2.ensures.done c.finish-2.ensures.due (g.S.Rows.store c.self.inside.rows) (g.S.Rows.store c.put_all.new.self)
    ∙ ap (λ v. left (scheduling_of c.self.inside.opened c.self.inside.last c.finish.new.self.kept (g.S.Rows.store c.put_all.new.self)) v.due) c.self.view_is

pub returns-in_err-reserve-clause-due : goal.returns-in_err-reserve-clause-due
returns-in_err-reserve-clause-due g c =
    let new = scheduling_of c.self.inside.opened c.self.inside.last c.self.inside.turns.kept (g.S.Rows.store c.reserve.new.self) in
    left_again new c.self.inside.progress.due.items ∙ ap (λ v. left new v.due) c.self.view_is

pub returns-in_err-reserve-clause-room : goal.returns-in_err-reserve-clause-room
returns-in_err-reserve-clause-room g c = where_refused c.from_residual.result _ (let room = ap (λ v. v.room) c.self.view_is in omega (arith, c.in_err-reserve.ensures.room, room))
