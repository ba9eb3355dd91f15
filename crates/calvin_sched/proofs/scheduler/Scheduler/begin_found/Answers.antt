use Rattle.std.proofs.Common.{rules, cond, ◌≡◌, Bool, true, false, Some, None, refl, sym, ap, subst, ◌∙◌}
use Rattle.calvin_types.specs.Participants.{site, is_active}
use Rattle.calvin_types.specs.Deeds.{Did}
use Rattle.calvin_sched.specs.Keeping.{scheduling_of, IsScheduler}
use Rattle.calvin_sched.specs.Scheduling.{turn_at, is_finished, with_turn}
use Rattle.calvin_sched.specs.Steps.{begun_turn, silently, is_ready}
use Rattle.calvin_sched.proofs.Begins.{it_begins}
use Rattle.calvin_sched.proofs.Keepers.{kept_turn, turn_kept}
use Rattle.calvin_sched.specs.Progress.{left}
use Rattle.calvin_sched.specs.declared.phase.Phase.TheVariants.{Begun, Done}
use Rattle.calvin_sched.proofs.Progresses.{progress_stepped, progress_ended, left_stepped, left_ended, left_again}
use Rattle.calvin_sched.proofs.ReadyHere.{ready_of}
use Rattle.calvin_sched.proofs.Steps.{after_is, keeps_active, keeps_passive, if_ok}
use Rattle.calvin_sched.proofs.scheduler.Scheduler.begin_found.Goals as goal

pub invariant_of-self : goal.invariant_of-self
invariant_of-self g c =
    let here = site c.self.inside.config.partitions c.self.inside.partition in
    let s = scheduling_of c.self.inside.opened c.self.inside.last c.self.inside.turns.kept (g.S.Rows.store c.self.inside.rows) in
    let told = c.in_ok-is_active.ensures.ok in
    let kept = kept_turn c.self.inside.turns.kept c.args.place told.0 (ap (λ v. turn_at v.scheduling c.args.place) c.self.view_is ∙ told.1) in
    let begun = c.begin.ensures.some kept.0 kept.1 in
    let waits = ap (λ y. y.phase) kept.2 ∙ told.2 in
    let ready = ap (λ y. is_ready here s c.args.place y.request) kept.2 ∙ ap (λ v. is_ready v.here v.scheduling c.args.place told.0.request) c.self.view_is ∙ told.3 in
    let active = ap (λ y. is_active here y.request) kept.2 ∙ ap (λ v. is_active v.here told.0.request) c.self.view_is ∙ sym told.4 in
    let locked = (ready_of here s c.self.inside.turns.kept (g.L.Locks.kept c.self.inside.locks) c.self.invariant.0 c.args.place kept.0.turn (turn_kept c.self.inside.turns.kept c.args.place kept.0 kept.1) (ap is_finished waits)).1 ready in
    let released = if_ok c.release-released.result (c.release-released.ensures.held.1 locked) c.release-released.ensures.ok in (
      subst (λ l. IsScheduler here (scheduling_of c.self.inside.opened c.self.inside.last c.begin.new.self.kept (g.S.Rows.store c.self.inside.rows)) c.begin.new.self.kept l) (sym released)
          (keeps_passive here c.self.inside.opened c.self.inside.last c.self.inside.turns.kept (g.S.Rows.store c.self.inside.rows) (g.L.Locks.kept c.self.inside.locks) c.self.invariant.0 c.args.place kept.0 kept.1
          waits c.begin.new.self.kept (ap (λ t. t.kept) begun) (active ∙ c.if-not-is_active.true)),
      progress_ended c.self.inside.opened c.self.inside.last c.self.inside.turns.kept c.self.inside.progress.merged c.self.inside.progress.done c.self.inside.progress.due.items c.self.invariant.1 c.args.place (record { turn = begun_turn here s.store.map kept.0.turn; room = kept.0.room }) c.begin.new.self.kept (ap (λ t. t.kept) begun) kept.0 kept.1
          (ap (λ b. is_finished (cond b Begun Done)) (active ∙ c.if-not-is_active.true)) c.finish.new.self.merged c.finish.new.self.done c.finish.new.self.due.items c.finish.ensures.merged c.finish.ensures.done c.finish.ensures.due,
      c.finish.ensures.reserved,
    )

pub invariant_of-self-else-not-is_active : goal.invariant_of-self-else-not-is_active
invariant_of-self-else-not-is_active g c =
    let here = site c.self.inside.config.partitions c.self.inside.partition in
    let s = scheduling_of c.self.inside.opened c.self.inside.last c.self.inside.turns.kept (g.S.Rows.store c.self.inside.rows) in
    let told = c.in_ok-is_active.ensures.ok in
    let kept = kept_turn c.self.inside.turns.kept c.args.place told.0 (ap (λ v. turn_at v.scheduling c.args.place) c.self.view_is ∙ told.1) in
    let begun = c.begin.ensures.some kept.0 kept.1 in
    let waits = ap (λ y. y.phase) kept.2 ∙ told.2 in
    let ready = ap (λ y. is_ready here s c.args.place y.request) kept.2 ∙ ap (λ v. is_ready v.here v.scheduling c.args.place told.0.request) c.self.view_is ∙ told.3 in
    let active = ap (λ y. is_active here y.request) kept.2 ∙ ap (λ v. is_active v.here told.0.request) c.self.view_is ∙ sym told.4 in (
      keeps_active here c.self.inside.opened c.self.inside.last c.self.inside.turns.kept (g.S.Rows.store c.self.inside.rows) (g.L.Locks.kept c.self.inside.locks) c.self.invariant.0 c.args.place kept.0 kept.1
          waits c.begin.new.self.kept (ap (λ t. t.kept) begun) (active ∙ c.if-not-is_active.false) ready,
      progress_stepped c.self.inside.opened c.self.inside.last c.self.inside.turns.kept c.self.inside.progress.merged c.self.inside.progress.done c.self.inside.progress.due.items c.self.invariant.1 c.args.place (record { turn = begun_turn here s.store.map kept.0.turn; room = kept.0.room }) c.begin.new.self.kept (ap (λ t. t.kept) begun) kept.0 kept.1
          (ap (λ b. is_finished (cond b Begun Done)) (active ∙ c.if-not-is_active.false) ∙ sym (ap is_finished waits)),
      c.self.invariant.2,
    )

pub returns-then-not-is_active-clause-did : goal.returns-then-not-is_active-clause-did
returns-then-not-is_active-clause-did g c =
    let here = site c.self.inside.config.partitions c.self.inside.partition in
    let s = scheduling_of c.self.inside.opened c.self.inside.last c.self.inside.turns.kept (g.S.Rows.store c.self.inside.rows) in
    let told = c.in_ok-is_active.ensures.ok in
    let kept = kept_turn c.self.inside.turns.kept c.args.place told.0 (ap (λ v. turn_at v.scheduling c.args.place) c.self.view_is ∙ told.1) in
    let begun = c.begin.ensures.some kept.0 kept.1 in
    let x = told.0 in
    let after = after_is here c.self.inside.opened c.self.inside.last c.self.inside.turns.kept (g.S.Rows.store c.self.inside.rows) (g.L.Locks.kept c.self.inside.locks) c.self.invariant.0 c.args.place kept.0 kept.1
    (record { turn = begun_turn here s.store.map kept.0.turn; room = kept.0.room }) c.begin.new.self.kept (ap (λ t. t.kept) begun) in
    let new = after ∙ ap (λ y. with_turn s c.args.place (begun_turn here s.store.map y)) kept.2 ∙ ap (λ v. with_turn v.scheduling c.args.place (begun_turn v.here v.scheduling.store.map x)) c.self.view_is in
    subst (λ d. Did false (Rattle.std.proofs.Common.Ok tt) (silently d) c.args.self.now.scheduling (scheduling_of c.self.inside.opened c.self.inside.last c.begin.new.self.kept (g.S.Rows.store c.self.inside.rows))) (sym (it_begins c.args.self.now.here c.args.self.now.scheduling c.args.place x told.1 told.2 told.3)) (
      refl,
      new,
    )

pub returns-else-not-is_active-clause-did : goal.returns-else-not-is_active-clause-did
returns-else-not-is_active-clause-did g c =
    let here = site c.self.inside.config.partitions c.self.inside.partition in
    let s = scheduling_of c.self.inside.opened c.self.inside.last c.self.inside.turns.kept (g.S.Rows.store c.self.inside.rows) in
    let told = c.in_ok-is_active.ensures.ok in
    let kept = kept_turn c.self.inside.turns.kept c.args.place told.0 (ap (λ v. turn_at v.scheduling c.args.place) c.self.view_is ∙ told.1) in
    let begun = c.begin.ensures.some kept.0 kept.1 in
    let x = told.0 in
    let after = after_is here c.self.inside.opened c.self.inside.last c.self.inside.turns.kept (g.S.Rows.store c.self.inside.rows) (g.L.Locks.kept c.self.inside.locks) c.self.invariant.0 c.args.place kept.0 kept.1
    (record { turn = begun_turn here s.store.map kept.0.turn; room = kept.0.room }) c.begin.new.self.kept (ap (λ t. t.kept) begun) in
    let new = after ∙ ap (λ y. with_turn s c.args.place (begun_turn here s.store.map y)) kept.2 ∙ ap (λ v. with_turn v.scheduling c.args.place (begun_turn v.here v.scheduling.store.map x)) c.self.view_is in
    subst (λ d. Did false (Rattle.std.proofs.Common.Ok tt) (silently d) c.args.self.now.scheduling (scheduling_of c.self.inside.opened c.self.inside.last c.begin.new.self.kept (g.S.Rows.store c.self.inside.rows))) (sym (it_begins c.args.self.now.here c.args.self.now.scheduling c.args.place x told.1 told.2 told.3)) (
      refl,
      new,
    )

pub returns-in_err-is_active-clause-due : goal.returns-in_err-is_active-clause-due
returns-in_err-is_active-clause-due g c =
    let s = scheduling_of c.self.inside.opened c.self.inside.last c.self.inside.turns.kept (g.S.Rows.store c.self.inside.rows) in
    subst (λ v. v.due ≡ left v.scheduling v.due) c.self.view_is (left_again s c.self.inside.progress.due.items)

pub returns-then-not-is_active-clause-due : goal.returns-then-not-is_active-clause-due
returns-then-not-is_active-clause-due g c =
    let here = site c.self.inside.config.partitions c.self.inside.partition in
    let store = g.S.Rows.store c.self.inside.rows in
    let s = scheduling_of c.self.inside.opened c.self.inside.last c.self.inside.turns.kept store in
    let told = c.in_ok-is_active.ensures.ok in
    let kept = kept_turn c.self.inside.turns.kept c.args.place told.0 (ap (λ v. turn_at v.scheduling c.args.place) c.self.view_is ∙ told.1) in
    let begun = c.begin.ensures.some kept.0 kept.1 in
    let waits = ap (λ y. y.phase) kept.2 ∙ told.2 in
    let active = ap (λ y. is_active here y.request) kept.2 ∙ ap (λ v. is_active v.here told.0.request) c.self.view_is ∙ sym told.4 in
    let new = scheduling_of c.self.inside.opened c.self.inside.last c.begin.new.self.kept store in
    let was : left new (left s c.self.inside.progress.due.items) ≡ left new c.args.self.now.due = ap (λ v. left new v.due) c.self.view_is in
    left_ended c.self.inside.opened c.self.inside.last c.self.inside.turns.kept c.self.inside.progress.merged c.self.inside.progress.done c.self.inside.progress.due.items c.self.invariant.1 c.args.place (record { turn = begun_turn here s.store.map kept.0.turn; room = kept.0.room }) c.begin.new.self.kept (ap (λ t. t.kept) begun) kept.0 kept.1
    (ap (λ b. is_finished (cond b Begun Done)) (active ∙ c.if-not-is_active.true)) c.finish.new.self.merged c.finish.new.self.done c.finish.new.self.due.items c.finish.ensures.merged c.finish.ensures.done c.finish.ensures.due store store
    ∙ was

pub returns-else-not-is_active-clause-due : goal.returns-else-not-is_active-clause-due
returns-else-not-is_active-clause-due g c =
    let here = site c.self.inside.config.partitions c.self.inside.partition in
    let store = g.S.Rows.store c.self.inside.rows in
    let s = scheduling_of c.self.inside.opened c.self.inside.last c.self.inside.turns.kept store in
    let told = c.in_ok-is_active.ensures.ok in
    let kept = kept_turn c.self.inside.turns.kept c.args.place told.0 (ap (λ v. turn_at v.scheduling c.args.place) c.self.view_is ∙ told.1) in
    let begun = c.begin.ensures.some kept.0 kept.1 in
    let waits = ap (λ y. y.phase) kept.2 ∙ told.2 in
    let active = ap (λ y. is_active here y.request) kept.2 ∙ ap (λ v. is_active v.here told.0.request) c.self.view_is ∙ sym told.4 in
    let new = scheduling_of c.self.inside.opened c.self.inside.last c.begin.new.self.kept store in
    let was : left new (left s c.self.inside.progress.due.items) ≡ left new c.args.self.now.due = ap (λ v. left new v.due) c.self.view_is in
    left_again new c.self.inside.progress.due.items
    ∙ ap (left new) (left_stepped c.self.inside.opened c.self.inside.last c.self.inside.turns.kept c.self.inside.progress.merged c.self.inside.progress.done c.self.inside.progress.due.items c.self.invariant.1 c.args.place (record { turn = begun_turn here s.store.map kept.0.turn; room = kept.0.room }) c.begin.new.self.kept (ap (λ t. t.kept) begun) kept.0 kept.1
    (ap (λ b. is_finished (cond b Begun Done)) (active ∙ c.if-not-is_active.false) ∙ sym (ap is_finished waits)) store)
    ∙ was
