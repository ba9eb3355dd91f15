use Rattle.calvin_lock.specs.Locking.{with_request}
use Rattle.std.proofs.Common.{◌≡◌, cond, length, ◌≤◌, Some, Ok, Err, inl, inr, refl, sym, ap, subst, ◌∙◌}
use Rattle.std.proofs.lemmas.Bool.{and_parts}
use Rattle.std.proofs.lemmas.Result.{err_from_is_err_and}
use Rattle.calvin_types.specs.declared.fault.Fault.TheVariants as fault
use Rattle.calvin_types.specs.Deeds.{Does, Refuses, Did}
use Rattle.calvin_sched.specs.Steps.{admitted}
use Rattle.std.specs.FinMap.{insert}
use Rattle.calvin_types.specs.Participants.{site, has_local_key, local_keys}
use Rattle.calvin_lock.proofs.LocalLocks.{some_local_key}
use Rattle.calvin_sched.specs.Keeping.{scheduling_of, turns_of, awaited}
use Rattle.calvin_sched.specs.Scheduling.{is_past, is_finished, with_turn, new_turn}
use Rattle.calvin_order.specs.Merged.{end_of}
use Rattle.calvin_sched.proofs.Keepers.{put_turn}
use Rattle.calvin_sched.specs.Seating.{IsPastAll}
use Rattle.calvin_sched.proofs.Progresses.{past_admitted, progress_admitted, left_admitted}
use Rattle.calvin_sched.proofs.Admitting.{admitted_keeps}
use Rattle.calvin_sched.proofs.scheduler.Scheduler.admit_shared.Goals as goal

pub returns-in_err-request-clause-did : goal.returns-in_err-request-clause-did
returns-in_err-request-clause-did g c =
    let here = site c.self.inside.config.partitions c.self.inside.partition in
    let next = (and_parts _ _ c.requires).0 in
    let past = c.self.invariant.0.asked c.args.place (ap (λ v. is_past v.scheduling.last c.args.place) c.self.view_is ∙ (and_parts _ _ next).0) in
    let local = ap (λ v. has_local_key v.here c.args.txn) c.self.view_is ∙ (and_parts _ _ c.requires).1 in
    let refused = c.in_err-request.ensures in
    let reads = c.part-reads.ensures ∙ ap (λ t. local_keys here t.sets.reads) c.get.ensures in
    let writes = c.part-writes.ensures ∙ ap (λ t. local_keys here t.sets.writes) c.get.ensures in
    let memory : c.in_err-request.field-0.0 ≡ fault.OutOfMemory = elim refused.only [
      | inl e ↦ absurd (refused.out_of_order.0 (ap Err e) past)
      | inr (inl e) ↦ let none = (refused.no_keys.0 (ap Err e)).1 in absurd (some_local_key here c.args.txn.sets.reads c.args.txn.sets.writes local (sym reads ∙ none.0, sym writes ∙ none.1))
      | inr (inr e) ↦ e
    ] in
    let p = err_from_is_err_and c.from_residual-in_err-request.result c.from_residual-in_err-request.ensures.1 in
    let same = ap (λ t. scheduling_of c.self.inside.opened c.self.inside.last t.kept (g.S.Rows.store c.self.inside.rows)) c.in_ok-reserve.ensures.ok ∙ ap (λ v. v.scheduling) c.self.view_is in
    let does = ap (λ b. cond b (Does (admitted c.args.self.now.here c.args.self.now.scheduling c.args.place c.args.txn) tt) (Refuses fault.AdmittedOutOfOrder)) next in
    subst (λ d. Did (has_local_key c.args.self.now.here c.args.txn) c.from_residual-in_err-request.result d c.args.self.now.scheduling (scheduling_of c.self.inside.opened c.self.inside.last c.reserve.new.self.kept (g.S.Rows.store c.self.inside.rows))) (sym does)
    (subst (λ r. Did (has_local_key c.args.self.now.here c.args.txn) r (Does (admitted c.args.self.now.here c.args.self.now.scheduling c.args.place c.args.txn) tt) c.args.self.now.scheduling (scheduling_of c.self.inside.opened c.self.inside.last c.reserve.new.self.kept (g.S.Rows.store c.self.inside.rows))) (sym p.1)
    (ap (λ v. has_local_key v.here c.args.txn) (sym c.self.view_is) ∙ local, p.2 ∙ memory, same))

pub returns-in_err-reserve-clause-did : goal.returns-in_err-reserve-clause-did
returns-in_err-reserve-clause-did g c =
    let p = err_from_is_err_and c.from_residual-in_err-reserve.result c.from_residual-in_err-reserve.ensures.1 in
    let same = ap (λ t. scheduling_of c.self.inside.opened c.self.inside.last t.kept (g.S.Rows.store c.self.inside.rows)) c.in_err-reserve.ensures.err ∙ ap (λ v. v.scheduling) c.self.view_is in
    let does = ap (λ b. cond b (Does (admitted c.args.self.now.here c.args.self.now.scheduling c.args.place c.args.txn) tt) (Refuses fault.AdmittedOutOfOrder)) (and_parts _ _ c.requires).0 in
    subst (λ d. Did (has_local_key c.args.self.now.here c.args.txn) c.from_residual-in_err-reserve.result d c.args.self.now.scheduling (scheduling_of c.self.inside.opened c.self.inside.last c.reserve.new.self.kept (g.S.Rows.store c.self.inside.rows))) (sym does)
    (subst (λ r. Did (has_local_key c.args.self.now.here c.args.txn) r (Does (admitted c.args.self.now.here c.args.self.now.scheduling c.args.place c.args.txn) tt) c.args.self.now.scheduling (scheduling_of c.self.inside.opened c.self.inside.last c.reserve.new.self.kept (g.S.Rows.store c.self.inside.rows))) (sym p.1)
    ((and_parts _ _ c.requires).1, p.2 ∙ c.in_err-reserve.ensures.only, same))

pub insert-requires-clause-past : goal.insert-requires-clause-past
insert-requires-clause-past g c =
    let kept = c.self.inside.turns.kept in
    subst (IsPastAll c.args.place) (sym (ap (λ t. t.kept) c.in_ok-reserve.ensures.ok))
    (past_admitted c.self.inside.opened c.self.inside.last kept c.self.inside.progress.merged c.self.inside.progress.done c.self.inside.progress.due.items c.self.invariant.1 c.args.place
    (ap (λ v. is_past v.scheduling.last c.args.place) c.self.view_is ∙ (and_parts _ _ (and_parts _ _ c.requires).0).0))

pub invariant_of-self-2 : goal.invariant_of-self-2
invariant_of-self-2 g c =
    let here = site c.self.inside.config.partitions c.self.inside.partition in
    let reads = c.part-reads.ensures ∙ ap (λ t. local_keys here t.sets.reads) c.get.ensures in
    let writes = c.part-writes.ensures ∙ ap (λ t. local_keys here t.sets.writes) c.get.ensures in (
      admitted_keeps (site c.self.inside.config.partitions c.self.inside.partition) c.self.inside.opened c.self.inside.last c.self.inside.turns.kept (g.S.Rows.store c.self.inside.rows) (g.L.Locks.kept c.self.inside.locks) c.self.invariant.0
          c.args.place c.args.txn c.in_ok-turn.turn
          (ap (λ v. is_past v.scheduling.last c.args.place) c.self.view_is ∙ (and_parts _ _ (and_parts _ _ c.requires).0).0)
          c.in_ok-turn.ensures.turn (subst (λ v. length (awaited v.here c.in_ok-turn.turn.turn) ≤ c.in_ok-turn.turn.room) (sym c.self.view_is) c.in_ok-turn.ensures.room) c.up_to_last.ensures c.insert.new.self.kept
          (ap (λ t. t.kept) c.insert.ensures ∙ ap (λ t. insert t.kept c.args.place c.in_ok-turn.turn) c.in_ok-reserve.ensures.ok)
          (g.L.Locks.kept c.request.new.self) (c.in_ok-request.ensures.ok ∙ (λ i. with_request c.args.place (record { reads = reads i; writes = writes i }) (g.L.Locks.kept c.self.inside.locks))),
      progress_admitted c.self.inside.opened c.self.inside.last c.self.inside.turns.kept c.self.inside.progress.merged c.self.inside.progress.done c.self.inside.progress.due.items c.self.invariant.1 c.args.place c.in_ok-turn.turn c.insert.new.self.kept
          (ap (λ t. t.kept) c.insert.ensures ∙ ap (λ t. insert t.kept c.args.place c.in_ok-turn.turn) c.in_ok-reserve.ensures.ok)
          (ap (λ v. is_past v.scheduling.last c.args.place) c.self.view_is ∙ (and_parts _ _ (and_parts _ _ c.requires).0).0) (ap (λ x. is_finished x.phase) c.in_ok-turn.ensures.turn),
      c.self.invariant.2,
    )

pub returns-clause-did : goal.returns-clause-did
returns-clause-did g c =
    let here = site c.self.inside.config.partitions c.self.inside.partition in
    let store = g.S.Rows.store c.self.inside.rows in
    let s = scheduling_of c.self.inside.opened c.self.inside.last c.self.inside.turns.kept store in
    let next = (and_parts _ _ c.requires).0 in
    let local = ap (λ v. has_local_key v.here c.args.txn) c.self.view_is ∙ (and_parts _ _ c.requires).1 in
    let put = ap (λ t. t.kept) c.insert.ensures ∙ ap (λ t. insert t.kept c.args.place c.in_ok-turn.turn) c.in_ok-reserve.ensures.ok in
    let turns = ap turns_of put ∙ put_turn c.self.inside.turns.kept c.args.place c.in_ok-turn.turn ∙ ap (insert (turns_of c.self.inside.turns.kept) c.args.place) c.in_ok-turn.ensures.turn in
    let waiting : scheduling_of c.self.inside.opened (Some c.args.place) c.insert.new.self.kept store ≡ record (with_turn s c.args.place (new_turn c.args.txn)) { last = Some c.args.place } = λ i. record { opened_from = end_of c.self.inside.opened; last = Some c.args.place; turns = turns i; store = store } in
    let asked = sym (ap (λ b. record (cond b (with_turn s c.args.place (new_turn c.args.txn)) s) { last = Some c.args.place }) local) in
    let new = waiting ∙ asked ∙ ap (λ v. admitted v.here v.scheduling c.args.place c.args.txn) c.self.view_is in
    let does = ap (λ b. cond b (Does (admitted c.args.self.now.here c.args.self.now.scheduling c.args.place c.args.txn) tt) (Refuses fault.AdmittedOutOfOrder)) next in
    subst (λ d. Did (has_local_key c.args.self.now.here c.args.txn) (Ok tt) d c.args.self.now.scheduling (scheduling_of c.self.inside.opened (Some c.args.place) c.insert.new.self.kept store)) (sym does) (refl, new)

pub returns-clause-rest : goal.returns-clause-rest
returns-clause-rest g c =
    let due = left_admitted c.self.inside.opened c.self.inside.last c.self.inside.turns.kept c.self.inside.progress.merged c.self.inside.progress.done c.self.inside.progress.due.items c.self.invariant.1 c.args.place c.in_ok-turn.turn c.insert.new.self.kept
    (ap (λ t. t.kept) c.insert.ensures ∙ ap (λ t. insert t.kept c.args.place c.in_ok-turn.turn) c.in_ok-reserve.ensures.ok)
    (ap (λ v. is_past v.scheduling.last c.args.place) c.self.view_is ∙ (and_parts _ _ (and_parts _ _ c.requires).0).0) (ap (λ x. is_finished x.phase) c.in_ok-turn.ensures.turn) (g.S.Rows.store c.self.inside.rows) ∙ ap (λ v. v.due) c.self.view_is in
    λ i. record {
      here = (c.self.view_is i).here;
      scheduling = scheduling_of c.self.inside.opened (Some c.args.place) c.insert.new.self.kept (g.S.Rows.store c.self.inside.rows);
      room = (c.self.view_is i).room;
      merged = (c.self.view_is i).merged;
      due = due i;
      due_room = (c.self.view_is i).due_room;
    }
