use Rattle.std.proofs.Common.{◌≡◌, suc, cond, ◌++◌, Ok, Err, refl, sym, subst, ap, ◌∙◌, arith}
use Rattle.std.proofs.lemmas.Bool.{and_parts, eqb-true}
use Rattle.std.proofs.lemmas.Result.{err_from_is_err_and}
use Rattle.std.specs.List.{list_any}
use Rattle.calvin_types.specs.declared.fault.Fault.TheVariants as fault
use Rattle.calvin_types.specs.Deeds.{Does, Refuses, Did}
use Rattle.calvin_types.specs.Participants.{site, has_local_key}
use Rattle.calvin_sched.specs.Keeping.{Scheduled, scheduling_of}
use Rattle.calvin_sched.specs.Progress.{left, merge}
use Rattle.calvin_sched.specs.Standing.{local_places}
use Rattle.calvin_sched.proofs.DueLists.{some_local}
use Rattle.calvin_sched.proofs.Progresses.{progress_merged, left_merged}
use Rattle.calvin_sched.proofs.scheduler.Scheduler.merged.Goals as goal

pub invariant_of-self-2 : goal.invariant_of-self-2
invariant_of-self-2 g c =
    let here = site c.self.inside.config.partitions c.self.inside.partition in
    let next = and_parts _ _ (sym c.is_next.ensures ∙ c.if-not-is_next.false) in (
      c.self.invariant.0,
      progress_merged c.self.inside.opened c.self.inside.last c.self.inside.turns.kept c.self.inside.progress.merged c.self.inside.progress.done c.self.inside.progress.due.items c.self.invariant.1 here c.args.entries.now c.args.epoch
          (eqb-true c.args.epoch c.self.inside.progress.merged next.0) c.ranges.epoch.fits next.1 c.skip_done.new.self.merged c.skip_done.new.self.done c.merge.new.self.due.items c.skip_done.new.self.due.items
          (c.skip_done.ensures.merged ∙ c.merge.ensures.merged) (c.skip_done.ensures.done ∙ c.merge.ensures.done ∙ c.in_ok-reserve_for_all.ensures.done)
          (c.merge.ensures.due ∙ ap (λ l. l ++ local_places here c.args.entries.now) c.in_ok-reserve_for_all.ensures.due) c.skip_done.ensures.due,
      c.skip_done.ensures.reserved,
    )

pub returns-in_err-reserve_for_all-clause-did : goal.returns-in_err-reserve_for_all-clause-did
returns-in_err-reserve_for_all-clause-did g c =
    let here = site c.self.inside.config.partitions c.self.inside.partition in
    let s = scheduling_of c.self.inside.opened c.self.inside.last c.self.inside.turns.kept (g.S.Rows.store c.self.inside.rows) in
    let n = c.self.inside.progress.merged in
    let es = c.args.entries.now in
    let old : Scheduled g.row.A-Args.Denot g.row.A-Row.Denot = record { here = here; scheduling = s; room = g.S.Rows.room c.self.inside.rows; merged = n; due = left s c.self.inside.progress.due.items; due_room = c.self.inside.progress.room } in
    let new : Scheduled g.row.A-Args.Denot g.row.A-Row.Denot = record { here = here; scheduling = s; room = g.S.Rows.room c.self.inside.rows; merged = c.reserve_for_all.new.self.merged; due = left s c.reserve_for_all.new.self.due.items; due_room = c.reserve_for_all.new.self.room } in
    let p = err_from_is_err_and c.from_residual.result c.from_residual.ensures.1 in
    let same : new ≡ old = λ i. record { here = here; scheduling = s; room = g.S.Rows.room c.self.inside.rows; merged = c.in_err-reserve_for_all.ensures.merged i; due = ap (left s) c.in_err-reserve_for_all.ensures.due i; due_room = c.in_err-reserve_for_all.ensures.err i } in
    subst (λ v. Did (list_any (λ e. has_local_key v.here e.1) es) c.from_residual.result (merge c.args.epoch es v) v new) c.self.view_is
    (subst (λ r. Did (list_any (λ e. has_local_key here e.1) es) r (merge c.args.epoch es old) old new) (sym p.1)
    (subst (λ b. Did (list_any (λ e. has_local_key here e.1) es) (Err p.0) (cond b (Does (record old { merged = suc n; due = old.due ++ left s (local_places here es); due_room = 0 }) tt) (Refuses fault.AdmittedOutOfOrder)) old new) (sym (sym c.is_next.ensures ∙ c.if-not-is_next.false))
    (some_local here es (omega (arith, c.in_err-reserve_for_all.ensures.refused.1)), p.2 ∙ c.in_err-reserve_for_all.ensures.refused.0, same)))

pub returns-clause-did : goal.returns-clause-did
returns-clause-did g c =
    let here = site c.self.inside.config.partitions c.self.inside.partition in
    let store = g.S.Rows.store c.self.inside.rows in
    let s = scheduling_of c.self.inside.opened c.self.inside.last c.self.inside.turns.kept store in
    let n = c.self.inside.progress.merged in
    let es = c.args.entries.now in
    let old : Scheduled g.row.A-Args.Denot g.row.A-Row.Denot = record { here = here; scheduling = s; room = g.S.Rows.room c.self.inside.rows; merged = n; due = left s c.self.inside.progress.due.items; due_room = c.self.inside.progress.room } in
    let new : Scheduled g.row.A-Args.Denot g.row.A-Row.Denot = record { here = here; scheduling = s; room = g.S.Rows.room c.self.inside.rows; merged = c.skip_done.new.self.merged; due = left s c.skip_done.new.self.due.items; due_room = c.skip_done.new.self.room } in
    let next = and_parts _ _ (sym c.is_next.ensures ∙ c.if-not-is_next.false) in
    let count : c.skip_done.new.self.merged ≡ suc n = omega (arith, c.skip_done.ensures.merged, c.merge.ensures.merged, eqb-true c.args.epoch n next.0) in
    let due = left_merged c.self.inside.opened c.self.inside.last c.self.inside.turns.kept n c.self.inside.progress.done c.self.inside.progress.due.items c.self.invariant.1 here es c.args.epoch
    (eqb-true c.args.epoch n next.0) c.ranges.epoch.fits next.1 c.skip_done.new.self.merged c.skip_done.new.self.done c.merge.new.self.due.items c.skip_done.new.self.due.items
    (c.skip_done.ensures.merged ∙ c.merge.ensures.merged) (c.skip_done.ensures.done ∙ c.merge.ensures.done ∙ c.in_ok-reserve_for_all.ensures.done)
    (c.merge.ensures.due ∙ ap (λ l. l ++ local_places here es) c.in_ok-reserve_for_all.ensures.due) c.skip_done.ensures.due store in
    let grown : new ≡ record old { merged = suc n; due = old.due ++ left s (local_places here es); due_room = 0 } = λ i. record { here = here; scheduling = s; room = g.S.Rows.room c.self.inside.rows; merged = count i; due = due i; due_room = (c.skip_done.ensures.room ∙ c.merge.ensures.room) i } in
    subst (λ v. Did (list_any (λ e. has_local_key v.here e.1) es) (Ok tt) (merge c.args.epoch es v) v new) c.self.view_is
    (subst (λ b. Did (list_any (λ e. has_local_key here e.1) es) (Ok tt) (cond b (Does (record old { merged = suc n; due = old.due ++ left s (local_places here es); due_room = 0 }) tt) (Refuses fault.AdmittedOutOfOrder)) old new) (sym (sym c.is_next.ensures ∙ c.if-not-is_next.false))
    (refl, grown))
