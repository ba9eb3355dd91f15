use Rattle.std.proofs.Common.{◌≡◌, ◌<◌, suc, cond, ◌++◌, ◌&&◌, true, Ok, Err, refl, sym, subst, ap, length, ◌∙◌, arith}
use Rattle.std.proofs.lemmas.Bool.{eqb-true}
use Rattle.std.proofs.lemmas.Result.{err_from_is_err_and}
use Rattle.std.specs.List.{list_all, list_any}
use Rattle.std.specs.Prelude.{◌==◌}
use Rattle.calvin_types.specs.declared.fault.Fault.TheVariants as fault
use Rattle.calvin_types.specs.Deeds.{Does, Refuses, Did}
use Rattle.calvin_types.specs.Participants.{site, has_local_key}
use Rattle.calvin_order.specs.Configs.{merged, order_config, together}
use Rattle.calvin_order.proofs.Joining.{all_numbered, length-merged}
use Rattle.calvin_sched.specs.Keeping.{Scheduled, scheduling_of}
use Rattle.calvin_sched.specs.Progress.{left, merge}
use Rattle.calvin_sched.specs.Standing.{local_places}
use Rattle.calvin_sched.proofs.DueLists.{some_local}
use Rattle.calvin_sched.proofs.Progresses.{progress_merged, left_merged}
use Rattle.calvin_sched.proofs.scheduler.Scheduler.merged_batches.Goals as goal

pub reserve_for_walk-requires : goal.reserve_for_walk-requires
reserve_for_walk-requires g c =
    let config = order_config c.args.config.now in
    let B = g.B.BatchSource.assignment c.args.batches.now in
    let number = ap length c.new-requests.ensures ∙ length-merged config B c.args.epoch in
    (omega arith, (c.self.invariant.2, omega (arith, number, c.count_requests-most.ensures.count)))

pub invariant_of-self-2 : goal.invariant_of-self-2
invariant_of-self-2 g c =
    let s = c.self.inside in
    let here = site s.config.partitions s.partition in
    let config = order_config c.args.config.now in
    let B = g.B.BatchSource.assignment c.args.batches.now in
    let es = merged config B c.args.epoch in
    let at = eqb-true c.args.epoch s.progress.merged (sym c.is_at.ensures ∙ c.if-not-is_at.false) in
    let due = c.merge_walk.ensures.due ∙ ap (λ l. l ++ local_places here c.new-requests-2.result) c.in_ok-reserve_for_walk.ensures.due ∙ ap (λ o. s.progress.due.items ++ local_places here o) c.new-requests-2.ensures in (
      c.self.invariant.0,
      progress_merged s.opened s.last s.turns.kept s.progress.merged s.progress.done s.progress.due.items c.self.invariant.1 here es c.args.epoch
          at c.ranges.epoch.fits (all_numbered c.args.epoch 0 (together config B c.args.epoch)) c.skip_done.new.self.merged c.skip_done.new.self.done c.merge_walk.new.self.due.items c.skip_done.new.self.due.items
          (c.skip_done.ensures.merged ∙ c.merge_walk.ensures.merged) (c.skip_done.ensures.done ∙ c.merge_walk.ensures.done ∙ c.in_ok-reserve_for_walk.ensures.done)
          due c.skip_done.ensures.due,
      c.skip_done.ensures.reserved,
    )

pub returns-in_err-reserve_for_walk : goal.returns-in_err-reserve_for_walk
returns-in_err-reserve_for_walk g c =
    let here = site c.self.inside.config.partitions c.self.inside.partition in
    let s = scheduling_of c.self.inside.opened c.self.inside.last c.self.inside.turns.kept (g.S.Rows.store c.self.inside.rows) in
    let n = c.self.inside.progress.merged in
    let config = order_config c.args.config.now in
    let B = g.B.BatchSource.assignment c.args.batches.now in
    let es = merged config B c.args.epoch in
    let old : Scheduled g.row.A-Args.Denot g.row.A-Row.Denot = record { here = here; scheduling = s; room = g.S.Rows.room c.self.inside.rows; merged = n; due = left s c.self.inside.progress.due.items; due_room = c.self.inside.progress.room } in
    let new : Scheduled g.row.A-Args.Denot g.row.A-Row.Denot = record { here = here; scheduling = s; room = g.S.Rows.room c.self.inside.rows; merged = c.reserve_for_walk.new.self.merged; due = left s c.reserve_for_walk.new.self.due.items; due_room = c.reserve_for_walk.new.self.room } in
    let p = err_from_is_err_and c.from_residual.result c.from_residual.ensures.1 in
    let refused = c.in_err-reserve_for_walk.ensures in
    let same : new ≡ old = λ i. record { here = here; scheduling = s; room = g.S.Rows.room c.self.inside.rows; merged = refused.merged i; due = ap (left s) refused.due i; due_room = refused.err i } in
    let next : ((c.args.epoch == n) && list_all (λ e. e.0.epoch == c.args.epoch) es) ≡ true = λ i. (sym c.is_at.ensures ∙ c.if-not-is_at.false) i && all_numbered c.args.epoch 0 (together config B c.args.epoch) i in
    let wanted = subst (λ o. c.self.inside.progress.room < length (local_places here o)) c.new-requests.ensures refused.refused.1 in
    record {
      did = subst (λ v. Did (list_any (λ e. has_local_key v.here e.1) es) c.from_residual.result (merge c.args.epoch es v) v new) c.self.view_is
          (subst (λ r. Did (list_any (λ e. has_local_key here e.1) es) r (merge c.args.epoch es old) old new) (sym p.1)
          (subst (λ b. Did (list_any (λ e. has_local_key here e.1) es) (Err p.0) (cond b (Does (record old { merged = suc n; due = old.due ++ left s (local_places here es); due_room = 0 }) tt) (Refuses fault.AdmittedOutOfOrder)) old new) (sym next)
          (some_local here es (omega (arith, wanted)), p.2 ∙ refused.refused.0, same)));
    }

pub returns : goal.returns
returns g c =
    let here = site c.self.inside.config.partitions c.self.inside.partition in
    let store = g.S.Rows.store c.self.inside.rows in
    let s = scheduling_of c.self.inside.opened c.self.inside.last c.self.inside.turns.kept store in
    let n = c.self.inside.progress.merged in
    let config = order_config c.args.config.now in
    let B = g.B.BatchSource.assignment c.args.batches.now in
    let es = merged config B c.args.epoch in
    let all = all_numbered c.args.epoch 0 (together config B c.args.epoch) in
    let old : Scheduled g.row.A-Args.Denot g.row.A-Row.Denot = record { here = here; scheduling = s; room = g.S.Rows.room c.self.inside.rows; merged = n; due = left s c.self.inside.progress.due.items; due_room = c.self.inside.progress.room } in
    let new : Scheduled g.row.A-Args.Denot g.row.A-Row.Denot = record { here = here; scheduling = s; room = g.S.Rows.room c.self.inside.rows; merged = c.skip_done.new.self.merged; due = left s c.skip_done.new.self.due.items; due_room = c.skip_done.new.self.room } in
    let at = eqb-true c.args.epoch n (sym c.is_at.ensures ∙ c.if-not-is_at.false) in
    let next : ((c.args.epoch == n) && list_all (λ e. e.0.epoch == c.args.epoch) es) ≡ true = λ i. (sym c.is_at.ensures ∙ c.if-not-is_at.false) i && all i in
    let count : c.skip_done.new.self.merged ≡ suc n = omega (arith, c.skip_done.ensures.merged, c.merge_walk.ensures.merged, at) in
    let placed = c.merge_walk.ensures.due ∙ ap (λ l. l ++ local_places here c.new-requests-2.result) c.in_ok-reserve_for_walk.ensures.due ∙ ap (λ o. c.self.inside.progress.due.items ++ local_places here o) c.new-requests-2.ensures in
    let due = left_merged c.self.inside.opened c.self.inside.last c.self.inside.turns.kept n c.self.inside.progress.done c.self.inside.progress.due.items c.self.invariant.1 here es c.args.epoch
    at c.ranges.epoch.fits all c.skip_done.new.self.merged c.skip_done.new.self.done c.merge_walk.new.self.due.items c.skip_done.new.self.due.items
    (c.skip_done.ensures.merged ∙ c.merge_walk.ensures.merged) (c.skip_done.ensures.done ∙ c.merge_walk.ensures.done ∙ c.in_ok-reserve_for_walk.ensures.done)
    placed c.skip_done.ensures.due store in
    let grown : new ≡ record old { merged = suc n; due = old.due ++ left s (local_places here es); due_room = 0 } = λ i. record { here = here; scheduling = s; room = g.S.Rows.room c.self.inside.rows; merged = count i; due = due i; due_room = (c.skip_done.ensures.room ∙ c.merge_walk.ensures.room) i } in
    record {
      did = subst (λ v. Did (list_any (λ e. has_local_key v.here e.1) es) (Ok tt) (merge c.args.epoch es v) v new) c.self.view_is
          (subst (λ b. Did (list_any (λ e. has_local_key here e.1) es) (Ok tt) (cond b (Does (record old { merged = suc n; due = old.due ++ left s (local_places here es); due_room = 0 }) tt) (Refuses fault.AdmittedOutOfOrder)) old new) (sym next)
          (refl, grown));
    }
