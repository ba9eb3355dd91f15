use Rattle.std.proofs.Common.{◌≡◌, ◌+◌, ◌&&◌, true, false, cond, Err, refl, sym, ap, subst, ◌∙◌}
use Rattle.std.specs.Prelude.{nat_le}
use Rattle.calvin_types.specs.declared.fault.Fault.TheVariants as fault
use Rattle.calvin_types.specs.Deeds.{Refuses, Did}
use Rattle.calvin_order.specs.Merged.{end_of}
use Rattle.calvin_store.specs.Points.{mark_at}
use Rattle.calvin_sched.specs.Keeping.{scheduling_of}
use Rattle.calvin_sched.specs.Scheduling.{with_store}
use Rattle.calvin_sched.specs.Standing as standing
use Rattle.calvin_sched.proofs.Standings.{none_later_is}
use Rattle.calvin_sched.proofs.Stores.{done_in_store}
use Rattle.calvin_sched.proofs.scheduler.Scheduler.mark.Goals as goal

pub returns-then-not-is_done_no_further-clause-did : goal.returns-then-not-is_done_no_further-clause-did
returns-then-not-is_done_no_further-clause-did g c =
    let p = c.self.inside in
    let n = c.args.epoch + 1 in
    let s = scheduling_of p.opened p.last p.turns.kept (g.S.Rows.store p.rows) in
    let further : (nat_le p.opened n && nat_le p.progress.done n) ≡ false = ap (λ e. nat_le p.opened (e + 1) && nat_le p.progress.done (e + 1)) (sym c.from-end.ensures) ∙ sym c.is_done_no_further.ensures ∙ c.if-not-is_done_no_further.true in
    let late = none_later_is p.opened p.last p.turns.kept (g.S.Rows.store p.rows) p.progress.merged p.progress.done p.progress.due.items c.self.invariant.1 n ∙ further in
    subst (λ v. Did {Out = Unit {0}} false (Err fault.PointTooLate) (standing.mark g.S.Rows.points n v.scheduling) v.scheduling v.scheduling) c.self.view_is
    (subst (λ b. Did {Out = Unit {0}} false (Err fault.PointTooLate) (cond b (standing.by_store s (mark_at g.S.Rows.points (end_of n) s.store)) (Refuses fault.PointTooLate)) s s) (sym late) (refl, refl))

pub returns-clause-did : goal.returns-clause-did
returns-clause-did g c =
    let p = c.self.inside in
    let n = c.args.epoch + 1 in
    let s = scheduling_of p.opened p.last p.turns.kept (g.S.Rows.store p.rows) in
    let further : (nat_le p.opened n && nat_le p.progress.done n) ≡ true = ap (λ e. nat_le p.opened (e + 1) && nat_le p.progress.done (e + 1)) (sym c.from-end.ensures) ∙ sym c.is_done_no_further.ensures ∙ c.if-not-is_done_no_further.false in
    let none = none_later_is p.opened p.last p.turns.kept (g.S.Rows.store p.rows) p.progress.merged p.progress.done p.progress.due.items c.self.invariant.1 n ∙ further in
    subst (λ v. Did false c.mark.result (standing.mark g.S.Rows.points n v.scheduling) v.scheduling (with_store s (g.S.Rows.store c.mark.new.self))) c.self.view_is
    (subst (λ b. Did false c.mark.result (cond b (standing.by_store s (mark_at g.S.Rows.points (end_of n) s.store)) (Refuses fault.PointTooLate)) s (with_store s (g.S.Rows.store c.mark.new.self))) (sym none)
    (done_in_store false c.mark.result (mark_at g.S.Rows.points (end_of n) s.store) s (g.S.Rows.store c.mark.new.self) c.mark.ensures.did))
