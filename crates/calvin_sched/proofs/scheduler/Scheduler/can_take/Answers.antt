use Rattle.std.proofs.Common.{◌≡◌, ◌+◌, ◌&&◌, true, false, sym, ap, subst, ◌∙◌}
use Rattle.std.specs.Prelude.{nat_le}
use Rattle.calvin_types.specs.declared.fault.Fault.TheVariants as fault
use Rattle.calvin_types.specs.Deeds.{Refuses}
use Rattle.calvin_sched.specs.Keeping.{takes_effect, is_point_at, scheduling_of}
use Rattle.calvin_sched.specs.Progress.{left, end_of_due}
use Rattle.calvin_sched.specs.Standing.{take_rows}
use Rattle.calvin_sched.proofs.Taken.{refused_of, taken_of, not_yet, at_point, at_end, not_at_end}
use Rattle.calvin_sched.proofs.Readiness.{both_true}
use Rattle.calvin_sched.proofs.scheduler.Scheduler.can_take.Goals as goal

pub returns-then-not-is_done_up_to-clause-refused : goal.returns-then-not-is_done_up_to-clause-refused
returns-then-not-is_done_up_to-clause-refused g c =
    let p = c.self.inside in
    let n = c.args.epoch + 1 in
    let s = scheduling_of p.opened p.last p.turns.kept (g.S.Rows.store p.rows) in
    let upto : nat_le n (end_of_due p.progress.merged p.progress.due.items) ≡ false = ap (λ e. nat_le (e + 1) (end_of_due p.progress.merged p.progress.due.items)) (sym c.from-end.ensures) ∙ sym c.is_done_up_to.ensures ∙ c.if-not-is_done_up_to.true in
    subst (λ v. take_rows v.merged v.due n v.scheduling ≡ Refuses fault.NotAtEnd) c.self.view_is
    (refused_of p.progress.merged (left s p.progress.due.items) n s (not_yet p.opened p.last p.turns.kept (g.S.Rows.store p.rows) p.progress.merged p.progress.done p.progress.due.items c.self.invariant.1 n upto))

pub returns-then-is_marked_at-clause-ok : goal.returns-then-is_marked_at-clause-ok
returns-then-is_marked_at-clause-ok g c =
    let p = c.self.inside in
    let n = c.args.epoch + 1 in
    let s = scheduling_of p.opened p.last p.turns.kept (g.S.Rows.store p.rows) in
    let upto : nat_le n (end_of_due p.progress.merged p.progress.due.items) ≡ true = ap (λ e. nat_le (e + 1) (end_of_due p.progress.merged p.progress.due.items)) (sym c.from-end.ensures) ∙ sym c.is_done_up_to.ensures ∙ c.if-not-is_done_up_to.false in
    let marked = ap (λ v. is_point_at n v.scheduling.store.point) c.self.view_is ∙ sym c.is_marked_at.ensures ∙ c.if-is_marked_at.true in
    subst (λ v. takes_effect (take_rows v.merged v.due n v.scheduling) ≡ true) c.self.view_is
    (taken_of p.progress.merged (left s p.progress.due.items) n s (at_point p.opened p.last p.turns.kept (g.S.Rows.store p.rows) p.progress.merged p.progress.done p.progress.due.items c.self.invariant.1 n marked upto))

pub returns-then-not-is_done_no_further-clause-refused : goal.returns-then-not-is_done_no_further-clause-refused
returns-then-not-is_done_no_further-clause-refused g c =
    let p = c.self.inside in
    let n = c.args.epoch + 1 in
    let s = scheduling_of p.opened p.last p.turns.kept (g.S.Rows.store p.rows) in
    let marked = ap (λ v. is_point_at n v.scheduling.store.point) c.self.view_is ∙ sym c.is_marked_at.ensures ∙ c.if-is_marked_at.false in
    let further : (nat_le p.opened n && nat_le p.progress.done n) ≡ false = ap (λ e. nat_le p.opened (e + 1) && nat_le p.progress.done (e + 1)) (sym c.from-end.ensures) ∙ sym c.is_done_no_further.ensures ∙ c.if-not-is_done_no_further.true in
    subst (λ v. take_rows v.merged v.due n v.scheduling ≡ Refuses fault.NotAtEnd) c.self.view_is
    (refused_of p.progress.merged (left s p.progress.due.items) n s (not_at_end p.opened p.last p.turns.kept (g.S.Rows.store p.rows) p.progress.merged p.progress.done p.progress.due.items c.self.invariant.1 n marked further))

pub returns-clause-ok : goal.returns-clause-ok
returns-clause-ok g c =
    let p = c.self.inside in
    let n = c.args.epoch + 1 in
    let s = scheduling_of p.opened p.last p.turns.kept (g.S.Rows.store p.rows) in
    let upto : nat_le n (end_of_due p.progress.merged p.progress.due.items) ≡ true = ap (λ e. nat_le (e + 1) (end_of_due p.progress.merged p.progress.due.items)) (sym c.from-end.ensures) ∙ sym c.is_done_up_to.ensures ∙ c.if-not-is_done_up_to.false in
    let marked = ap (λ v. is_point_at n v.scheduling.store.point) c.self.view_is ∙ sym c.is_marked_at.ensures ∙ c.if-is_marked_at.false in
    let further : (nat_le p.opened n && nat_le p.progress.done n) ≡ true = ap (λ e. nat_le p.opened (e + 1) && nat_le p.progress.done (e + 1)) (sym c.from-end.ensures) ∙ sym c.is_done_no_further.ensures ∙ c.if-not-is_done_no_further.false in
    subst (λ v. takes_effect (take_rows v.merged v.due n v.scheduling) ≡ true) c.self.view_is
    (taken_of p.progress.merged (left s p.progress.due.items) n s (at_end p.opened p.last p.turns.kept (g.S.Rows.store p.rows) p.progress.merged p.progress.done p.progress.due.items c.self.invariant.1 n marked
    (both_true (nat_le n (end_of_due p.progress.merged p.progress.due.items)) (nat_le p.opened n && nat_le p.progress.done n) upto further)))
