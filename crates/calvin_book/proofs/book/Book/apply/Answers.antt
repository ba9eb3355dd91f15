-- The event takes effect, and is the last one; or nothing changed.
use Rattle.std.proofs.Common.{ℕ, [], ◌∷◌, ◌++◌, Err, refl, sym, ap, subst, ◌∙◌}
use Rattle.std.proofs.lemmas.Result.{err_from_is_err_and}
use Rattle.calvin_book.specs.Books.{IsRefused}
use Rattle.calvin_book.proofs.Keeping.{on_err, same_err, why_refused, err_kept, err_view, ok_kept, ok_applied}
use Rattle.calvin_book.proofs.book.Book.apply.Goals as goal

pub invariant_of-self-in_err-step : goal.invariant_of-self-in_err-step
invariant_of-self-in_err-step g c =
    let p = c.self.inside in
    let m = g.A.App.meaning in
    err_kept m p.world p.events.items c.self.invariant.0 p.sent.items c.self.invariant.1 c.reserve.new.self.items c.reserve-2.new.self.items c.reserve.ensures.items c.reserve-2.ensures.items c.step.new.self
    c.in_err-step.ensures.err

pub returns-in_err-step-clause-err : goal.returns-in_err-step-clause-err
returns-in_err-step-clause-err g c =
    let p = c.self.inside in
    let m = g.A.App.meaning in
    on_err _
    (err_view m p.world p.events.items c.self.invariant.0 p.sent.items c.self.invariant.1 c.reserve.new.self.items c.reserve-2.new.self.items c.reserve.ensures.items c.reserve-2.ensures.items c.step.new.self
    c.in_err-step.ensures.err
    ∙ c.self.view_is) c.from_residual-in_err-step.result

pub returns-in_err-step-clause-only : goal.returns-in_err-step-clause-only
returns-in_err-step-clause-only g c = λ fault is.
    let p = c.self.inside in
    let m = g.A.App.meaning in
    let failed = err_from_is_err_and c.from_residual-in_err-step.result c.from_residual-in_err-step.ensures.1 in
    subst (λ f. IsRefused m c.args.self.now c.args.event.now f) (sym (same_err fault c.in_err-step.field-0.0 (sym is ∙ failed.1 ∙ ap Err failed.2)))
    (why_refused m p.world p.events.items c.self.invariant.0 c.args.event.now c.in_err-step.field-0.0 c.step.new.self c.in_err-step.ensures.step c.args.self.now c.self.view_is)

pub invariant_of-self-2 : goal.invariant_of-self-2
invariant_of-self-2 g c =
    let p = c.self.inside in
    ok_kept g.A.App.meaning p.world p.events.items c.self.invariant.0 p.sent.items c.self.invariant.1 c.reserve.new.self.items c.reserve-2.new.self.items c.reserve.ensures.items c.reserve-2.ensures.items c.step.new.self
    g.met.A.App.lawful.writes_within_the_sets c.args.event.now c.args.event.now refl c.push_reserved.new.self.items c.push_reserved.ensures.items c.in_ok-step.ensures.step
    c.packets.result.now.packets c.packets.ensures c.push_reserved-2.new.self.items
    (c.push_reserved-2.ensures.items ∙ ap (λ (n : ℕ). c.reserve-2.new.self.items ++ n ∷ []) c.len.ensures)

pub returns-clause-ok : goal.returns-clause-ok
returns-clause-ok g c =
    let p = c.self.inside in
    ok_applied g.A.App.meaning p.world p.events.items c.self.invariant.0 p.sent.items c.self.invariant.1 c.reserve.new.self.items c.reserve-2.new.self.items c.reserve.ensures.items c.reserve-2.ensures.items c.step.new.self
    g.met.A.App.lawful.writes_within_the_sets c.args.event.now c.args.event.now refl c.push_reserved.new.self.items c.push_reserved.ensures.items c.in_ok-step.ensures.step
    c.args.self.now c.self.view_is
