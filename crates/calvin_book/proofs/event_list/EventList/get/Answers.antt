-- The event is that of the step at its place.
use Rattle.std.proofs.Common.{slice_get, sym, ap, ◌∙◌}
use Rattle.calvin_book.specs.Kept.{event_of}
use Rattle.calvin_book.proofs.Hearing.{read_at}
use Rattle.calvin_book.proofs.Kept.{kept_at, kept_past}
use Rattle.calvin_book.proofs.event_list.EventList.get.Goals as goal

pub returns-in_err-step : goal.returns-in_err-step
returns-in_err-step g c =
    let l = c.self.inside in
    c.from_residual.ensures ∙ sym (kept_past l.requests.items l.steps.items c.self.invariant c.deref.result.now c.deref.ensures.value c.args.number c.in_err-step.ensures.lookup.0)
    ∙ ap (λ s. slice_get s.items c.args.number) c.self.view_is

pub returns : goal.returns
returns g c =
    let l = c.self.inside in
    let step = c.in_ok-step.step.now in
    c.event_at.ensures ∙ ap (λ txns. event_of txns step) c.as_slice.ensures.value
    ∙ kept_at l.requests.items l.steps.items c.self.invariant c.args.number step
    (read_at c.deref.result.now l.steps.items c.args.number step c.deref.ensures.value c.in_ok-step.ensures.lookup.3.0 c.in_ok-step.ensures.lookup.1)
    ∙ ap (λ s. slice_get s.items c.args.number) c.self.view_is
