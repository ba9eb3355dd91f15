-- One more; and where there is no further one these are all.
use Rattle.std.proofs.Common.{[], ◌∷◌, ◌++◌, sym, ap, ◌∙◌}
use Rattle.calvin_types.proofs.Fews.{take_at}
use Rattle.calvin_book.proofs.Kept.{take_past}
use Rattle.calvin_book.proofs.event_list.EventList.to_vec.Goals as goal

pub returns-in_default-clause-ok : goal.returns-in_default-clause-ok
returns-in_default-clause-ok g c = c.loop-number.invariant ∙ take_past c.args.self.now.items c.loop-number.number c.in_default.ensures

pub loop-number-preserved : goal.loop-number-preserved
loop-number-preserved g c =
    c.in_ok-push.ensures.items ∙ ap (λ es. es ++ c.in-Some.event ∷ []) c.loop-number.invariant ∙ sym (take_at c.args.self.now.items c.loop-number.number c.in-Some.event (sym c.in-Some.ensures))
