-- One more is written; and where there is no further one all of them are.
use Rattle.std.proofs.Common.{[], ◌∷◌, ◌++◌, sym, ap, ◌∙◌}
use Rattle.calvin_types.proofs.Fews.{take_at}
use Rattle.calvin_book.proofs.Kept.{take_past}
use Rattle.calvin_cluster_desk.proofs.desk.write_all.Goals as goal

pub returns-in_default : goal.returns-in_default
returns-in_default g c = λ written. c.loop-number.invariant ∙ take_past c.args.events.now.items c.loop-number.number c.in_default.ensures

pub loop-number-preserved : goal.loop-number-preserved
loop-number-preserved g c =
    c.if-not-write.ensures ∙ ap (λ es. es ++ c.in-Some.event ∷ []) c.loop-number.invariant ∙ sym (take_at c.args.events.now.items c.loop-number.number c.in-Some.event (sym c.in-Some.ensures))
