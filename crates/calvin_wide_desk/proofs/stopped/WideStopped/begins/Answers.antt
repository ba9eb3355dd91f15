-- One mark more, and in the end all.
use Rattle.std.proofs.Common.{◌≡◌, ℕ, List, Some, slice_get, ap, ◌∙◌, arith}
use Rattle.std.proofs.lemmas.Option.{slice_get_within}
use mathlib.Core.List.{IsPrefix}
use Rattle.calvin_histories.specs.declared.entry.Entry.{Entry}
use Rattle.calvin_wide_desk.proofs.Going.{one_more}
use Rattle.calvin_wide_desk.proofs.stopped.WideStopped.begins.Goals as goal

pub loop-mark-init : goal.loop-mark-init
loop-mark-init g c i mark less at = absurd (omega (arith, less))

pub loop-mark-preserved : goal.loop-mark-preserved
loop-mark-preserved g c =
    let histories = c.args.self.now in
    one_more (λ (mark : ℕ × List (Entry g.row.A-Args.Denot g.row.A-Row.Denot g.row.A-Reply.Denot)). (history : List (Entry g.row.A-Args.Denot g.row.A-Row.Denot g.row.A-Reply.Denot)) × (slice_get histories mark.0 ≡ Some history) × IsPrefix mark.1 history)
    c.deref-mark-items.result.now c.loop-mark.mark-index c.mark-item.result c.loop-mark.invariant c.loop-mark-test.true c.mark-item.is c.begins_with.ensures.begins

pub returns : goal.returns
returns g c i mark at =
    let there : slice_get c.deref-mark-items.result.now i ≡ Some mark = ap (λ ms. slice_get ms i) c.deref-mark-items.ensures.value ∙ at in
    let less = slice_get_within c.deref-mark-items.result.now i mark there in
    c.loop-mark.invariant i mark (let past = c.loop-mark-test.false in omega (arith, less, past)) there
