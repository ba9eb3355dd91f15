use Rattle.std.proofs.Common.{rules, ◌≡◌, ◌++◌, ◌∷◌, [], ◌∙◌, ap, get_or}
use Rattle.calvin_journal_texts.proofs.Joins.{one_more}
use Rattle.calvin_journal_texts.proofs.texts.push_continued.Goals as goal

pub loop-next-preserved : goal.loop-next-preserved
loop-next-preserved c =
    let i = c.loop-next.next-index in
    let next = c.next-item.result in
    let at : get_or c.args.texts.now i next ≡ next = search rules in
    let is : c.extend_from_slice.new.self.items ≡ (c.loop-next.text.items ++ 44 ∷ []) ++ next.items = search rules in
    is ∙ ap (λ w. (w ++ 44 ∷ []) ++ next.items) c.loop-next.invariant ∙ one_more (λ t. t.items) c.args.texts.now i next c.loop-next-test.true at c.args.text.now.items
