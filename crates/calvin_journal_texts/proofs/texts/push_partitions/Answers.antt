use Rattle.std.proofs.Common.{◌++◌, ◌∙◌, ap, codes, decimal, append_assoc}
use Rattle.calvin_journal_texts.proofs.texts.push_partitions.Goals as goal

pub returns : goal.returns
returns c =
    let old = c.args.text.now.items in
    c.in_ok-extend_from_slice-2.ensures.items ∙ ap (λ w. w ++ c.as_bytes.result.now) c.in_ok-extend_from_slice.ensures.items
    ∙ ap (λ w. (old ++ codes "{\"partitions\":") ++ w) (c.as_bytes.ensures.value ∙ c.format.ensures.text) ∙ append_assoc old (codes "{\"partitions\":") (decimal c.args.partitions)
