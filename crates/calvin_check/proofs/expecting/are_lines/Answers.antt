-- Lists of bytes are compared where they lie.
use Rattle.std.proofs.Common.{◌++◌, codes, sym, ◌∙◌}
use Rattle.std.proofs.lemmas.Simd.{map-map}
use Rattle.std.specs.Cmp.Derive.Mapped.{pointwise-map}
use Rattle.std.specs.Cmp.Lexicographic.{pointwise}
use Rattle.std.specs.Prelude.{string_bytes}
use Rattle.std.specs.Str.{bytes_eq}
use Rattle.calvin_check.proofs.expecting.are_lines.Goals as goal

pub returns-clause-same : goal.returns-clause-same
returns-clause-same g c =
    let texts = c.in_ok-expected.ensures.lines ∙ sym (map-map (λ text. text ++ codes "\n") string_bytes c.args.texts.now) in
    c.eq.ensures ∙ sym (pointwise-map (λ v. v.items) bytes_eq c.in_ok-expected.expected.items c.in_ok-answer_lines.field-0.items)
    ∙ (λ i. pointwise bytes_eq (texts i) (c.in_ok-answer_lines.ensures.lines i))
