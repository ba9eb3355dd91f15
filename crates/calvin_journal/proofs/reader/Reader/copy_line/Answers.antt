use Rattle.std.proofs.Common.{arith, rules, ◌≡◌, ◌+◌, ◌∷◌, ◌++◌, take, drop, sym, ◌∙◌, ap}
use Rattle.calvin_journal.specs.Lines.{has_break}
use Rattle.calvin_journal.proofs.Reading.{no_break_in, no_break_before, cut_at}
use Rattle.calvin_journal.proofs.reader.Reader.copy_line.Goals as goal

pub returns-in_default-clause-no_line : goal.returns-in_default-clause-no_line
returns-in_default-clause-no_line g c = λ _.
    ap has_break (sym c.ahead-ahead.ensures) ∙ no_break_in c.ahead-ahead.result.now (λ j lt is. c.in_default.ensures j (omega arith) lt is)

pub returns-clause-line : goal.returns-clause-line
returns-clause-line g c = λ _.
    let bytes = c.ahead-ahead.result.now in
    let at = c.in-Some.at in
    let line : c.extend_from_slice.new.self.items ≡ take at bytes = search rules in
    let rest = drop (at + 1) bytes in
    (rest, sym c.ahead-ahead.ensures ∙ cut_at bytes at c.in-Some.ensures.0.high c.in-Some.ensures.1 ∙ ap (λ w. w ++ 10 ∷ rest) (sym line))

pub returns-clause-one_line : goal.returns-clause-one_line
returns-clause-one_line g c = λ _.
    let line : c.extend_from_slice.new.self.items ≡ take c.in-Some.at c.ahead-ahead.result.now = search rules in
    ap has_break line ∙ no_break_before c.ahead-ahead.result.now c.in-Some.at (λ j lt is. c.in-Some.ensures.0.before j (omega arith) lt is)
