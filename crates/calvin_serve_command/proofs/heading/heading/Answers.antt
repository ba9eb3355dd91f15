use Rattle.std.proofs.Common.{◌≡◌, List, ℕ, false, sym, subst, arith}
use Rattle.calvin_journal.specs.Lines.{has_break}
use Rattle.calvin_serve_command.proofs.Breaks.{heading_line}
use Rattle.calvin_serve_command.proofs.heading.heading.Goals as goal

pub returns-clause-one_line : goal.returns-clause-one_line
returns-clause-one_line c =
    let range = c.args.setting.now.in_range in
    subst (λ (text : List ℕ). has_break text ≡ false) (sym c.in_ok-text.ensures)
    (heading_line c.args.application c.args.setting.now (omega (arith, range)) (omega (arith, range)))
