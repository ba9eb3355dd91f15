use Rattle.std.proofs.Common.{ℕ, List, ◌≡◌, ◌∷◌, [], true, false, ap, subst, Option, IfSome, IfOk, drop}
use Rattle.calvin_journal.specs.Readings.{Lines}
use Rattle.calvin_journal.proofs.Additions.{peeked_line, no_line_ahead}
use Rattle.calvin_journal.proofs.opening.Opening.peek_line.Goals as goal

pub returns-clause-line : goal.returns-clause-line
returns-clause-line g c =
    let reader = c.self.inside.reader in
    let line = c.peek_line.new.line.items in
    subst (λ (o : Option Lines). IfOk c.peek_line.result (λ more. more ≡ true → IfSome o (λ lines. (rest : List (List ℕ)) × (lines.ahead ≡ line ∷ rest)))) (ap (λ p. p.lines) c.self.view_is)
    (peeked_line line reader.done (g.L.Log.told reader.log) c.peek_line.result c.peek_line.ensures.line c.peek_line.ensures.one_line)

pub returns-clause-end : goal.returns-clause-end
returns-clause-end g c =
    let reader = c.self.inside.reader in
    let new = c.peek_line.new.self in
    subst (λ (o : Option Lines). IfOk c.peek_line.result (λ more. more ≡ false → IfSome o (λ old. old.ahead ≡ []))) (ap (λ p. p.lines) c.self.view_is)
    (no_line_ahead [] reader.done new.done (g.L.Log.told reader.log) c.peek_line.result (drop new.start new.read.items) c.peek_line.ensures.end c.peek_line.ensures.no_line)
