use Rattle.std.proofs.Common.{◌≡◌, [], true, false, ap, sym, subst, Option, IfSome, IfOk, drop, option_map}
use Rattle.calvin_journal_log.specs.Disks.{Disk}
use Rattle.calvin_journal.specs.Readings.{Lines, HandsOut, part_at, lines_at}
use Rattle.calvin_journal.proofs.Additions.{IsWhole, still_whole, handed_line, no_line_ahead}
use Rattle.calvin_journal.proofs.opening.Opening.next_line.Goals as goal

pub invariant_of-self : goal.invariant_of-self
invariant_of-self g c =
    let reader = c.self.inside.reader in
    let line = c.next_line.new.line.items in
    let new = c.next_line.new.self in
    subst (λ (o : Option Disk). IfSome o (IsWhole new.done)) (sym c.next_line.ensures.told)
    (still_whole line reader.done new.done (g.L.Log.told reader.log) c.next_line.result c.self.invariant c.next_line.ensures.line c.next_line.ensures.one_line c.next_line.ensures.stays c.next_line.ensures.err)

pub returns-clause-line : goal.returns-clause-line
returns-clause-line g c =
    let reader = c.self.inside.reader in
    let line = c.next_line.new.line.items in
    let new = c.next_line.new.self in
    let handed = handed_line line reader.done new.done (g.L.Log.told reader.log) c.next_line.result c.self.invariant c.next_line.ensures.line c.next_line.ensures.one_line in
    let after = subst (λ (o : Option Disk). IfOk c.next_line.result (λ more. more ≡ true → HandsOut line (option_map (λ d. lines_at (part_at reader.done d)) (g.L.Log.told reader.log))
    (option_map (λ d. lines_at (part_at new.done d)) o))) (sym c.next_line.ensures.told) handed in
    subst (λ (o : Option Lines). IfOk c.next_line.result (λ more. more ≡ true → HandsOut line o (option_map (λ d. lines_at (part_at new.done d)) (g.L.Log.told new.log)))) (ap (λ p. p.lines) c.self.view_is) after

pub returns-clause-end : goal.returns-clause-end
returns-clause-end g c =
    let reader = c.self.inside.reader in
    let new = c.next_line.new.self in
    subst (λ (o : Option Lines). IfOk c.next_line.result (λ more. more ≡ false → IfSome o (λ old. old.ahead ≡ []))) (ap (λ p. p.lines) c.self.view_is)
    (no_line_ahead [] reader.done new.done (g.L.Log.told reader.log) c.next_line.result (drop new.start new.read.items) c.next_line.ensures.end c.next_line.ensures.no_line)
