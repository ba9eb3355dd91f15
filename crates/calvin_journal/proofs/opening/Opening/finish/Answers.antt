use Rattle.std.proofs.Common.{◌≡◌, [], Option, option_map, ap, sym, subst}
use Rattle.std.specs.Option.{ForSome}
use Rattle.calvin_journal.specs.Journals.{Becomes}
use Rattle.calvin_journal.specs.Readings.{Lines}
use Rattle.calvin_journal.proofs.Additions.{closed_in_part}
use Rattle.calvin_journal.proofs.opening.Opening.finish.Goals as goal

pub returns-clause-any_moment : goal.returns-clause-any_moment
returns-clause-any_moment g c =
    let reader = c.self.inside.reader in
    let told = g.L.Log.told reader.log in
    let seen = ap (λ p. p.lines) c.self.view_is in
    let end = subst (λ (o : Option Lines). ForSome o (λ lines. lines.ahead ≡ [])) (sym seen) c.requires.at_the_end in
    subst (λ (o : Option Lines). Becomes (option_map (λ lines. (lines.done, lines.done)) o) (g.L.Log.told c.close.new.log)) seen
    (closed_in_part told (g.L.Log.told c.close.new.log) reader.done _ reader.is_read c.self.invariant end c.in-Err.ensures.part)
