use Rattle.std.proofs.Common.{◌++◌, Option, option_map, ap, subst}
use Rattle.calvin_journal.specs.Journals.{Becomes}
use Rattle.calvin_journal.specs.Readings.{Lines}
use Rattle.calvin_journal.proofs.Additions.{left_open}
use Rattle.calvin_journal.proofs.opening.Opening.into_log.Goals as goal

pub returns-clause-any_moment : goal.returns-clause-any_moment
returns-clause-any_moment g c =
    let reader = c.self.inside.reader in
    subst (λ (o : Option Lines). Becomes (option_map (λ lines. (lines.done ++ lines.ahead, lines.done ++ lines.ahead)) o) (g.L.Log.told reader.log)) (ap (λ p. p.lines) c.self.view_is)
    (left_open (g.L.Log.told reader.log) reader.done _ reader.is_read c.self.invariant)
