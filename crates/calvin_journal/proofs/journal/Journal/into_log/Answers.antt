use Rattle.std.proofs.Common.{ℕ, List, ap, subst, Option, option_map}
use Rattle.calvin_journal.specs.Journals.{Becomes}
use Rattle.calvin_journal.proofs.Additions.{stands_so}
use Rattle.calvin_journal.proofs.journal.Journal.into_log.Goals as goal

pub returns-clause-any_moment : goal.returns-clause-any_moment
returns-clause-any_moment g c =
    let told = g.L.Log.told c.self.inside.log in
    subst (λ (o : Option (List (List ℕ))). Becomes (option_map (λ ls. (ls, ls)) o) told) (ap (λ s. s.lines) c.self.view_is) (stands_so told c.self.invariant)
