use Rattle.std.proofs.Common.{ℕ, List, [], ◌∷◌, ◌++◌, ◌≡◌, ◌∙◌, sym, ap, subst, Option, option_map, rules}
use Rattle.calvin_journal.specs.Journals.{Becomes}
use Rattle.calvin_serve_desk.proofs.Bounds.{not_written, is_kept}
use Rattle.calvin_serve_desk.proofs.desk.Desk.commit.Goals as goal

pub returns-then-self-ge-MOST_EPOCHS-clause-any_moment : goal.returns-then-self-ge-MOST_EPOCHS-clause-any_moment
returns-then-self-ge-MOST_EPOCHS-clause-any_moment g c =
    subst (λ (o : Option (List (List ℕ))). Becomes (option_map (λ ls. (ls, ls ++ c.args.line.now ∷ [])) o) (g.L.Log.told c.into_log.result)) (ap (λ s. s.lines) c.self.view_is)
    (not_written c.args.line.now c.self.inside.journal.lines (g.L.Log.told c.into_log.result) c.into_log.ensures.any_moment)

pub returns-in-Err-run_epoch-clause-any_moment : goal.returns-in-Err-run_epoch-clause-any_moment
returns-in-Err-run_epoch-clause-any_moment g c =
    let told = g.L.Log.told c.into_log-in-Err-run_epoch.result in
    let lines : c.in-Ok.journal.lines ≡ option_map (λ ls. ls ++ c.args.line.now ∷ []) c.self.inside.journal.lines = search rules in
    let left = subst (λ (o : Option (List (List ℕ))). Becomes (option_map (λ ls. (ls, ls)) o) told) lines c.into_log-in-Err-run_epoch.ensures.any_moment in
    subst (λ (o : Option (List (List ℕ))). Becomes (option_map (λ ls. (ls, ls ++ c.args.line.now ∷ [])) o) told) (ap (λ s. s.lines) c.self.view_is)
    (is_kept c.args.line.now c.self.inside.journal.lines told left)
