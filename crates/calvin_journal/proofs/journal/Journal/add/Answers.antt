use Rattle.std.proofs.Common.{ℕ, ◌∙◌, ◌∷◌, ◌++◌, [], List, ap, subst, Option, option_map}
use Rattle.calvin_journal_log.specs.Disks.{Leads}
use Rattle.calvin_journal.specs.Journals.{Becomes, AddedAll, AddedInPart}
use Rattle.calvin_journal.specs.Readings.{Standing}
use Rattle.calvin_journal.proofs.Additions.{added_text, added_view, added_in_part, untouched}
use Rattle.calvin_journal.proofs.journal.Journal.add.Goals as goal

pub returns-in_default-clause-any_moment : goal.returns-in_default-clause-any_moment
returns-in_default-clause-any_moment g c =
    let told = g.L.Log.told c.self.inside.log in
    let line = c.args.line.now in
    subst (λ (o : Option (List (List ℕ))). Becomes (option_map (λ ls. (ls, ls ++ line ∷ [])) o) told) (ap (λ s. s.lines) c.self.view_is) (untouched line c.requires.one_line told c.self.invariant)

pub invariant_of-result : goal.invariant_of-result
invariant_of-result g c =
    let line = c.args.line.now in
    let told = g.L.Log.told c.self.inside.log in
    let new = g.L.Log.told c.add_synced.new.log in
    let leads = subst (λ bytes. Leads (AddedAll bytes) told new) (c.deref.ensures.value ∙ c.in-Ok.ensures) c.in-Ok-add_synced.ensures.ok in
    added_text line c.requires.one_line told new c.self.invariant leads

pub returns-in-Ok-add_synced-clause-ok : goal.returns-in-Ok-add_synced-clause-ok
returns-in-Ok-add_synced-clause-ok g c =
    let line = c.args.line.now in
    let told = g.L.Log.told c.self.inside.log in
    let new = g.L.Log.told c.add_synced.new.log in
    let leads = subst (λ bytes. Leads (AddedAll bytes) told new) (c.deref.ensures.value ∙ c.in-Ok.ensures) c.in-Ok-add_synced.ensures.ok in
    let lines = added_view line c.requires.one_line told new c.self.invariant leads ∙ ap (λ (s : Standing). option_map (λ ls. ls ++ line ∷ []) s.lines) c.self.view_is in
    let failures = c.in-Ok-add_synced.ensures.no_failure ∙ ap (λ (s : Standing). s.failures) c.self.view_is in
    ap (λ w. record { lines = w; failures = g.L.Log.failures c.add_synced.new.log }) lines ∙ ap (λ w. record { lines = option_map (λ ls. ls ++ line ∷ []) c.args.self.lines; failures = w }) failures

pub returns-clause-any_moment : goal.returns-clause-any_moment
returns-clause-any_moment g c =
    let line = c.args.line.now in
    let told = g.L.Log.told c.self.inside.log in
    let new = g.L.Log.told c.add_synced.new.log in
    let leads = subst (λ bytes. Leads (AddedInPart bytes) told new) (c.deref.ensures.value ∙ c.in-Ok.ensures) c.in-Err.ensures.part in
    subst (λ (o : Option (List (List ℕ))). Becomes (option_map (λ ls. (ls, ls ++ line ∷ [])) o) new) (ap (λ s. s.lines) c.self.view_is) (added_in_part line c.requires.one_line told new c.self.invariant leads)
