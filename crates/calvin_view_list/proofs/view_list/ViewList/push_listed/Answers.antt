use Rattle.std.proofs.Common.{◌≡◌, ◌++◌, ◌≤◌, [], ◌∷◌, length, sym, ap, ◌∙◌, arith}
use Rattle.std.proofs.lemmas.List.{take_all}
use Rattle.std.specs.FinMap as map
use Rattle.calvin_app.specs.EntryLaws.{entries_kept}
use Rattle.calvin_view_list.specs.ViewLists.{views_of, AreViews}
use Rattle.calvin_view_list.proofs.Steps.{pushed}
use Rattle.calvin_view_list.proofs.view_list.ViewList.push_listed.Given as given
use Rattle.calvin_view_list.proofs.view_list.ViewList.push_listed.Goals as goal

-- the rows of the list stand behind those of the views, and where they end behind the other ends
stands : (g : given.Over) (c : goal.After-push_reserved-2 g)
    → (views_of c.loop-entry.self-inside.entries.items 0 c.push_reserved-2.new.self.items ≡ views_of c.self.inside.entries.items 0 c.self.inside.ends.items ++ c.args.rows.now.rows ∷ [])
    × AreViews c.loop-entry.self-inside.entries.items 0 c.push_reserved-2.new.self.items
stands g c =
    let es = c.self.inside.entries.items in
    let more = c.args.rows.now.rows in
    let listed = c.entries-entry-items.result.now in
    let listed_are : listed ≡ map.entries more = sym (entries_kept listed c.entries-entry-items.ensures.rising) ∙ ap map.entries c.entries-entry-items.ensures.rows in
    let few : map.len more ≤ 16 = omega (arith, map.len-entries more, ap length listed_are, c.entries-entry-items.ensures.few) in
    let same : c.loop-entry.self-inside.entries.items ≡ es ++ map.entries more =
    c.loop-entry.invariant.items ∙ ap (λ xs. es ++ xs) (take_all c.loop-entry.entry-index listed c.loop-entry-test.false ∙ listed_are) in
    let end : c.len-end.result ≡ length c.loop-entry.self-inside.entries.items = omega (arith, c.len-end.ensures, c.loop-entry.self-inside.entries.ok) in
    pushed es c.self.inside.ends.items c.self.invariant c.loop-entry.self-inside.entries.items more c.len-end.result c.push_reserved-2.new.self.items few same end (c.push_reserved-2.ensures.items ∙ ap (λ xs. xs ++ c.len-end.result ∷ []) c.loop-entry.invariant.ends)

pub invariant_of-self : goal.invariant_of-self
invariant_of-self g c = (stands g c).1

pub returns-clause-views : goal.returns-clause-views
returns-clause-views g c = (stands g c).0 ∙ ap (λ v. v.views ++ c.args.rows.now.rows ∷ []) c.self.view_is
