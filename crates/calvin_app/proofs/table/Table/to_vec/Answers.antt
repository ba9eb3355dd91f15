use Rattle.std.proofs.Common.{rules, ◌≡◌, ◌∙◌, ap, subst}
use Rattle.std.specs.FinMap.{empty, entries}
use Rattle.std.specs.List.Sorted.{IsPermutation, IsSortedByKey}
use Rattle.std.proofs.lemmas.List.Sorted.{answers_always}
use Rattle.calvin_types.specs.declared.key.Key.{Key}
use Rattle.calvin_types.specs.Keys.{key_cmp, are_distinct}
use Rattle.calvin_app.specs.Rows.{overwritten}
use Rattle.calvin_app.specs.Writing.{keys_of}
use Rattle.calvin_app.proofs.Listed.{is_entries, is_whole, is_once}
use Rattle.calvin_app.proofs.table.Table.to_vec.Given.{Over}
use Rattle.calvin_app.proofs.table.Table.to_vec.Goals as goal
use Rattle.calvin_app.proofs.table.Table.to_vec.Goals.{After-sort_unstable_by_key}

-- what is sorted are the entries of the rows
sorted : (g : Over) (c : After-sort_unstable_by_key g) → c.sort_unstable_by_key.new.self.items ≡ entries c.args.self.now
sorted g c =
    let here = c.self.inside.rows.entries in
    let after = c.sort_unstable_by_key.new.self.items in
    let up : IsSortedByKey (λ (e : Key × g.row.Row.Denot). e.0) key_cmp after = c.sort_unstable_by_key.ensures.sorted (λ e. e.0) (answers_always _ _ _ (λ f a r f' k. search rules)) in
    let moved : IsPermutation here after = subst (λ xs. IsPermutation xs after) c.in_ok-rows.ensures.entries c.sort_unstable_by_key.ensures.permutation in
    is_entries here after c.entries_of.ensures.unique moved up ∙ ap entries c.self.view_is

pub returns-clause-rows : goal.returns-clause-rows
returns-clause-rows g c = sorted g (goal.at.returns-clause-rows g c).After-sort_unstable_by_key

pub returns-clause-whole : goal.returns-clause-whole
returns-clause-whole g c =
    let is = sorted g (goal.at.returns-clause-whole g c).After-sort_unstable_by_key in
    ap (overwritten empty) is ∙ is_whole c.args.self.now

pub returns-clause-distinct : goal.returns-clause-distinct
returns-clause-distinct g c =
    let is = sorted g (goal.at.returns-clause-distinct g c).After-sort_unstable_by_key in
    ap (λ rows. are_distinct (keys_of rows)) is ∙ is_once c.args.self.now
