use Rattle.std.proofs.Common.{◌≡◌, ap, ◌∙◌, rules}
use Rattle.std.proofs.lemmas.Result.{IfOk-weaker}
use Rattle.std.proofs.lemmas.List.Sorted.{ranks_by, answers_always}
use Rattle.std.specs.Ordering.{is_lt}
use Rattle.std.specs.FinMap as map
use Rattle.calvin_types.specs.declared.key.Key.{Key}
use Rattle.calvin_types.specs.Keys.{key_cmp}
use Rattle.calvin_types.specs.KeyOrder.{key_cmp_total}
use Rattle.calvin_app.specs.Entries.{rising, shown}
use Rattle.calvin_store.proofs.SortedPairs.{rising-sorted, distinct-moved, shown-moved}
use Rattle.calvin_store.proofs.snapshot.Snapshot.sorted.Given.{Over}
use Rattle.calvin_store.proofs.snapshot.Snapshot.sorted.Goals as goal
use Rattle.calvin_store.proofs.snapshot.Snapshot.sorted.Goals.{After-sort_unstable_by}

-- the pairs rise after the sort
in_order : (g : Over) (c : After-sort_unstable_by g) → rising c.sort_unstable_by.new.self.items
in_order g c =
    let before = c.args.pairs.items in
    let after = c.sort_unstable_by.new.self.items in
    rising-sorted after (distinct-moved before after c.requires c.sort_unstable_by.ensures.permutation)
    (c.sort_unstable_by.ensures.sorted _ (ranks_by key_cmp_total (λ (e : Key × g.row.Row.Denot). e.0)) (answers_always _ _ _ (λ f a r f' k. let is : r ≡ key_cmp a.0.now.0 a.1.0.now.0 = search rules in ap is_lt is)))

pub new-requires : goal.new-requires
new-requires g c = in_order g (goal.at.new-requires g c).After-sort_unstable_by

pub returns-clause-ok : goal.returns-clause-ok
returns-clause-ok g c =
    let here = (goal.at.returns-clause-ok g c).After-sort_unstable_by in
    let before = c.args.pairs.items in
    let after = c.sort_unstable_by.new.self.items in
    IfOk-weaker c.new.result (λ s. s ≡ shown after) (λ s. s ≡ map.from_entries before) (λ s e. e ∙ shown-moved before after c.requires c.sort_unstable_by.ensures.permutation (in_order g here)) c.new.ensures.ok
