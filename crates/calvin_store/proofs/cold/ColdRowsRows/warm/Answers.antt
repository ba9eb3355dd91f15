use Rattle.std.proofs.Common.{◌++◌, is_some, ap, ◌∙◌}
use Rattle.std.proofs.lemmas.Bool.{false≢true}
use Rattle.std.specs.FinMap.{get}
use Rattle.std.specs.List.{list_any}
use Rattle.calvin_app.specs.Stores.{warmed}
use Rattle.calvin_store.specs.Versions.{point_at}
use Rattle.calvin_store.proofs.ColdKeys.{none-listed}
use Rattle.calvin_store.proofs.cold.ColdRowsRows.warm.Goals as goal

pub returns-clause-ok : goal.returns-clause-ok
returns-clause-ok g c =
    let is = c.in_ok-warm.ensures.ok in
    (λ i. record { map = (is i).rows; point = point_at c.self.inside.versions.epoch (is i).rows c.self.inside.versions.before.rows; cold = (is i).cold })
    ∙ ap (λ k. warmed (c.args.sets.now.reads ++ c.args.sets.now.writes) k.store) c.self.view_is

pub returns-in_err-warm-clause-succeeds : goal.returns-in_err-warm-clause-succeeds
returns-in_err-warm-clause-succeeds g c = λ none.
    let keys = c.args.sets.now.reads ++ c.args.sets.now.writes in
    let hot = ap (λ v. list_any (λ k. is_some (get v.store.cold k)) keys) c.self.view_is ∙ none in
    absurd (false≢true (c.in_err-warm.ensures.succeeds (none-listed c.self.inside.tiers.cold keys hot)))
