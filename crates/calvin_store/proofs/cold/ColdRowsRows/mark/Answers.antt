use Rattle.std.proofs.Common.{is_some, sym, ap, ◌∙◌}
use Rattle.calvin_app.specs.Stores.{marked}
use Rattle.calvin_store.specs.Versions.{point_at}
use Rattle.calvin_store.proofs.OpenPoints.{end_of, point_none, point_opened, did_mark}
use Rattle.calvin_store.proofs.cold.ColdRowsRows.mark.Goals as goal

pub returns-clause-did : goal.returns-clause-did
returns-clause-did g c =
    let q = end_of c.args.epoch in
    let rows = c.self.inside.tiers.rows in
    let shut = ap is_some (sym c.epoch.ensures) ∙ sym c.is_some.ensures ∙ c.if-is_some.false in
    let point = (λ i. point_at (c.open.ensures i).epoch rows (c.open.ensures i).before.rows) ∙ point_opened c.args.epoch c.self.inside.versions.epoch rows c.self.inside.versions.before.rows shut c.self.invariant in
    did_mark c.args.epoch (c.args.self.now.store) _ (ap (λ k. k.store.point) (sym c.self.view_is) ∙ point_none c.self.inside.versions.epoch rows c.self.inside.versions.before.rows shut)
    ((λ i. record { map = rows; point = point i; cold = c.self.inside.tiers.cold }) ∙ ap (λ k. marked q (k.store)) c.self.view_is)
