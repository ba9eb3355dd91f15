use Rattle.std.proofs.Common.{is_some, sym, ap, ◌∙◌}
use Rattle.std.specs.FinMap.{empty}
use Rattle.calvin_app.specs.Stores.{marked}
use Rattle.calvin_store.specs.Kept.{split_store}
use Rattle.calvin_store.specs.Versions.{point_at}
use Rattle.calvin_store.proofs.OpenPoints.{end_of, point_none, point_opened, did_mark}
use Rattle.calvin_store.proofs.split.SplitRowsRows.mark.Goals as goal

pub returns-clause-did : goal.returns-clause-did
returns-clause-did g c =
    let q = end_of c.args.epoch in
    let rows = c.self.inside.table.rows in
    let shut = ap is_some (sym c.epoch.ensures) ∙ sym c.is_some.ensures ∙ c.if-is_some.false in
    let point = (λ i. point_at (c.open.ensures i).epoch rows (c.open.ensures i).before.rows) ∙ point_opened c.args.epoch c.self.inside.versions.epoch rows c.self.inside.versions.before.rows shut c.self.invariant in
    did_mark c.args.epoch (split_store c.args.self.now) _ (ap (λ k. k.point) (sym c.self.view_is) ∙ point_none c.self.inside.versions.epoch rows c.self.inside.versions.before.rows shut)
    ((λ i. record { map = rows; point = point i; cold = empty }) ∙ ap (λ k. marked q (split_store k)) c.self.view_is)
