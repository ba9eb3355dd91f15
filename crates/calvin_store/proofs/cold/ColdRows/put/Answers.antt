use Rattle.std.proofs.Common.{[], ◌∷◌, sym, ap, ◌∙◌}
use Rattle.calvin_app.specs.Stores.{put_at}
use Rattle.calvin_store.specs.Versions.{point_at}
use Rattle.calvin_store.proofs.cold.ColdRows.put.Goals as goal

pub returns-clause-store : goal.returns-clause-store
returns-clause-store g c =
    let is = c.put-had.ensures.new in
    let point = (λ i. point_at c.note.new.self.epoch (is i).rows c.note.new.self.before.rows) ∙ c.note.ensures.point c.self.inside.tiers.rows (sym c.put-had.ensures.had) in
    (λ i. record { map = (is i).rows; point = point i; cold = (is i).cold })
    ∙ ap (λ k. put_at c.args.place ((c.args.key, c.args.row) ∷ []) k.store) c.self.view_is
