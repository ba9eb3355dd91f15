use Rattle.std.proofs.Common.{[], ◌∷◌, sym, ap, ◌∙◌}
use Rattle.calvin_app.specs.Stores.{put_at}
use Rattle.calvin_app.proofs.StoreLaws.{without-none}
use Rattle.calvin_store.specs.Kept.{split_store}
use Rattle.calvin_store.specs.Versions.{point_at}
use Rattle.calvin_store.proofs.split.SplitRows.put.Goals as goal

pub returns-clause-store : goal.returns-clause-store
returns-clause-store g c =
    let k = c.args.key in
    let rows = ap (λ t. t.rows) c.put-had.ensures.new in
    let point = (λ i. point_at c.note.new.self.epoch (rows i) c.note.new.self.before.rows) ∙ c.note.ensures.point c.self.inside.table.rows (sym c.put-had.ensures.had) in
    (λ i. record { map = rows i; point = point i; cold = sym (without-none (k ∷ [])) i })
    ∙ ap (λ s. put_at c.args.place ((k, c.args.row) ∷ []) (split_store s)) c.self.view_is
