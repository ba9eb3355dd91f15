use Rattle.std.proofs.Common.{sym, subst}
use Rattle.calvin_store.specs.Points.{IsMarked}
use Rattle.calvin_store.specs.Versions.{point_at}
use Rattle.calvin_store.proofs.OpenPoints.{is_marked}
use Rattle.calvin_store.proofs.split.SplitRowsRows.marked.Goals as goal

pub returns : goal.returns
returns g c =
    subst (λ k. IsMarked k.point c.epoch.result) c.self.view_is
    (subst (IsMarked (point_at c.self.inside.versions.epoch c.self.inside.table.rows c.self.inside.versions.before.rows)) (sym c.epoch.ensures) (is_marked c.self.inside.versions.epoch c.self.inside.table.rows c.self.inside.versions.before.rows))
