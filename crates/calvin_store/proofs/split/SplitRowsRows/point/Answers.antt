use Rattle.std.proofs.Common.{◌≡◌, true, false, not, is_some, sym, ap, subst, ◌∙◌}
use Rattle.std.proofs.lemmas.Result.{IfOk-weaker}
use Rattle.std.specs.FinMap.{from_entries}
use Rattle.calvin_app.specs.Entries.{shown}
use Rattle.calvin_app.proofs.Views.{shown_none}
use Rattle.calvin_store.specs.Kept.{IsListed}
use Rattle.calvin_store.specs.Points.{rows_of}
use Rattle.calvin_store.specs.Versions.{before_rows}
use Rattle.calvin_store.proofs.BeforePairs.{listed_before}
use Rattle.calvin_store.proofs.OpenPoints.{point_none, point_rows}
use Rattle.calvin_store.proofs.split.SplitRowsRows.point.Given.{Over}
use Rattle.calvin_store.proofs.split.SplitRowsRows.point.Goals as goal
use Rattle.calvin_store.proofs.split.SplitRowsRows.point.Goals.{After-go_back}

pub returns-then-is_none-clause-ok : goal.returns-then-is_none-clause-ok
returns-then-is_none-clause-ok g c =
    let shut : is_some c.self.inside.versions.epoch ≡ false = ap is_some (sym c.epoch.ensures) ∙ c.is_none.ensures ∙ ap not c.if-is_none.true in
    let none = ap (λ k. rows_of k.point) (sym c.self.view_is) ∙ ap rows_of (point_none c.self.inside.versions.epoch c.self.inside.table.rows c.self.inside.versions.before.rows shut) in
    IfOk-weaker c.new-then-is_none.result (λ s. s ≡ shown c.new.result.items) (λ s. s ≡ rows_of c.args.self.now.point) (λ s e. e ∙ ap shown c.new.ensures.items ∙ shown_none ∙ sym none) c.new-then-is_none.ensures.ok

-- the pairs of the point
listed : (g : Over) (c : After-go_back g) → IsListed c.go_back.new.pairs.items (before_rows c.self.inside.table.rows c.self.inside.versions.before.rows)
listed g c =
    subst (λ es. IsListed es (before_rows c.self.inside.table.rows c.self.inside.versions.before.rows)) (sym c.go_back.ensures)
    (listed_before c.self.inside.versions.before.rows c.self.inside.versions.epoch c.in_ok-pairs.pairs.items c.self.inside.table.rows c.self.invariant c.in_ok-pairs.ensures)

pub sorted-requires : goal.sorted-requires
sorted-requires g c = (listed g (goal.at.sorted-requires g c).After-go_back).distinct

pub returns-clause-ok : goal.returns-clause-ok
returns-clause-ok g c =
    let here = listed g (goal.at.returns-clause-ok g c).After-go_back in
    let open_now : is_some c.self.inside.versions.epoch ≡ true = ap is_some (sym c.epoch.ensures) ∙ c.is_none.ensures ∙ ap not c.if-is_none.false in
    let are = ap (λ k. rows_of k.point) (sym c.self.view_is) ∙ point_rows c.self.inside.versions.epoch c.self.inside.table.rows c.self.inside.versions.before.rows open_now in
    IfOk-weaker c.sorted.result (λ s. s ≡ from_entries c.go_back.new.pairs.items) (λ s. s ≡ rows_of c.args.self.now.point) (λ s e. e ∙ here.rows_are ∙ sym are) c.sorted.ensures.ok
