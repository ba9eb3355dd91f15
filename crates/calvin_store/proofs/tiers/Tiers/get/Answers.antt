use Rattle.std.proofs.Common.{sym, ap, ◌∙◌}
use Rattle.std.specs.FinMap as map
use Rattle.calvin_store.proofs.TwoTables.{get_hot, get_cold}
use Rattle.calvin_store.proofs.tiers.Tiers.get.Goals as goal

pub returns-in-Some : goal.returns-in-Some
returns-in-Some g c =
    sym (get_hot c.self.inside.hot.rows c.self.inside.cold.rows c.args.key.now c.in-Some.row (sym c.get.ensures ∙ c.in-Some.is))
    ∙ ap (λ t. map.get t.rows c.args.key.now) c.self.view_is

pub returns : goal.returns
returns g c =
    c.get-2.ensures ∙ sym (get_cold c.self.inside.hot.rows c.self.inside.cold.rows c.args.key.now (sym c.get.ensures ∙ c.in_default.is))
    ∙ ap (λ t. map.get t.rows c.args.key.now) c.self.view_is
