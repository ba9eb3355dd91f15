use Rattle.std.proofs.Common.{is_some, sym, ap, ◌∙◌}
use Rattle.calvin_store.specs.Tiers.{is_hot_in}
use Rattle.calvin_store.proofs.TwoTables.{hot_in_both}
use Rattle.calvin_store.proofs.tiers.Tiers.is_hot.Goals as goal

pub returns : goal.returns
returns g c =
    c.is_some.ensures ∙ ap is_some c.get.ensures ∙ sym (hot_in_both c.self.inside.hot.rows c.self.inside.cold.rows c.self.invariant c.args.key.now)
    ∙ ap (λ t. is_hot_in t c.args.key.now) c.self.view_is
