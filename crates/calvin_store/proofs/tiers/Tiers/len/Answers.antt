use Rattle.std.proofs.Common.{◌+◌, sym, ap, ◌∙◌}
use Rattle.std.specs.FinMap as map
use Rattle.calvin_store.proofs.TwoTables.{len-both}
use Rattle.calvin_store.proofs.tiers.Tiers.len.Goals as goal

pub returns : goal.returns
returns g c =
    (λ i. c.len.ensures.len i + c.len-2.ensures.len i) ∙ sym (len-both c.self.inside.hot.rows c.self.inside.cold.rows c.self.invariant)
    ∙ ap (λ t. map.len t.rows) c.self.view_is
