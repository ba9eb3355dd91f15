use Rattle.std.proofs.Common.{◌++◌, sym, subst}
use Rattle.calvin_store.specs.Kept.{IsListed}
use Rattle.calvin_store.proofs.TwoTables.{listed_both}
use Rattle.calvin_store.proofs.tiers.Tiers.pairs.Goals as goal

pub returns : goal.returns
returns g c =
    let hot = c.in_ok-pairs.pairs.items in
    let cold = c.in_ok-cold.cold.items in
    subst (λ es. IsListed es c.args.self.now.rows) (sym c.in_ok-append.ensures.items)
    (subst (λ t. IsListed (hot ++ cold) t.rows) c.self.view_is (listed_both hot cold c.self.inside.hot.rows c.self.inside.cold.rows c.self.invariant c.in_ok-pairs.ensures c.in_ok-cold.ensures))
