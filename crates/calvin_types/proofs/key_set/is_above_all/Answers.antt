use Rattle.std.proofs.Common.{◌≡◌, rules}
use Rattle.std.specs.Cmp.Rules.{comparing}
use Rattle.std.specs.declared.cmp.Ordering.TheVariants.{Greater}
use Rattle.calvin_types.specs.Keys.{key_cmp}
use Rattle.calvin_types.proofs.FromEnd.{free_last}
use Rattle.calvin_types.proofs.key_set.is_above_all.Goals as goal

pub returns : goal.returns
returns c less =
    let above : key_cmp c.args.key c.at.result ≡ Greater = search (comparing, rules) in
    free_last c.args.key c.args.keys.now c.len-size.result c.at.result c.len-size.ensures.len c.requires c.at.ensures above
