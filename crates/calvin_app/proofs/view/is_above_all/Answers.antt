use Rattle.std.proofs.Common.{◌≡◌, arith, rules}
use Rattle.std.specs.Cmp.Rules.{comparing}
use Rattle.std.specs.declared.cmp.Ordering.TheVariants.{Greater}
use Rattle.calvin_types.specs.Keys.{key_cmp}
use Rattle.calvin_app.proofs.Ends.{missing_at_end}
use Rattle.calvin_app.proofs.view.is_above_all.Goals as goal

pub returns : goal.returns
returns g c = λ is.
    let above : key_cmp c.args.key c.at-row.result.0 ≡ Greater = search (comparing, rules) in
    missing_at_end c.args.key c.args.entries.now _ _ c.requires c.at-row.ensures (omega (arith, c.len-size.ensures.len, c.if-size-eq0.false)) above
