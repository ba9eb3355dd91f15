use Rattle.std.proofs.Common.{◌≡◌, ◌-◌, suc, refl, ap, sym, ◌∙◌, arith, rules}
use Rattle.std.proofs.lemmas.List.{drop_all}
use Rattle.std.specs.Cmp.Rules.{comparing}
use Rattle.std.specs.declared.cmp.Ordering.TheVariants.{Less, Equal, Greater}
use Rattle.calvin_types.specs.Keys.{key_cmp, below_all}
use Rattle.calvin_types.proofs.FromEnd.{at_end, there, key_before, key_passed, one_below, put_behind, put_first, one_longer}
use Rattle.calvin_types.proofs.key_set.put_from_end.Goals as goal

pub loop-i-init : goal.loop-i-init
loop-i-init c = record {
  within = omega (arith, c.len-i.ensures.len);
  all = (c.args.key, c.push.ensures ∙ at_end c.args.keys.now c.len-i.result c.args.key c.len-i.ensures.len);
  below = ap (below_all c.args.key) (drop_all c.len-i.result c.args.keys.now (omega (arith, c.len-i.ensures.len)));
}

pub returns-then-le-clause-put : goal.returns-then-le-clause-put
returns-then-le-clause-put c _ =
    let next : c.loop-i.i ≡ suc (c.loop-i.i - 1) = omega (arith, c.loop-i-test.true) in
    let above : key_cmp c.args.key c.at-other.result ≡ Greater = search (comparing, rules) in
    let inv = c.loop-i.invariant in
    let here = key_before c.args.keys.now c.loop-i.keys c.loop-i.i (c.loop-i.i - 1) inv.all.0 c.at-other.result next inv.within inv.all.1 c.at-other.ensures in
    c.set.ensures ∙ put_behind c.args.key c.args.keys.now c.loop-i.keys c.loop-i.i (c.loop-i.i - 1) inv.all.0 c.at-other.result next inv.within c.requires.rising inv.all.1 here above inv.below

pub returns-then-le-clause-longer : goal.returns-then-le-clause-longer
returns-then-le-clause-longer c _ =
    let inv = c.loop-i.invariant in
    one_longer c.args.keys.now c.loop-i.keys _ c.loop-i.i c.loop-i.i inv.all.0 c.args.key inv.within inv.all.1 (sym c.set.ensures ∙ returns-then-le-clause-put c refl)

pub returns-then-eq-clause-there : goal.returns-then-eq-clause-there
returns-then-eq-clause-there c _ =
    let next : c.loop-i.i ≡ suc (c.loop-i.i - 1) = omega (arith, c.loop-i-test.true) in
    let same : key_cmp c.args.key c.at-other.result ≡ Equal = search (comparing, rules) in
    let inv = c.loop-i.invariant in
    let here = key_before c.args.keys.now c.loop-i.keys c.loop-i.i (c.loop-i.i - 1) inv.all.0 c.at-other.result next inv.within inv.all.1 c.at-other.ensures in
    there c.args.key c.args.keys.now _ c.at-other.result c.requires.rising here same

pub loop-i-preserved : goal.loop-i-preserved
loop-i-preserved c =
    let next : c.loop-i.i ≡ suc (c.loop-i.i - 1) = omega (arith, c.loop-i-test.true) in
    let under : key_cmp c.args.key c.at-other.result ≡ Less = search (comparing, rules) in
    let inv = c.loop-i.invariant in
    let here = key_before c.args.keys.now c.loop-i.keys c.loop-i.i (c.loop-i.i - 1) inv.all.0 c.at-other.result next inv.within inv.all.1 c.at-other.ensures in
    record {
      within = omega (arith, inv.within);
      all = (c.at-other.result, c.set-in-loop-i.ensures ∙ key_passed c.args.keys.now c.loop-i.keys c.loop-i.i (c.loop-i.i - 1) inv.all.0 c.at-other.result next inv.within inv.all.1 here);
      below = one_below c.args.key c.args.keys.now c.loop-i.i (c.loop-i.i - 1) c.at-other.result next here under inv.below;
    }

pub returns-clause-put : goal.returns-clause-put
returns-clause-put c _ =
    let inv = c.loop-i.invariant in
    c.set-2.ensures ∙ put_first c.args.key c.args.keys.now c.loop-i.keys c.loop-i.i inv.all.0 (omega (arith, c.loop-i-test.false)) inv.all.1 inv.below

pub returns-clause-longer : goal.returns-clause-longer
returns-clause-longer c _ =
    let inv = c.loop-i.invariant in
    one_longer c.args.keys.now c.loop-i.keys _ c.loop-i.i 0 inv.all.0 c.args.key inv.within inv.all.1 (sym c.set-2.ensures ∙ returns-clause-put c refl)
