use Rattle.std.proofs.Common.{◌≡◌, arith, rules}
use Rattle.std.specs.Cmp.Rules.{comparing}
use Rattle.std.specs.declared.cmp.Ordering.TheVariants.{Less, Equal, Greater}
use Rattle.calvin_types.specs.Keys.{key_cmp}
use Rattle.calvin_types.proofs.Risings.{found_key, free_key, next_insert, next_has, next_rises, last_key}
use Rattle.calvin_types.proofs.key_set.free_place.Goals as goal

pub returns-then-eq : goal.returns-then-eq
returns-then-eq c =
    let same : key_cmp c.args.key c.at-other.result ≡ Equal = search (comparing, rules) in
    found_key c.args.key c.args.keys.now c.loop-i.i _ c.at-other.ensures c.loop-i.invariant.in_order c.loop-i.invariant.so_far c.loop-i.invariant.missing same

pub returns-else-eq : goal.returns-else-eq
returns-else-eq c =
    let below : key_cmp c.args.key c.at-other.result ≡ Less = search (comparing, rules) in
    free_key c.args.key c.args.keys.now c.loop-i.i _ c.at-other.ensures c.loop-i.invariant.in_order c.loop-i.invariant.so_far c.loop-i.invariant.missing below

pub loop-i-preserved : goal.loop-i-preserved
loop-i-preserved c =
    let above : key_cmp c.args.key c.at-other.result ≡ Greater = search (comparing, rules) in
    record {
      in_order = next_rises c.args.key c.args.keys.now c.loop-i.i _ c.at-other.ensures c.loop-i.invariant.in_order c.loop-i.invariant.so_far c.loop-i.invariant.missing;
      so_far = next_insert c.args.key c.args.keys.now c.loop-i.i _ c.at-other.ensures c.loop-i.invariant.in_order c.loop-i.invariant.so_far c.loop-i.invariant.missing above;
      missing = next_has c.args.key c.args.keys.now c.loop-i.i _ c.at-other.ensures c.loop-i.invariant.in_order c.loop-i.invariant.so_far c.loop-i.invariant.missing above;
    }

pub returns : goal.returns
returns c = last_key c.args.key c.args.keys.now c.loop-i.i c.len.result (omega (arith, c.len-i-end.ensures.len)) (omega (arith, c.len-i-end.ensures.len, c.len.ensures.len, c.loop-i.auto.i-end)) c.len.ensures.len c.loop-i.invariant.so_far c.loop-i.invariant.missing
