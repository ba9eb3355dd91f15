use Rattle.std.proofs.Common.{ap, ◌∙◌, arith}
use Rattle.std.proofs.lemmas.List.{take_all}
use Rattle.std.specs.FinMap as finmap
use Rattle.calvin_types.specs.Keys.{key_cmp}
use Rattle.calvin_app.proofs.Ends.{holds}
use Rattle.calvin_once.specs.Once.{inner_entries, with_inner}
use Rattle.calvin_once.proofs.Inner.{inner_at}
use Rattle.calvin_once.proofs.inside.add_inside.Goals as goal

pub loop-i-init : goal.loop-i-init
loop-i-init g c = record {
  so_far = c.requires;
  few = omega (arith, ap finmap.len c.requires, finmap.len-empty key_cmp g.row.Row.Denot);
}

pub loop-i-preserved : goal.loop-i-preserved
loop-i-preserved g c = record {
  so_far = c.put_inner.ensures.rows ∙ ap (with_inner c.args.top c.at-found.result) c.loop-i.invariant.so_far
      ∙ inner_at c.args.top (finmap.entries c.args.view.now) c.loop-i.i c.at-found.result (holds _ (finmap.entries_sorted c.args.view.now)) c.at-found.ensures;
  few = omega (arith, c.put_inner.ensures.few, c.loop-i.invariant.few);
}

pub returns : goal.returns
returns g c = c.loop-i.invariant.so_far ∙ ap (λ es. finmap.from_entries {R = key_cmp} (inner_entries c.args.top es)) (take_all c.loop-i.i (finmap.entries c.args.view.now) (omega (arith, c.len-i-end.ensures.len, finmap.len-entries c.args.view.now)))
