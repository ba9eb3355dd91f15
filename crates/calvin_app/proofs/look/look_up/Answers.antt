use Rattle.std.proofs.Common.{sym, ◌∙◌, ap, arith, rules}
use Rattle.std.specs.FinMap as map
use Rattle.calvin_types.specs.Keys.{key_cmp}
use Rattle.calvin_types.proofs.Fews.{take_at}
use Rattle.calvin_app.specs.Rows.{view}
use Rattle.calvin_app.proofs.Views.{view-none, view-push_row, view-push_none, len-insert-le}
use Rattle.calvin_app.proofs.look.look_up.Goals as goal
use Rattle.calvin_app.proofs.look.look_up.Goals.{in-Some, in-None}

pub loop-i-init : goal.loop-i-init
loop-i-init g c = record {
  so_far = c.requires ∙ view-none (g.L.Look.shown c.args.rows.now);
  number = omega (arith, ap map.len c.requires, map.len-empty key_cmp g.row.Row.Denot);
}

pub loop-i-preserved : goal.loop-i-preserved
loop-i-preserved g c =
    let shown = g.L.Look.shown c.args.rows.now in
    let more = take_at c.args.keys.now c.loop-i.i c.at-key.result c.at-key.ensures in
    elim c.match-look.branch [
      | in-Some w ↦ record {
        so_far = w.seen-is ∙ w.put.ensures ∙ ap (λ m. map.insert m c.at-key.result w.in-Some.row) c.loop-i.invariant.so_far ∙ view-push_row shown _ c.at-key.result w.in-Some.row (sym w.in-Some.ensures) ∙ ap (view shown) (sym more);
        number = omega (arith, ap map.len (w.seen-is ∙ w.put.ensures), len-insert-le c.loop-i.seen c.at-key.result w.in-Some.row, c.loop-i.invariant.number);
      }
      | in-None w ↦ record {
        so_far = w.seen-is ∙ c.loop-i.invariant.so_far ∙ view-push_none shown _ c.at-key.result (sym w.in-None.ensures) ∙ ap (view shown) (sym more);
        number = omega (arith, ap map.len w.seen-is, c.loop-i.invariant.number);
      }
    ]

pub put-requires : goal.put-requires
put-requires g c = (search rules, omega (arith, len-insert-le c.loop-i.seen c.at-key.result c.in-Some.row, c.loop-i.invariant.number, c.loop-i-test.true, c.len-i-end.ensures.len, c.len-i-end.ensures.at_most))
