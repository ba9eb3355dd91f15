use Rattle.std.proofs.Common.{rules, sym, ap, ◌∙◌, arith}
use Rattle.std.proofs.lemmas.Option.{slice_get_read}
use Rattle.std.specs.FinMap as map
use Rattle.calvin_types.specs.Keys.{key_cmp}
use Rattle.calvin_app.proofs.Views.{shown_none, len-insert-le}
use Rattle.calvin_row_list.proofs.Fronts.{shown-next}
use Rattle.calvin_row_list.proofs.row_list.RowList.put_into.Goals as goal

pub loop-i-init : goal.loop-i-init
loop-i-init g c = record {
  so_far = c.requires ∙ sym shown_none;
  number = omega (arith, ap map.len c.requires, map.len-empty key_cmp g.row.Row.Denot);
}

pub put-requires : goal.put-requires
put-requires g c = (search rules, omega (arith, len-insert-le c.loop-i.view c.index.result.now.0 c.index.result.now.1, c.loop-i.invariant.number, c.loop-i-test.true, c.len-i-end.ensures, c.self.invariant.few))

pub loop-i-preserved : goal.loop-i-preserved
loop-i-preserved g c =
    let es = c.self.inside.entries.items in
    let e = c.index.result.now in
    record {
      so_far = c.put.ensures ∙ ap (λ m. map.insert m e.0 e.1) c.loop-i.invariant.so_far ∙ shown-next es c.loop-i.i e c.self.invariant.rises (slice_get_read c.self.inside.entries.items c.len-i-end.result c.loop-i.i _ (c.len-i-end.ensures ∙ c.self.inside.entries.ok.0) c.loop-i-test.true c.index.ensures);
      number = omega (arith, ap map.len c.put.ensures, len-insert-le c.loop-i.view e.0 e.1, c.loop-i.invariant.number);
    }
