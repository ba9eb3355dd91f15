use Rattle.std.proofs.Common.{sym, ◌∙◌, ap, arith}
use Rattle.std.proofs.lemmas.List.{drop_all}
use Rattle.std.proofs.lemmas.Option.{slice_get_read}
use Rattle.std.specs.FinMap as map
use Rattle.calvin_types.specs.Keys.{key_cmp}
use Rattle.calvin_app.specs.EntryLaws.{get-shown}
use Rattle.calvin_app.proofs.Puts.{found, passed}
use Rattle.calvin_row_list.proofs.row_list.RowList.get.Goals as goal

pub returns-then-eq : goal.returns-then-eq
returns-then-eq g c =
    let es = c.self.inside.entries.items in
    found c.args.key.now es c.loop-i.i c.index.result.now _ (slice_get_read c.self.inside.entries.items c.len-i-end.result c.loop-i.i _ (c.len-i-end.ensures ∙ c.self.inside.entries.ok.0) c.loop-i-test.true c.index.ensures) c.loop-i.invariant c.if-eq.ensures
    ∙ sym (get-shown es c.args.key.now c.self.invariant.rises) ∙ ap (λ l. map.get l.rows c.args.key.now) c.self.view_is

pub loop-i-preserved : goal.loop-i-preserved
loop-i-preserved g c = passed c.args.key.now c.self.inside.entries.items c.loop-i.i c.index.result.now _ (slice_get_read c.self.inside.entries.items c.len-i-end.result c.loop-i.i _ (c.len-i-end.ensures ∙ c.self.inside.entries.ok.0) c.loop-i-test.true c.index.ensures) c.loop-i.invariant c.if-eq.ensures

pub returns : goal.returns
returns g c =
    let es = c.self.inside.entries.items in
    ap (map.find key_cmp c.args.key.now) (sym (drop_all c.loop-i.i es (omega arith))) ∙ c.loop-i.invariant
    ∙ sym (get-shown es c.args.key.now c.self.invariant.rises) ∙ ap (λ l. map.get l.rows c.args.key.now) c.self.view_is
