use Rattle.std.proofs.Common.{◌≡◌, Some, slice_get, sym, ◌∙◌, ap, arith}
use Rattle.std.proofs.lemmas.List.{drop_all}
use Rattle.std.proofs.lemmas.Option.{slice_get-get_or}
use Rattle.std.specs.FinMap as map
use Rattle.calvin_types.specs.Keys.{key_cmp}
use Rattle.calvin_app.specs.EntryLaws.{get-shown}
use Rattle.calvin_app.proofs.Puts.{found, passed}
use Rattle.calvin_store_cases.proofs.list_rows.ListRowsRows.get.Goals as goal

pub returns-then-eq : goal.returns-then-eq
returns-then-eq g c =
    let here : slice_get c.self.inside.pairs.items c.loop-i.i ≡ Some c.index.result.now = slice_get-get_or c.self.inside.pairs.items c.loop-i.i c.index.result.now (omega (arith, c.loop-i-test.true, c.len-i-end.ensures, c.self.inside.pairs.ok.0)) ∙ ap Some (sym c.index.ensures) in
    found c.args.key.now c.self.inside.pairs.items c.loop-i.i _ _ here c.loop-i.invariant c.if-eq.ensures
    ∙ sym (get-shown c.self.inside.pairs.items c.args.key.now c.self.invariant.0) ∙ ap (λ k. map.get k.rows c.args.key.now) c.self.view_is

pub loop-i-preserved : goal.loop-i-preserved
loop-i-preserved g c =
    let here : slice_get c.self.inside.pairs.items c.loop-i.i ≡ Some c.index.result.now = slice_get-get_or c.self.inside.pairs.items c.loop-i.i c.index.result.now (omega (arith, c.loop-i-test.true, c.len-i-end.ensures, c.self.inside.pairs.ok.0)) ∙ ap Some (sym c.index.ensures) in
    passed c.args.key.now c.self.inside.pairs.items c.loop-i.i _ _ here c.loop-i.invariant c.if-eq.ensures

pub returns : goal.returns
returns g c =
    ap (map.find key_cmp c.args.key.now) (sym (drop_all c.loop-i.i c.self.inside.pairs.items (omega (arith, c.len-i-end.ensures, c.self.inside.pairs.ok.0)))) ∙ c.loop-i.invariant
    ∙ sym (get-shown c.self.inside.pairs.items c.args.key.now c.self.invariant.0) ∙ ap (λ k. map.get k.rows c.args.key.now) c.self.view_is
