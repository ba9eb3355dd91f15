use Rattle.std.proofs.Common.{rules, ◌≡◌, Some, slice_get, sym, ap, ◌∙◌, arith}
use Rattle.std.proofs.lemmas.Option.{slice_get-get_or}
use Rattle.std.specs.FinMap as map
use Rattle.calvin_app.proofs.Views.{shown_none, len-insert-le}
use Rattle.calvin_view_list.proofs.Cuts.{shown-next, len-so-far}
use Rattle.calvin_view_list.proofs.view_list.put_all.Goals as goal

pub loop-i-init : goal.loop-i-init
loop-i-init g c = c.requires.none ∙ sym shown_none

pub put-requires : goal.put-requires
put-requires g c = (search rules, omega (arith, len-insert-le c.loop-i.view c.index-entries-i.result.0 c.index-entries-i.result.1, ap map.len c.loop-i.invariant, len-so-far c.args.entries.now c.loop-i.i c.requires.rising c.loop-i.auto.i-end, c.loop-i-test.true, c.requires.few))

pub loop-i-preserved : goal.loop-i-preserved
loop-i-preserved g c =
    let entry = c.index-entries-i.result in
    let here : slice_get c.args.entries.now c.loop-i.i ≡ Some (entry.0, entry.1) = slice_get-get_or c.args.entries.now c.loop-i.i entry c.loop-i-test.true ∙ ap Some (sym c.index-entries-i.is) in
    c.put.ensures ∙ ap (λ m. map.insert m entry.0 entry.1) c.loop-i.invariant ∙ shown-next c.args.entries.now c.loop-i.i entry.0 entry.1 c.requires.rising here
