use Rattle.std.proofs.Common.{sym, ◌∙◌, ap, drop, arith, rules}
use Rattle.std.proofs.lemmas.List.{drop_all}
use Rattle.std.specs.FinMap as map
use Rattle.calvin_types.specs.Keys.{key_cmp}
use Rattle.calvin_app.specs.EntryLaws.{entries_kept}
use Rattle.calvin_app.proofs.Puts.{found, passed}
use Rattle.calvin_app.proofs.Ends.{find_before, rising-drop, slice_get-drop}
use Rattle.calvin_app.proofs.view.View.get_from.Goals as goal

pub returns-then-is_below : goal.returns-then-is_below
returns-then-is_below g c =
    let es = c.self.inside.entries in
    sym (find_before c.args.key.now (drop c.args.place es) (rising-drop es c.args.place c.self.invariant) (λ e here. c.if-is_below.ensures (search rules) e (sym (slice_get-drop es c.args.place) ∙ here)))
    ∙ ap (λ es. map.find key_cmp c.args.key.now (drop c.args.place es)) (sym (entries_kept es c.self.invariant) ∙ ap map.entries c.self.view_is)

pub returns-then-eq : goal.returns-then-eq
returns-then-eq g c =
    found c.args.key.now c.self.inside.entries c.loop-i.i _ _ c.at-row.ensures c.loop-i.invariant c.if-eq.ensures
    ∙ ap (λ es. map.find key_cmp c.args.key.now (drop c.args.place es)) (sym (entries_kept c.self.inside.entries c.self.invariant) ∙ ap map.entries c.self.view_is)

pub loop-i-preserved : goal.loop-i-preserved
loop-i-preserved g c = passed c.args.key.now c.self.inside.entries c.loop-i.i _ _ c.at-row.ensures c.loop-i.invariant c.if-eq.ensures

pub returns : goal.returns
returns g c =
    ap (map.find key_cmp c.args.key.now) (sym (drop_all c.loop-i.i c.self.inside.entries (omega arith))) ∙ c.loop-i.invariant
    ∙ ap (λ es. map.find key_cmp c.args.key.now (drop c.args.place es)) (sym (entries_kept c.self.inside.entries c.self.invariant) ∙ ap map.entries c.self.view_is)
