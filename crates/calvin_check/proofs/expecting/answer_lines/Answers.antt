-- The line of one reply more.
use Rattle.std.proofs.Common.{◌≡◌, ℕ, ◌++◌, ◌∷◌, [], map, take, Some, slice_get, Vec, Global, sym, ap, subst, ◌∙◌}
use Rattle.std.proofs.lemmas.List.{map-append}
use Rattle.std.proofs.lemmas.Option.{slice_get-get_or}
use Rattle.calvin_types.specs.declared.place.Place.{Place}
use Rattle.calvin_types.specs.declared.place.RequestId.{RequestId}
use Rattle.calvin_types.proofs.Fews.{take_at}
use Rattle.calvin_app.specs.declared.answer.Answer.{Answer}
use Rattle.calvin_text.specs.Texts.{line}
use Rattle.calvin_report.specs.Replies.{ByPlace}
use Rattle.calvin_check.proofs.expecting.answer_lines.Goals as goal

pub loop-place-preserved : goal.loop-place-preserved
loop-place-preserved g c =
    let show = g.R.Printed.printed in
    let all = c.args.replies.now.items in
    let i = c.loop-place.place-index in
    let e = c.loop-place-item.result in
    let here = subst (λ (es : ByPlace g.row.R.Denot). slice_get es i ≡ Some e) c.deref-place-items.ensures.value (slice_get-get_or c.deref-place-items.result.now i e c.loop-place-test.true ∙ ap Some (sym c.loop-place-item.is)) in
    let text = c.in_ok-push_line.ensures ∙ ap (λ t. t ++ line show e.0 e.1.0 e.1.1) c.new-line.ensures.items in
    ap (map (λ (v : Vec ℕ Global). v.items)) c.in_ok-push.ensures.items
    ∙ map-append (λ (v : Vec ℕ Global). v.items) c.loop-place.lines.items (c.push_line.new.text ∷ [])
    ∙ ap (λ xs. xs ++ c.push_line.new.text.items ∷ []) c.loop-place.invariant
    ∙ ap (λ l. map (λ (f : Place × (RequestId × Answer g.row.R.Denot)). line show f.0 f.1.0 f.1.1) (take i all) ++ l ∷ []) text
    ∙ sym (
    ap (map (λ (f : Place × (RequestId × Answer g.row.R.Denot)). line show f.0 f.1.0 f.1.1)) (take_at all i e here)
    ∙ map-append (λ (f : Place × (RequestId × Answer g.row.R.Denot)). line show f.0 f.1.0 f.1.1) (take i all) (e ∷ [])
    )
