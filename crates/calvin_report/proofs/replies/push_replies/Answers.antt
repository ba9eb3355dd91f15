use Rattle.std.proofs.Common.{◌≡◌, ◌≤◌, ◌++◌, length, take, Some, slice_get, sym, ap, subst, ◌∙◌}
use Rattle.std.proofs.lemmas.List.{append_assoc, take_all}
use Rattle.std.proofs.lemmas.Option.{slice_get-get_or}
use Rattle.calvin_text.specs.Texts.{line}
use Rattle.calvin_report.specs.Replies.{ByPlace, of_epochs, reply_lines}
use Rattle.calvin_report.proofs.ReplyLines.{told_more, passed_more}
use Rattle.calvin_report.proofs.replies.push_replies.Goals as goal
use Rattle.calvin_report.proofs.replies.push_replies.Goals.{then-has+in_ok-push_line, else-has}

pub loop-place-preserved : goal.loop-place-preserved
loop-place-preserved g c =
    let show = g.R.Printed.printed in
    let all = c.args.replies.now.items in
    let i = c.loop-place.place-index in
    let e = c.loop-place-item.result in
    let here = subst (λ (es : ByPlace g.row.R.Denot). slice_get es i ≡ Some e) c.deref-place-items.ensures.value (slice_get-get_or c.deref-place-items.result.now i e c.loop-place-test.true ∙ ap Some (sym c.loop-place-item.is)) in
    elim c.if-has.branch [
      | then-has+in_ok-push_line w ↦ ap (λ v. v.items) w.text-is ∙ w.in_ok-push_line.ensures ∙ ap (λ t. t ++ line show e.0 e.1.0 e.1.1) c.loop-place.invariant
          ∙ append_assoc c.args.text.now.items (reply_lines show (of_epochs c.args.epochs (take i all))) (line show e.0 e.1.0 e.1.1) ∙ ap (λ l. c.args.text.now.items ++ l) (sym (told_more show c.args.epochs all i e here (sym c.has.ensures ∙ w.if-has.true)))
      | else-has w ↦ ap (λ v. v.items) w.text-is ∙ c.loop-place.invariant ∙ ap (λ l. c.args.text.now.items ++ l) (sym (passed_more show c.args.epochs all i e here (sym c.has.ensures ∙ w.if-has.false)))
    ]

pub returns : goal.returns
returns g c =
    let all = c.args.replies.now.items in
    let i = c.loop-place.place-index in
    let none_left = subst (λ (es : ByPlace g.row.R.Denot). length es ≤ i) c.deref-place-items.ensures.value c.loop-place-test.false in
    c.loop-place.invariant ∙ ap (λ (es : ByPlace g.row.R.Denot). c.args.text.now.items ++ reply_lines g.R.Printed.printed (of_epochs c.args.epochs es)) (take_all i all none_left)
