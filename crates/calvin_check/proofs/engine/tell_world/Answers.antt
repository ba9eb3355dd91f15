-- The lines are those of the world, one after another.
use Rattle.std.proofs.Common.{◌≡◌, ◌∷◌, [], ◌++◌, Some, map, ap, sym, subst, ◌∙◌}
use Rattle.std.specs.Prelude.{IfOk, option_map, string_bytes}
use Rattle.std.specs.FinMap.{entries}
use Rattle.calvin_text.specs.Texts.{line, finished_at}
use Rattle.calvin_report.specs.declared.replies.Epochs.TheVariants.{All}
use Rattle.calvin_report.specs.Replies.{replied, of_epochs, reply_lines}
use Rattle.calvin_check.specs.Checks.{are_lines, are_expected, answer_lines}
use Rattle.calvin_check.proofs.Telling.{anyway}
use Rattle.calvin_check.proofs.engine.tell_world.Goals as goal

pub returns-in-None-clause-told : goal.returns-in-None-clause-told
returns-in-None-clause-told g c =
    let show = g.A.Reply.Printed.printed in
    let replies = c.in_ok-replies.ensures.ok ∙ ap (λ packets. entries (replied packets)) c.packets.ensures in
    let nodes = c.in_ok-push_nodes.ensures in
    let both = c.in_ok-push_replies.ensures ∙ (λ i. nodes i ++ reply_lines show (of_epochs All (replies i))) in
    c.in_ok-push_last.ensures ∙ (λ i. both i ++ finished_at (c.finished-last.ensures i))

pub returns-clause-told : goal.returns-clause-told
returns-clause-told g c =
    let show = g.A.Reply.Printed.printed in
    let replies = c.in_ok-replies.ensures.ok ∙ ap (λ packets. entries (replied packets)) c.packets.ensures in
    let nodes = c.in_ok-push_nodes.ensures in
    let both = c.in_ok-push_replies.ensures ∙ (λ i. nodes i ++ reply_lines show (of_epochs All (replies i))) in
    anyway c.are_lines.result _ (c.in_ok-push_last.ensures ∙ (λ i. both i ++ finished_at (c.finished-last.ensures i)))

pub returns-clause-expected : goal.returns-clause-expected
returns-clause-expected g c =
    let show = g.A.Reply.Printed.printed in
    let world = c.args.world.now in
    let replies = c.in_ok-replies.ensures.ok ∙ ap (λ packets. entries (replied packets)) c.packets.ensures in
    let lines : map (λ e. line show e.0 e.1.0 e.1.1) c.in_ok-replies.replies.items ++ finished_at c.finished-last.result ∷ [] ≡ answer_lines show world = λ i. map (λ e. line show e.0 e.1.0 e.1.1) (replies i) ++ finished_at (c.finished-last.ensures i) ∷ [] in
    subst (λ o. IfOk c.are_lines.result (λ are. are ≡ are_expected (option_map (λ v. map string_bytes v.items) o) (answer_lines show world))) (sym c.in-Some.is)
    (subst (λ texts. IfOk c.are_lines.result (λ are. are ≡ are_lines (map string_bytes texts) (answer_lines show world))) c.deref.ensures.value
    (subst (λ told. IfOk c.are_lines.result (λ are. are ≡ are_lines (map string_bytes c.deref.result.now) told)) lines c.are_lines.ensures.same))
