use Rattle.std.proofs.Common.{◌++◌, ap, ◌∙◌}
use Rattle.std.specs.FinMap.{entries}
use Rattle.calvin_report.specs.declared.replies.Epochs.TheVariants.{UpTo}
use Rattle.calvin_report.specs.Replies.{replied, of_epochs, reply_lines}
use Rattle.calvin_text.specs.Texts.{finished_at}
use Rattle.calvin_sim.proofs.telling.text_of.Goals as goal

pub returns-clause-text : goal.returns-clause-text
returns-clause-text g c =
    let last = c.finished_but-last.ensures in
    let replies = c.in_ok-replies.ensures.ok ∙ ap (λ packets. entries (replied packets)) c.packets.ensures in
    let told = c.in_ok-push_replies.ensures ∙ (λ i. c.new-text.ensures.items i ++ reply_lines g.A.Reply.Printed.printed (of_epochs (UpTo (last i)) (replies i))) in
    c.in_ok-push_last.ensures ∙ (λ i. told i ++ finished_at (last i))
