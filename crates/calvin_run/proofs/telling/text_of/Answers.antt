use Rattle.std.proofs.Common.{◌++◌, ap, ◌∙◌}
use Rattle.std.specs.FinMap.{entries}
use Rattle.calvin_report.specs.declared.replies.Epochs.TheVariants.{UpTo}
use Rattle.calvin_report.specs.Replies.{replied, of_epochs, reply_lines}
use Rattle.calvin_report.specs.Reports.{least_standing}
use Rattle.calvin_book.specs.Books.{done_each, world_after}
use Rattle.calvin_text.specs.Texts.{finished_at}
use Rattle.calvin_run.proofs.Ends.{is_told}
use Rattle.calvin_run.proofs.telling.text_of.Goals as goal

pub returns-clause-told : goal.returns-clause-told
returns-clause-told g c =
    let log = c.args.book.now in
    let show = g.A.Reply.Printed.printed in
    let w = c.world-world.result.now in
    let laws = c.told_is_serial.ensures in
    let last = c.finished-last.ensures in
    let replies = c.in_ok-replies.ensures.ok ∙ ap (λ packets. entries (replied packets)) c.packets.ensures in
    let lines = c.in_ok-push_replies.ensures ∙ (λ i. c.new-text.ensures.items i ++ reply_lines show (of_epochs (UpTo (last i)) (replies i))) in
    let chosen = laws.chosen log.config log.events (done_each log.events) w c.world-world.ensures.run in
    let told = laws.finished log.config log.events (done_each log.events) w c.world-world.ensures.run chosen.0 chosen.1 show in
    let end = laws.last (least_standing w) in
    is_told g.A.App.meaning show w (world_after g.A.App.meaning log.config log.events) c.push_last.new.text.items
    (reply_lines show (of_epochs (UpTo (least_standing w)) (entries (replied w.packets)))) (finished_at (least_standing w)) chosen.0 c.world-world.ensures.after chosen.1
    (c.in_ok-push_last.ensures ∙ (λ i. lines i ++ finished_at (last i))) (λ i. told i ++ end i)
