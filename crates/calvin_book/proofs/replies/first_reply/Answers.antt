-- A packet that is no reply is passed over, and one that is a reply is the first.
use Rattle.std.proofs.Common.{sym, ◌∙◌}
use Rattle.calvin_book.proofs.Firsts.{passed_over, found_there}
use Rattle.calvin_book.proofs.replies.first_reply.Goals as goal

pub loop-i-preserved : goal.loop-i-preserved
loop-i-preserved g c = c.loop-i.invariant ∙ passed_over c.args.id c.args.attempt c.args.packets.now.packets c.loop-i.i c.reply_at-reply.result c.reply_at-reply.ensures (sym c.if-is_some.false ∙ c.is_some.ensures)

pub returns-then-is_some : goal.returns-then-is_some
returns-then-is_some g c = sym (c.loop-i.invariant ∙ found_there c.args.id c.args.attempt c.args.packets.now.packets c.loop-i.i c.reply_at-reply.result c.reply_at-reply.ensures (sym c.if-is_some.true ∙ c.is_some.ensures))
