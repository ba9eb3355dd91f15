-- None of the packets so far is a reply to it.
use Rattle.std.proofs.Common.{◌≡◌, drop}
use Rattle.calvin_book.specs.Replies as replies
use Rattle.calvin_book.proofs.replies.first_reply.Given as goal

abbrev pub invariant-loop-i : goal.invariant-loop-i
invariant-loop-i g l = replies.first_reply l.id l.attempt (drop l.from l.packets.packets) ≡ replies.first_reply l.id l.attempt (drop l.i l.packets.packets)
