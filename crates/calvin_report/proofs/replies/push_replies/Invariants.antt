use Rattle.std.proofs.Common.{◌≡◌, ◌++◌, take}
use Rattle.calvin_report.specs.Replies.{of_epochs, reply_lines}
use Rattle.calvin_report.proofs.replies.push_replies.Given as goal

abbrev pub invariant-loop-place : goal.invariant-loop-place
invariant-loop-place g l = l.text.items ≡ l.initial.text.items ++ reply_lines g.R.Printed.printed (of_epochs l.epochs (take l.place-index l.replies.items))
