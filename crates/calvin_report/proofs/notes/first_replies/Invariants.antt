use Rattle.std.proofs.Common.{◌≡◌, take}
use Rattle.calvin_report.specs.Notes.{noted}
use Rattle.calvin_report.proofs.notes.first_replies.Given as goal

abbrev pub invariant-loop-i : goal.invariant-loop-i
invariant-loop-i g l = l.replies.items ≡ noted l.packets.packets (take l.i l.notes)
