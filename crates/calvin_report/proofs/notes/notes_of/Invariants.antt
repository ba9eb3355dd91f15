use Rattle.calvin_report.proofs.FirstNotes.{Noted}
use Rattle.calvin_report.proofs.notes.notes_of.Given as goal

abbrev pub invariant-loop-number : goal.invariant-loop-number
invariant-loop-number g l = Noted l.packets.packets l.places.keys l.notes.items l.number
