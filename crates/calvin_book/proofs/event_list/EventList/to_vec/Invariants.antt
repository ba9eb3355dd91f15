-- Those so far.
use Rattle.std.proofs.Common.{◌≡◌, take}
use Rattle.calvin_book.proofs.event_list.EventList.to_vec.Given as goal

abbrev pub invariant-loop-number : goal.invariant-loop-number
invariant-loop-number g l = l.events.items ≡ take l.number l.self.items
