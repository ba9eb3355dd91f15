-- The events up to here happened at their nodes.
use Rattle.std.proofs.Common.{take}
use Rattle.calvin_histories.specs.Locked.{AreLockedOf}
use Rattle.calvin_histories.proofs.opening.lock_nodes.Given as goal

abbrev pub invariant-loop-number : goal.invariant-loop-number
invariant-loop-number g l = AreLockedOf g.A.App.meaning (record { config = l.book.config; events = take l.number l.book.events }) l.nodes.items
