-- The nodes so far have their pens and their marks; the others are to come.
use Rattle.std.proofs.Common.{◌≡◌, ◌++◌, length}
use Rattle.std.specs.Vec.Iter.{into_iter_items}
use Rattle.calvin_histories.specs.Locked.{AreLockedOf}
use Rattle.calvin_wide_desk.proofs.Going.{AreMarkedAt}
use Rattle.calvin_wide_desk.proofs.founding.found_all.Given as goal

abbrev pub invariant-loop-node : goal.invariant-loop-node
invariant-loop-node g l = record {
  taken : l.pens ≡ length l.yielded;
  marked : length l.marks.items ≡ length l.yielded;
  nodes : AreLockedOf g.A.App.meaning l.book (l.yielded ++ into_iter_items l.node-iterator);
  marks : AreMarkedAt g.A.App.meaning l.book l.marks.items;
}
