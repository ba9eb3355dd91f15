use Rattle.std.proofs.Common.{◌≡◌, ◌↔◌, ℕ, ◌<◌, ◌≤◌, true, false}
use Rattle.calvin_lock.specs.Marks.{is_marked, AreMarks}
use Rattle.calvin_lock.specs.Unreleased.{IsReadyAt}
use Rattle.calvin_lock.proofs.unreleased.Unreleased.mark_ready.Given as goal

abbrev pub invariant-loop-i : goal.invariant-loop-i
invariant-loop-i l = record {
  kept : AreMarks l.self.marks;
  leaves : l.self.marks.leaves ≡ l.fn.self.marks.leaves;
  order : l.self.order ≡ l.fn.self.order;
  places : l.self.places ≡ l.fn.self.places;
  done : (k : ℕ) → k < l.i → (is_marked l.self.marks k ≡ true) ↔ IsReadyAt l.fn.self.order.items l.fn.self.places.entries k;
  rest : (k : ℕ) → l.i ≤ k → is_marked l.self.marks k ≡ false;
}
