-- The nodes up to here have no next entry that fits, if none was taken.
use Rattle.std.proofs.Common.{◌≡◌, ◌<◌, ℕ, false}
use Rattle.calvin_histories.specs.Assembling.{IsBegun, IsIndexed, IsStuckAt}
use Rattle.calvin_histories.proofs.assembly.Assembly.round.Given as goal

abbrev pub invariant-loop-at : goal.invariant-loop-at
invariant-loop-at g l = record {
  config : (l.self.config ≡ l.fn.self.config) × (l.self.book.config ≡ l.fn.self.book.config);
  begun : IsBegun g.A.App.meaning l.self.book l.histories l.self.taken.items;
  listed : IsIndexed g.A.App.meaning l.self.book l.self.senders;
  stuck : l.went ≡ false → (i : ℕ) → i < l.at → IsStuckAt g.A.App.meaning l.self.book l.histories l.self.taken.items i;
}
