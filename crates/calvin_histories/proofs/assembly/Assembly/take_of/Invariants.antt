-- So many entries of the node are taken.
use Rattle.std.proofs.Common.{◌≡◌, ◌≤◌, Some}
use Rattle.std.specs.Prelude.{slice_get}
use Rattle.calvin_histories.specs.Assembling.{IsBegun, IsIndexed}
use Rattle.calvin_histories.proofs.assembly.Assembly.take_of.Given as goal

abbrev pub invariant-loop-number : goal.invariant-loop-number
invariant-loop-number g l = record {
  config : (l.self.config ≡ l.fn.self.config) × (l.self.book.config ≡ l.fn.self.book.config);
  begun : IsBegun g.A.App.meaning l.self.book l.histories l.self.taken.items;
  listed : IsIndexed g.A.App.meaning l.self.book l.self.senders;
  taken : slice_get l.self.taken.items l.at ≡ Some l.number;
  bound : l.first ≤ l.number;
  same : l.number ≡ l.first → (l.self.book ≡ l.fn.self.book) × (l.self.taken.items ≡ l.fn.self.taken.items);
}
