-- Some entries are taken.
use Rattle.std.proofs.Common.{◌≡◌}
use Rattle.calvin_histories.specs.Assembling.{IsBegun, IsIndexed}
use Rattle.calvin_histories.proofs.assembly.Assembly.run.Given as goal

abbrev pub invariant-loop : goal.invariant-loop
invariant-loop g l = record {
  config : (l.assembly.config ≡ l.fn.self.config) × (l.assembly.book.config ≡ l.fn.self.book.config);
  begun : IsBegun g.A.App.meaning l.assembly.book l.histories l.assembly.taken.items;
  listed : IsIndexed g.A.App.meaning l.assembly.book l.assembly.senders;
}
