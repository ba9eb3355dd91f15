use Rattle.std.proofs.Common.{◌≡◌, ◌+◌, ◌-◌, length}
use Rattle.std.below.core.specs.declared.int.usize.TheConstants.{MAX}
use Rattle.calvin_journal.proofs.reader.Reader.peek_line.Given as goal

abbrev pub invariant-loop-self : goal.invariant-loop-self
invariant-loop-self g l = record {
  done : l.self.done ≡ l.fn.self.done;
  told : g.L.Log.told l.self.log ≡ g.L.Log.told l.fn.self.log;
  no_failure : g.L.Log.failures l.self.log ≡ g.L.Log.failures l.fn.self.log;
}

abbrev pub decreases-loop-self : goal.decreases-loop-self
decreases-loop-self g l = MAX - (l.self.done + (length l.self.read.items - l.self.start))
