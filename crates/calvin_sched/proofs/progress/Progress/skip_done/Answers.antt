use Rattle.std.proofs.Common.{sym, ◌∙◌, arith}
use Rattle.calvin_sched.specs.Progress.{done_at}
use Rattle.calvin_sched.proofs.DueLists.{popped, none_goes}
use Rattle.calvin_sched.proofs.progress.Progress.skip_done.Goals as goal

pub loop-self-preserved : goal.loop-self-preserved
loop-self-preserved g c = record {
  merged = c.loop-self.invariant.merged;
  done = c.loop-self.invariant.done;
  due = popped (done_at c.args.opened c.args.turns.now.kept) c.pop_front-done.result c.loop-self.self.due.items c.pop_front-done.new.self.items c.pop_front-done.ensures.items (sym c.is_first_done.ensures ∙ c.loop-self-test.true)
      ∙ c.loop-self.invariant.due;
  room = c.loop-self.invariant.room;
  reserved = omega (arith, c.loop-self.invariant.reserved, c.pop_front-done.ensures.len, c.pop_front-done.ensures.capacity);
}

pub returns-clause-due : goal.returns-clause-due
returns-clause-due g c =
    sym (none_goes (done_at c.args.opened c.args.turns.now.kept) c.loop-self.self.due.items (sym c.is_first_done.ensures ∙ c.loop-self-test.false)) ∙ c.loop-self.invariant.due
