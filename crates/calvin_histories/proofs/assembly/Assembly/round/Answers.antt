-- A node more has no next entry that fits, or one was taken.
use Rattle.std.proofs.Common.{sym, ap, ◌∙◌, arith, Ok}
use Rattle.std.proofs.lemmas.Bool.{false≢true}
use Rattle.calvin_histories.proofs.Assembling.{ok_is, stuck_kept, stuck_more}
use Rattle.calvin_histories.proofs.assembly.Assembly.round.Goals.{then-branch, else-branch}
use Rattle.calvin_histories.proofs.assembly.Assembly.round.Goals as goal

pub loop-at-preserved : goal.loop-at-preserved
loop-at-preserved g c = record {
  config = (c.in_ok-take_of.ensures.config.0 ∙ c.loop-at.invariant.config.0, c.in_ok-take_of.ensures.config.1 ∙ c.loop-at.invariant.config.1);
  begun = c.in_ok-take_of.ensures.begun;
  listed = c.in_ok-take_of.ensures.listed;
  stuck = elim c.if-branch.branch [
    | then-branch w ↦ λ e. absurd (false≢true (sym e ∙ w.went-is))
    | else-branch w ↦ λ e.
        let same = c.in_ok-take_of.ensures.same (ap Ok w.if-branch.false) in
        stuck_kept g.A.App.meaning c.args.histories.now c.loop-at.self.book c.take_of.new.self.book c.loop-at.self.taken.items c.take_of.new.self.taken.items c.loop-at.at same.0 same.1 (c.loop-at.invariant.stuck (sym w.went-is ∙ e)) c.in_ok-take_of.ensures.stuck
  ];
}

pub returns-clause-stuck : goal.returns-clause-stuck
returns-clause-stuck g c = λ e. stuck_more g.A.App.meaning c.args.histories.now c.loop-at.self.book c.loop-at.self.taken.items c.loop-at.at (let past = c.loop-at-test.false in omega (arith, past)) (c.loop-at.invariant.stuck (ok_is e))
