use Rattle.std.proofs.Common.{true≢false, sym, subst}
use Rattle.calvin_synod.specs.States.{FewVoters}
use Rattle.calvin_synod.proofs.Bounds.{no_voters}
use Rattle.calvin_synod.proofs.learner.Learner.new.Goals as goal

pub invariant_of-result : goal.invariant_of-result
invariant_of-result c = record {
  at_most = c.args.config.now.in_range.replicas_at_most;
  few = subst (λ t. FewVoters c.args.config.now.replicas t.counted) (sym c.new.ensures) (no_voters c.args.config.now.replicas);
  room_counted = λ e. absurd (true≢false (sym e));
  room_given = λ e. absurd (true≢false (sym e));
}
