use Rattle.std.proofs.Common.{true≢false, sym, subst}
use Rattle.std.proofs.lemmas.Option.{none-some}
use Rattle.calvin_synod.specs.States.{FewCounted}
use Rattle.calvin_synod.proofs.Bounds.{none_counted}
use Rattle.calvin_synod.proofs.proposer.Proposer.new.Goals as goal

pub invariant_of-result : goal.invariant_of-result
invariant_of-result g c = record {
  at_most = c.args.config.now.in_range.replicas_at_most;
  few = subst (λ m. FewCounted c.args.config.now.replicas m.entries) (sym c.new.ensures) (none_counted c.args.config.now.replicas);
  spare_empty = λ reports e. absurd (none-some _ e);
  room = λ e. absurd (true≢false (sym e));
  spare_there = λ e. absurd (true≢false (sym e));
}
