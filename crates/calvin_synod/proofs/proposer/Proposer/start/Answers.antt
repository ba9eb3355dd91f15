use Rattle.std.proofs.Common.{◌<◌, length, true≢false, sym, ◌∙◌, subst}
use Rattle.std.proofs.lemmas.Option.{none-some}
use Rattle.calvin_synod.specs.Quorums.{majority}
use Rattle.calvin_synod.specs.States.{FewCounted}
use Rattle.calvin_synod.proofs.Bounds.{few_with, majority_some}
use Rattle.calvin_synod.proofs.proposer.Proposer.start.Goals as goal

pub invariant_of-self-2 : goal.invariant_of-self-2
invariant_of-self-2 g c =
    let none = subst (λ reports. length reports < majority c.self.inside.replicas) (sym c.in_ok-counted.ensures.none) (majority_some c.self.inside.replicas) in
    record {
      at_most = c.self.invariant.at_most;
      few = subst (λ m. FewCounted c.self.inside.replicas m.entries) (sym c.in_ok-insert.ensures.put) (few_with c.self.inside.replicas c.self.inside.attempts.entries c.args.slot (record { ballot = c.in_ok-ballot.ballot; own = c.args.value; counted = c.in_ok-counted.counted }) none c.self.invariant.few);
      spare_empty = λ reports e. absurd (none-some _ (sym c.take.ensures.after ∙ e));
      room = λ e. absurd (true≢false (sym e));
      spare_there = λ e. absurd (true≢false (sym e));
    }
