use Rattle.std.proofs.Common.{◌≡◌, ◌<◌, Some, false, sym, ◌∙◌, subst}
use Rattle.std.specs.FinMap as map
use Rattle.calvin_synod.specs.Roles as roles
use Rattle.calvin_synod.specs.States.{FewCounted}
use Rattle.calvin_synod.proofs.Bounds.{few_counting, few_without}
use Rattle.calvin_synod.proofs.Cases.{current_is}
use Rattle.calvin_synod.proofs.proposer.Proposer.on_promise.Goals as goal

pub invariant_of-self : goal.invariant_of-self
invariant_of-self g c =
    let t = c.in-Some.attempt.now in
    let there = (current_is (map.get c.args.self.now.proposing.attempts c.args.slot) c.args.from c.args.ballot t (sym c.in-Some.ensures)).0 in
    let counted = c.count.ensures.counted t (subst (λ p. map.get p.proposing.attempts c.args.slot ≡ Some t) (sym c.self.view_is) there) in
    let enough = subst (λ p. roles.is_enough p.replicas t ≡ false) (sym c.self.view_is) (sym c.is_enough.ensures ∙ c.if-not-is_enough.true) in
    record {
      at_most = c.self.invariant.at_most;
      few = subst (λ m. FewCounted c.self.inside.replicas m.entries) (sym counted) (few_counting c.self.inside.replicas c.self.inside.attempts.entries c.args.slot t (record { from = c.args.from; vote = c.args.vote }) enough c.self.invariant.few);
      spare_empty = c.self.invariant.spare_empty;
      room = λ e. subst (λ m. 0 < m.room) (sym counted) (c.self.invariant.room e);
      spare_there = c.self.invariant.spare_there;
    }

pub invariant_of-self-2 : goal.invariant_of-self-2
invariant_of-self-2 g c = record {
  at_most = c.self.invariant.at_most;
  few = subst (λ m. FewCounted c.self.inside.replicas m.entries) (sym c.remove.ensures.removed) (few_without c.self.inside.replicas c.self.inside.attempts.entries c.args.slot c.self.invariant.few);
  spare_empty = c.self.invariant.spare_empty;
  room = λ e. subst (λ m. 0 < m.room) (sym c.remove.ensures.removed) (c.self.invariant.room e);
  spare_there = c.self.invariant.spare_there;
}
