use Rattle.std.proofs.Common.{◌≡◌, ◌<◌, ◌++◌, ◌∷◌, [], false, true≢false, length, sym, ◌∙◌, subst, arith, length-append}
use Rattle.std.specs.FinMap.{get}
use Rattle.std.specs.Option.{unwrap_or}
use Rattle.calvin_synod.specs.Quorums.{majority}
use Rattle.calvin_synod.specs.Roles.{completes}
use Rattle.calvin_synod.specs.States.{FewVoters}
use Rattle.calvin_synod.proofs.Bounds.{voters_with, voters_without, one_more_few}
use Rattle.calvin_synod.proofs.learner.Learner.on_vote.Goals as goal

pub invariant_of-self-then-branch : goal.invariant_of-self-then-branch
invariant_of-self-then-branch g c = record {
  at_most = c.self.invariant.at_most;
  few = subst (λ t. FewVoters c.self.inside.replicas t.counted) (sym c.remove.ensures) (voters_without c.self.inside.replicas c.self.inside.counted.counted (record { slot = c.args.slot; ballot = c.args.ballot }) c.self.invariant.few);
  room_counted = λ e. absurd (true≢false (sym e));
  room_given = λ e. absurd (true≢false (sym e));
}

pub invariant_of-self-2 : goal.invariant_of-self-2
invariant_of-self-2 g c =
    let enough = sym c.in_ok-completes.ensures.completes ∙ c.if-branch.false in
    let voters = unwrap_or (get c.self.inside.counted.counted (record { slot = c.args.slot; ballot = c.args.ballot })) [] in
    let few = one_more_few c.self.inside.replicas (length voters) (subst (λ l. completes l.replicas l.learning c.args.slot c.args.ballot ≡ false) (sym c.self.view_is) enough) in
    let less : length (voters ++ c.args.from ∷ []) < majority c.self.inside.replicas = omega (arith, few, length-append voters (c.args.from ∷ [])) in
    record {
      at_most = c.self.invariant.at_most;
      few = subst (λ t. FewVoters c.self.inside.replicas t.counted) (sym c.in_ok-add.ensures.added) (voters_with c.self.inside.replicas c.self.inside.counted.counted (record { slot = c.args.slot; ballot = c.args.ballot }) (voters ++ c.args.from ∷ []) less c.self.invariant.few);
      room_counted = λ e. absurd (true≢false (sym e));
      room_given = λ e. absurd (true≢false (sym e));
    }
