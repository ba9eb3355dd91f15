use Rattle.std.proofs.Common.{◌≡◌, ◌^◌, ℕ, ap, subst}
use Rattle.std.specs.Prelude.{MatchOption}
use Rattle.calvin_node.proofs.node.Node.next_to_merge.Goals as goal

pub returns : goal.returns
returns g c = subst (λ (n : ℕ). MatchOption c.next_to_merge.result (n ≡ 2 ^ 64) (λ epoch. epoch ≡ n)) (ap (λ v. v.state.merged_epochs) c.self.view_is) c.next_to_merge.ensures.next
