use Rattle.std.proofs.Common.{◌≡◌, ◌^◌, sym, subst}
use Rattle.std.specs.Prelude.{MatchOption}
use Rattle.calvin_order.specs.Merging.{HoldsAll}
use Rattle.calvin_node_sequencing.proofs.layer.SequencingLayer.next_to_merge.Goals as goal

pub returns-clause-next : goal.returns-clause-next
returns-clause-next g c = subst (λ v. MatchOption c.next.result (v.merged_epochs ≡ 2 ^ 64) (λ epoch. epoch ≡ v.merged_epochs)) c.self.view_is c.next.ensures.next

pub returns-clause-complete : goal.returns-clause-complete
returns-clause-complete g c all =
    let p = c.self.inside in
    c.next.ensures.complete (subst (λ m. HoldsAll p.merge.held p.merge.next m.partitions) (sym c.self.invariant.groups) (subst (λ v. HoldsAll v.held v.merged_epochs v.config.partitions) (sym c.self.view_is) all))
