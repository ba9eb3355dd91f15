use Rattle.std.proofs.Common.{◌≡◌, suc, sym, ap, subst, ◌∙◌}
use Rattle.calvin_order.specs.Merging.{HoldsAll}
use Rattle.calvin_node_acts.specs.Layers.{layer_of}
use Rattle.calvin_node_acts.proofs.Merges.{passed}
use Rattle.calvin_node_sequencing.proofs.layer.SequencingLayer.pass_epoch.Goals as goal

pub invariant_of-self : goal.invariant_of-self
invariant_of-self g c =
    let p = c.self.inside in
    let there = subst (λ m. HoldsAll p.merge.held p.merge.next m.partitions) (sym c.self.invariant.groups) (subst (λ v. HoldsAll v.held v.merged_epochs v.config.partitions) (sym c.self.view_is) c.requires) in
    let done = passed c.pass_epoch-passed.result p.merge c.pass_epoch-passed.new.self there c.pass_epoch-passed.ensures.next c.pass_epoch-passed.ensures.not_complete.0 c.pass_epoch-passed.ensures.only in
    record { group_size = c.self.invariant.group_size; replica = c.self.invariant.replica; groups = ap (λ m. m.config) done ∙ c.self.invariant.groups }

pub returns : goal.returns
returns g c =
    let p = c.self.inside in
    let there = subst (λ m. HoldsAll p.merge.held p.merge.next m.partitions) (sym c.self.invariant.groups) (subst (λ v. HoldsAll v.held v.merged_epochs v.config.partitions) (sym c.self.view_is) c.requires) in
    let done = passed c.pass_epoch-passed.result p.merge c.pass_epoch-passed.new.self there c.pass_epoch-passed.ensures.next c.pass_epoch-passed.ensures.not_complete.0 c.pass_epoch-passed.ensures.only in
    subst (λ v. layer_of p.config p.id p.member p.sequencer c.pass_epoch-passed.new.self ≡ record v { merged_epochs = suc v.merged_epochs }) c.self.view_is (ap (λ m. layer_of p.config p.id p.member p.sequencer m) done)
