use Rattle.std.proofs.Common.{◌≡◌, ◌<◌, ◌≤◌, ◌⊎◌, length, subst}
use Rattle.std.specs.Prelude.{IfOk, IfErr, IsErrOf, OnOk, ◌↔◌}
use Rattle.calvin_types.specs.declared.fault.Fault.TheVariants.{NotComplete, OutOfMemory}
use Rattle.calvin_order.specs.Configs.{merged}
use Rattle.calvin_order.specs.Merged.{joined}
use Rattle.calvin_order.specs.Merging.{HoldsAll, batch_at}
use Rattle.calvin_order.specs.Walking.{flat}
use Rattle.calvin_node_sequencing.proofs.layer.SequencingLayer.next_segments.Goals as goal

pub returns-clause-merged : goal.returns-clause-merged
returns-clause-merged g c =
    let p = c.self.inside in
    subst (λ v. IfOk c.next_segments.result (λ found. flat found.items ≡ merged v.config (batch_at v.held) v.merged_epochs)) c.self.view_is
    (subst (λ m. IfOk c.next_segments.result (λ found. flat found.items ≡ merged m (batch_at p.merge.held) p.merge.next)) c.self.invariant.groups c.next_segments.ensures.merged)

pub returns-clause-fewer : goal.returns-clause-fewer
returns-clause-fewer g c =
    let p = c.self.inside in
    subst (λ v. IfOk c.next_segments.result (λ found. length found.items ≤ length (joined (batch_at v.held) v.merged_epochs v.config.partitions))) c.self.view_is
    (subst (λ m. IfOk c.next_segments.result (λ found. length found.items ≤ length (joined (batch_at p.merge.held) p.merge.next m.partitions))) c.self.invariant.groups c.next_segments.ensures.fewer)

pub returns-clause-complete : goal.returns-clause-complete
returns-clause-complete g c =
    let p = c.self.inside in
    subst (λ v. OnOk c.next_segments.result (HoldsAll v.held v.merged_epochs v.config.partitions)) c.self.view_is
    (subst (λ m. OnOk c.next_segments.result (HoldsAll p.merge.held p.merge.next m.partitions)) c.self.invariant.groups c.next_segments.ensures.complete)

pub returns-clause-not_complete : goal.returns-clause-not_complete
returns-clause-not_complete g c =
    let p = c.self.inside in
    subst (λ v. IsErrOf c.next_segments.result NotComplete ↔ (HoldsAll v.held v.merged_epochs v.config.partitions → ⊥)) c.self.view_is
    (subst (λ m. IsErrOf c.next_segments.result NotComplete ↔ (HoldsAll p.merge.held p.merge.next m.partitions → ⊥)) c.self.invariant.groups c.next_segments.ensures.not_complete)

pub returns-clause-only : goal.returns-clause-only
returns-clause-only g c =
    let p = c.self.inside in
    subst (λ v. IfErr c.next_segments.result (λ fault. (fault ≡ NotComplete) ⊎ ((fault ≡ OutOfMemory) × (0 < length (joined (batch_at v.held) v.merged_epochs v.config.partitions))))) c.self.view_is
    (subst (λ m. IfErr c.next_segments.result (λ fault. (fault ≡ NotComplete) ⊎ ((fault ≡ OutOfMemory) × (0 < length (joined (batch_at p.merge.held) p.merge.next m.partitions))))) c.self.invariant.groups c.next_segments.ensures.only)
