use Rattle.std.proofs.Common.{sym, subst}
use Rattle.calvin_order.specs.Merging.{EpochsFit}
use Rattle.calvin_order.proofs.Ranges.{fewer_in_range}
use Rattle.calvin_order.proofs.merge.Merge.discard_epoch.Goals as goal

pub invariant_of-self : goal.invariant_of-self
invariant_of-self g c = record {
  in_range = subst (λ h. EpochsFit h.batches) (sym c.remove_all.ensures) (fewer_in_range c.self.inside.held.batches _ _ c.self.invariant.in_range);
  none_kept = c.self.invariant.none_kept;
}
