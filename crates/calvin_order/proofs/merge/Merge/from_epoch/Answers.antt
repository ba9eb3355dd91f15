use Rattle.std.proofs.Common.{sym, subst}
use Rattle.calvin_order.specs.Merging.{EpochsFit}
use Rattle.calvin_order.proofs.Ranges.{none_in_range}
use Rattle.calvin_order.proofs.merge.Merge.from_epoch.Goals as goal

pub invariant_of-result : goal.invariant_of-result
invariant_of-result g c = record {
  in_range = subst (λ h. EpochsFit h.batches) (sym c.new.ensures) (none_in_range _);
  none_kept = c.new-2.ensures.items;
}
