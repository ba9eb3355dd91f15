use Rattle.std.proofs.Common.{sym, subst, arith}
use Rattle.calvin_order.specs.Merging.{EpochsFit}
use Rattle.calvin_order.proofs.Ranges.{one_more_in_range}
use Rattle.calvin_order.proofs.merge.Merge.hold.Goals as goal

pub invariant_of-self-2 : goal.invariant_of-self-2
invariant_of-self-2 g c = record {
  in_range = subst (λ h. EpochsFit h.batches) (sym c.in_ok-insert.ensures.held) (one_more_in_range c.self.inside.held.batches c.args.slot c.args.batch (omega arith) c.self.invariant.in_range);
  none_kept = c.self.invariant.none_kept;
}
