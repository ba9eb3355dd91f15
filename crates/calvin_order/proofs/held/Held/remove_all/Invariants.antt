use Rattle.std.proofs.Common.{◌≡◌}
use Rattle.calvin_order.specs.Merging.{without_epoch}
use Rattle.calvin_order.proofs.held.Held.remove_all.Given as goal

abbrev pub invariant-loop-group : goal.invariant-loop-group
invariant-loop-group g l = l.self ≡ record l.initial.self { batches = without_epoch l.epoch l.group l.initial.self.batches }
