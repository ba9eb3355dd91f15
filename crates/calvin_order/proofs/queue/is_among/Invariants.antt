use Rattle.std.proofs.Common.{◌≡◌, drop}
use Rattle.std.specs.List.{list_any}
use Rattle.calvin_order.specs.Sequencing.{same_attempt}
use Rattle.calvin_order.proofs.queue.is_among.Given as goal

abbrev pub invariant-loop-other : goal.invariant-loop-other
invariant-loop-other g l = list_any (same_attempt l.txn) (drop l.other-index l.batch) ≡ list_any (same_attempt l.txn) l.batch
