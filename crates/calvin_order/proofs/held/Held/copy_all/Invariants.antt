-- The requests so far are copied, and there is room for the others.
use Rattle.std.proofs.Common.{◌≡◌, ◌+◌, ◌≤◌, ◌++◌, length, map, vec_len, vec_capacity}
use Rattle.calvin_order.specs.Configs.{order_config, together}
use Rattle.calvin_order.specs.Merging.{batch_at}
use Rattle.calvin_order.proofs.held.Held.copy_all.Given as goal

abbrev pub invariant-loop-txn : goal.invariant-loop-txn
invariant-loop-txn g l = record {
  to_come : l.out.items ++ map (λ p. p.1) l.txn-iterator ≡ together (order_config l.config) (batch_at l.self.batches) l.epoch;
  room : vec_len l.out + length l.txn-iterator ≤ vec_capacity l.out;
}
