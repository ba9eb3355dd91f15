use Rattle.std.proofs.Common.{◌≡◌, ◌+◌, ◌≤◌, ◌++◌, length, vec_len, vec_capacity}
use Rattle.calvin_order.specs.Configs.{order_config, merged}
use Rattle.calvin_order.specs.Merging.{batch_at}
use Rattle.calvin_order.proofs.held.Held.append_all.Given as goal

abbrev pub invariant-loop-place : goal.invariant-loop-place
invariant-loop-place g l = record {
  to_come : l.out.items ++ l.place-iterator ≡ merged (order_config l.config) (batch_at l.self.batches) l.epoch;
  room : vec_len l.out + length l.place-iterator ≤ vec_capacity l.out;
}
