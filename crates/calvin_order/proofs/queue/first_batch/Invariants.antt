use Rattle.std.proofs.Common.{◌≡◌, ◌≤◌, take, vec_len, vec_capacity}
use Rattle.calvin_order.proofs.queue.first_batch.Given as goal

abbrev pub invariant-loop-i : goal.invariant-loop-i
invariant-loop-i g l = record { so_far : l.txns.items ≡ take l.i l.queue.items; len : vec_len l.txns ≡ l.i; room : l.most ≤ vec_capacity l.txns }
