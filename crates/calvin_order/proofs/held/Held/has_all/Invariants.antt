use Rattle.std.proofs.Common.{ℕ, ◌<◌, IsSome}
use Rattle.std.specs.FinMap.{get}
use Rattle.calvin_order.proofs.held.Held.has_all.Given as goal

abbrev pub invariant-loop-group : goal.invariant-loop-group
invariant-loop-group g l = (h : ℕ) → h < l.group → IsSome (get l.self.batches (record { epoch = l.epoch; group = h }))
