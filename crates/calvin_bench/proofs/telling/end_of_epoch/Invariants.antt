-- The requests so far are of the epoch.
use Rattle.std.proofs.Common.{◌≡◌, ℕ, ◌<◌, ◌≤◌, Some}
use Rattle.std.specs.Prelude.{slice_get}
use Rattle.calvin_types.specs.declared.place.Place.{Place}
use Rattle.calvin_types.specs.declared.txn.Txn.{Txn}
use Rattle.calvin_bench.proofs.telling.end_of_epoch.Given as goal

abbrev pub invariant-loop-i : goal.invariant-loop-i
invariant-loop-i g l = (k : ℕ) (e : Place × Txn g.row.Args.Denot) → l.start ≤ k → k < l.i → slice_get l.order k ≡ Some e → e.0.epoch ≡ l.epoch
