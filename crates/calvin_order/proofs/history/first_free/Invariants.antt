use Rattle.std.proofs.Common.{◌≡◌, ℕ, ◌<◌, ◌≤◌, true}
use Rattle.std.specs.Prelude.{nat_eq}
use Rattle.std.specs.List.{list_any}
use Rattle.calvin_order.proofs.history.first_free.Given as goal

abbrev pub invariant-loop-epoch : goal.invariant-loop-epoch
invariant-loop-epoch l = (e : ℕ) → l.first ≤ e → e < l.epoch-counter → list_any (nat_eq e) l.taken.keys ≡ true
