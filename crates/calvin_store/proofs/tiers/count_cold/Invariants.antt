use Rattle.std.proofs.Common.{◌≡◌, ◌+◌, ◌≤◌, length, drop}
use Rattle.calvin_store.specs.Tiers.{names_of, cold_of}
use Rattle.calvin_store.proofs.tiers.count_cold.Given as goal

-- those that were counted and the cold ones to come are all that are cold
abbrev pub invariant-loop-i : goal.invariant-loop-i
invariant-loop-i g l = record {
  so_far : l.count + length (cold_of (names_of l.cold.rows) (drop l.i l.keys)) ≡ length (cold_of (names_of l.cold.rows) l.keys);
  at_most : l.count ≤ l.i;
}
