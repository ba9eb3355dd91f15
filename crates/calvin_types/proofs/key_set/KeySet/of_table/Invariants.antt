use Rattle.std.proofs.Common.{◌≡◌, ◌≤◌, ◌++◌, ◌==◌, drop, length}
use Rattle.std.specs.List.{filter}
use Rattle.calvin_types.proofs.key_set.KeySet.of_table.Given as goal

abbrev pub invariant-loop-i : goal.invariant-loop-i
invariant-loop-i l = record {
  so_far : l.keys ++ filter (λ k. k.table == l.table) (drop l.i l.self-inside.keys) ≡ filter (λ k. k.table == l.table) l.self-inside.keys;
  room : length l.keys ≤ l.i;
}
