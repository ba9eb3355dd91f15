use Rattle.std.proofs.Common.{◌≡◌, ◌≤◌, ◌++◌, ℕ, Some, map, drop, length, slice_get}
use Rattle.std.specs.FinMap as finmap
use Rattle.calvin_types.specs.declared.key.Key.{Key}
use Rattle.calvin_types.specs.Keys.{key_cmp}
use Rattle.calvin_app.proofs.kv.add_values.Given as goal

-- the keys to come are found behind the rows that were found
abbrev pub invariant-loop-i : goal.invariant-loop-i
invariant-loop-i l = record {
  so_far : l.values ++ map (finmap.get l.view) (drop l.i l.keys) ≡ map (finmap.get l.view) l.keys;
  number : length l.values ≤ l.i;
  counted : l.found ≤ l.i;
  behind : (j : ℕ) (k : Key) → l.i ≤ j → slice_get l.keys j ≡ Some k → finmap.find key_cmp k (drop l.found (finmap.entries l.view)) ≡ finmap.find key_cmp k (finmap.entries l.view);
}
