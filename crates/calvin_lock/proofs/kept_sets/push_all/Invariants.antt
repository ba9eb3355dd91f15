use Rattle.std.proofs.Common.{◌≡◌, ◌++◌, take}
use Rattle.calvin_lock.proofs.kept_sets.push_all.Given as goal

abbrev pub invariant-loop-i : goal.invariant-loop-i
invariant-loop-i l = record {
  items : l.all.items ≡ l.initial.all.items ++ take l.i l.keys;
  capacity : l.all.capacity ≡ l.initial.all.capacity;
}
