use Rattle.std.proofs.Common.{◌≡◌, ◌≤◌, true, length, drop}
use Rattle.std.specs.List.{insert}
use Rattle.calvin_types.specs.declared.key.Key.{Key}
use Rattle.calvin_types.specs.Keys.{below_all}
use Rattle.calvin_types.proofs.key_set.put_from_end.Given as goal

-- the keys are all, with one more where the next one goes, and the new key is below those behind it
abbrev pub invariant-loop-i : goal.invariant-loop-i
invariant-loop-i l = record {
  within : l.i ≤ length l.fn.keys;
  all : (hole : Key) × (l.keys ≡ insert l.fn.keys l.i hole);
  below : below_all l.key (drop l.i l.fn.keys) ≡ true;
}

abbrev pub decreases-loop-i : goal.decreases-loop-i
decreases-loop-i l = l.i
