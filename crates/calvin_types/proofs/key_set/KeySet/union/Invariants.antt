use Rattle.std.proofs.Common.{◌≡◌, ◌≤◌, drop, length}
use Rattle.calvin_types.specs.Keys.{insert_all}
use Rattle.calvin_types.proofs.key_set.KeySet.union.Given as goal

abbrev pub invariant-loop-i : goal.invariant-loop-i
invariant-loop-i l = record {
  so_far : insert_all (drop l.i l.other) l.all ≡ insert_all l.other l.self;
  at_most : length l.all ≤ 16;
}
