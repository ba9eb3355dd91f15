use Rattle.std.proofs.Common.{◌≡◌, drop, length, []}
use Rattle.calvin_types.specs.Keys.{insert_all}
use Rattle.calvin_types.proofs.key_set.KeySet.from_slice.Given as goal

abbrev pub invariant-loop-key : goal.invariant-loop-key
invariant-loop-key l = record {
  so_far : insert_all (drop l.key-index l.keys) l.all ≡ insert_all l.keys [];
  number : length l.all ≡ l.key-index;
}
