use Rattle.std.proofs.Common.{◌≡◌, ◌++◌, take, drop}
use Rattle.std.specs.Prelude.{IsTrue}
use Rattle.calvin_types.specs.Keys.{rises, has, insert_key}
use Rattle.calvin_types.proofs.key_set.free_place.Given as goal

-- each key so far is below the key
abbrev pub invariant-loop-i : goal.invariant-loop-i
invariant-loop-i l = record {
  in_order : IsTrue (rises (drop l.i l.keys));
  so_far : insert_key l.key l.keys ≡ take l.i l.keys ++ insert_key l.key (drop l.i l.keys);
  missing : has l.keys l.key ≡ has (drop l.i l.keys) l.key;
}
