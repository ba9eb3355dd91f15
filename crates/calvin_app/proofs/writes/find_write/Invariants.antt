use Rattle.std.proofs.Common.{◌≡◌, ◌++◌, take, drop}
use Rattle.calvin_types.specs.Keys.{has}
use Rattle.calvin_app.specs.Writing.{keys_of, with_write}
use Rattle.calvin_app.proofs.writes.find_write.Given as goal

-- no write so far has the key
abbrev pub invariant-loop-i : goal.invariant-loop-i
invariant-loop-i g l = record {
  so_far : (row : g.row.Row.Denot) → with_write l.key row l.pairs ≡ take l.i l.pairs ++ with_write l.key row (drop l.i l.pairs);
  missing : has (keys_of l.pairs) l.key ≡ has (keys_of (drop l.i l.pairs)) l.key;
}
