use Rattle.std.proofs.Common.{◌≡◌, ◌≤◌, ◌++◌, drop, length}
use Rattle.calvin_types.specs.Participants.{site, local_keys}
use Rattle.calvin_types.proofs.key_set.KeySet.part.Given as goal

abbrev pub invariant-loop-i : goal.invariant-loop-i
invariant-loop-i l = record {
  so_far : l.keys ++ local_keys (site l.config.partitions l.partition) (drop l.i l.self-inside.keys) ≡ local_keys (site l.config.partitions l.partition) l.self-inside.keys;
  room : length l.keys ≤ l.i;
}
