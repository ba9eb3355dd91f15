use Rattle.std.proofs.Common.{◌≡◌, drop}
use Rattle.std.specs.Prelude.{nat_le}
use Rattle.std.specs.List.{list_all}
use Rattle.calvin_types.specs.Keys.{partition_of}
use Rattle.calvin_types.proofs.key_set.KeySet.is_none_below.Given as goal

abbrev pub invariant-loop-i : goal.invariant-loop-i
invariant-loop-i l = list_all (λ k. nat_le l.partition (partition_of l.config.partitions k)) (drop l.i l.self) ≡ list_all (λ k. nat_le l.partition (partition_of l.config.partitions k)) l.self
