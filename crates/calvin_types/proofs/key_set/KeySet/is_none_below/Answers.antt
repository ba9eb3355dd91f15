use Rattle.std.proofs.Common.{arith}
use Rattle.std.specs.Prelude.{nat_le}
use Rattle.calvin_types.specs.Keys.{partition_of}
use Rattle.std.proofs.lemmas.Bool.{le-leb, lt-leb}
use Rattle.calvin_types.proofs.ListTests.{all_missed, all_next}
use Rattle.calvin_types.proofs.key_set.KeySet.is_none_below.Goals as goal

pub returns-then-partition_of-partition : goal.returns-then-partition_of-partition
returns-then-partition_of-partition c =
    all_missed (λ k. nat_le c.args.partition (partition_of c.args.config.now.partitions k)) c.args.self.now c.loop-i.i c.at.result c.at.ensures
    (lt-leb c.args.partition (partition_of c.args.config.now.partitions c.at.result) (omega (arith, c.partition_of.ensures.partition, c.if-partition_of-partition.true))) c.loop-i.invariant

pub loop-i-preserved : goal.loop-i-preserved
loop-i-preserved c =
    all_next (λ k. nat_le c.args.partition (partition_of c.args.config.now.partitions k)) c.args.self.now c.loop-i.i c.at.result c.at.ensures
    (le-leb c.args.partition (partition_of c.args.config.now.partitions c.at.result) (omega (arith, c.partition_of.ensures.partition, c.if-partition_of-partition.false))) c.loop-i.invariant
