use Rattle.std.proofs.Common.{sym, ◌∙◌}
use Rattle.std.proofs.lemmas.Bool.{eq-eqb, ne_eqb}
use Rattle.calvin_types.specs.Participants.{site, is_local}
use Rattle.calvin_types.proofs.ListTests.{any_hit, any_next}
use Rattle.calvin_types.proofs.key_set.KeySet.has_local.Goals as goal

pub returns-then-partition_of-partition : goal.returns-then-partition_of-partition
returns-then-partition_of-partition c =
    any_hit (is_local (site c.args.config.now.partitions c.args.partition)) c.args.self.now c.loop-i.i c.at.result c.at.ensures
    (eq-eqb _ _ (sym c.partition_of.ensures.partition ∙ c.if-partition_of-partition.true)) c.loop-i.invariant

pub loop-i-preserved : goal.loop-i-preserved
loop-i-preserved c =
    any_next (is_local (site c.args.config.now.partitions c.args.partition)) c.args.self.now c.loop-i.i c.at.result c.at.ensures
    (ne_eqb _ _ (λ e. c.if-partition_of-partition.false (c.partition_of.ensures.partition ∙ e))) c.loop-i.invariant
