use Rattle.std.proofs.Common.{sym, ◌∙◌}
use Rattle.std.proofs.lemmas.Bool.{eq-eqb, ne_eqb}
use Rattle.calvin_types.specs.Participants.{site, is_local}
use Rattle.calvin_types.proofs.ListTests.{all_missed, all_next}
use Rattle.calvin_sched.proofs.turn.are_here.Goals as goal

pub loop-i-preserved : goal.loop-i-preserved
loop-i-preserved c =
    all_next (is_local (site c.args.config.now.partitions c.args.partition)) c.args.keys.now c.loop-i.i c.at.result (c.at.ensures)
    (eq-eqb _ _ (sym c.partition_of.ensures.partition ∙ c.if-partition_of-partition.false)) c.loop-i.invariant

pub returns-then-partition_of-partition : goal.returns-then-partition_of-partition
returns-then-partition_of-partition c =
    all_missed (is_local (site c.args.config.now.partitions c.args.partition)) c.args.keys.now c.loop-i.i c.at.result (c.at.ensures)
    (ne_eqb _ _ (λ e. c.if-partition_of-partition.true (c.partition_of.ensures.partition ∙ e))) c.loop-i.invariant
