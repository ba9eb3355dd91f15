use Rattle.std.proofs.Common.{◌++◌, ◌∷◌, [], ap, sym, subst, ◌≡◌, ◌∙◌, arith}
use Rattle.std.proofs.lemmas.Bool.{eq-eqb}
use Rattle.std.proofs.lemmas.List.{take_all}
use Rattle.calvin_types.specs.Participants.{site, is_local}
use Rattle.calvin_types.proofs.Fews.{take_at}
use Rattle.calvin_sched.specs.Scheduling.{local_writes}
use Rattle.calvin_sched.proofs.Written.{part_kept}
use Rattle.calvin_sched.proofs.finishing.are_local.Goals as goal

pub loop-i-preserved : goal.loop-i-preserved
loop-i-preserved g c =
    let here = site c.args.config.now.partitions c.args.partition in
    take_at c.args.writes.now c.loop-i.i c.at-row.result c.at-row.ensures ∙ ap (λ ws. ws ++ c.at-row.result ∷ []) c.loop-i.invariant
    ∙ sym (part_kept (λ w. is_local here w.0) c.args.writes.now c.loop-i.i c.at-row.result c.at-row.ensures (eq-eqb _ _ (sym c.partition_of.ensures.partition ∙ c.if-partition_of-partition.false)))

pub returns : goal.returns
returns g c = λ _. subst (λ ws. ws ≡ local_writes (site c.args.config.now.partitions c.args.partition) ws) (take_all c.loop-i.i c.args.writes.now (omega (arith, c.loop-i-test.false, c.len-i-end.ensures.len))) c.loop-i.invariant
