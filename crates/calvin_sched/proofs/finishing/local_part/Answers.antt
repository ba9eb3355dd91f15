use Rattle.std.proofs.Common.{rules, ◌++◌, ◌∷◌, [], ap, sym, ◌∙◌, length, length-append, arith}
use Rattle.std.proofs.lemmas.Bool.{eq-eqb, ne_eqb}
use Rattle.std.proofs.lemmas.List.{take_all}
use Rattle.calvin_types.specs.Keys.{has}
use Rattle.calvin_types.specs.Participants.{site, is_local}
use Rattle.calvin_app.specs.Writing.{keys_of}
use Rattle.calvin_sched.specs.Scheduling.{local_writes}
use Rattle.calvin_sched.proofs.Written.{new_in_part, part_kept, part_passed}
use Rattle.calvin_sched.proofs.finishing.local_part.Goals as goal
use Rattle.calvin_sched.proofs.finishing.local_part.Goals.{then-partition_of-partition, else-partition_of-partition}

pub loop-i-init : goal.loop-i-init
loop-i-init g c = record { so_far = c.new-part.ensures; room = omega (arith, ap length c.new-part.ensures) }

pub push-requires : goal.push-requires
push-requires g c = (
  search rules,
  (
    omega (arith, c.loop-i.invariant.room, c.loop-i-test.true, c.len-i-end.ensures.len, c.len-i-end.ensures.at_most),
    ap (λ ws. has (keys_of ws) c.at-row.result.0) c.loop-i.invariant.so_far
        ∙ new_in_part (λ w. is_local (site c.args.config.now.partitions c.args.partition) w.0) c.args.writes.now c.len-i-end.ensures.distinct c.loop-i.i c.at-row.result c.at-row.ensures,
  ),
)

pub loop-i-preserved : goal.loop-i-preserved
loop-i-preserved g c = elim c.if-partition_of-partition.branch [
  | then-partition_of-partition w ↦ record {
    so_far = w.part-is ∙ w.push.ensures ∙ ap (λ ws. ws ++ c.at-row.result ∷ []) c.loop-i.invariant.so_far
        ∙ sym (part_kept (λ w. is_local (site c.args.config.now.partitions c.args.partition) w.0) c.args.writes.now c.loop-i.i c.at-row.result c.at-row.ensures (eq-eqb _ _ (sym c.partition_of.ensures.partition ∙ w.if-partition_of-partition.true)));
    room = omega (arith, ap length (w.part-is ∙ w.push.ensures), length-append c.loop-i.part (c.at-row.result ∷ []), c.loop-i.invariant.room);
  }
  | else-partition_of-partition w ↦ record {
    so_far = w.part-is ∙ c.loop-i.invariant.so_far
        ∙ sym (part_passed (λ w. is_local (site c.args.config.now.partitions c.args.partition) w.0) c.args.writes.now c.loop-i.i c.at-row.result c.at-row.ensures (ne_eqb _ _ (λ e. w.if-partition_of-partition.false (c.partition_of.ensures.partition ∙ e))));
    room = omega (arith, ap length w.part-is, c.loop-i.invariant.room);
  }
]

pub returns : goal.returns
returns g c = c.loop-i.invariant.so_far ∙ ap (local_writes (site c.args.config.now.partitions c.args.partition)) (take_all c.loop-i.i c.args.writes.now (omega (arith, c.loop-i-test.false, c.len-i-end.ensures.len)))
