use Rattle.std.proofs.Common.{◌∙◌, ◌+◌, ◌++◌, ◌∷◌, [], ap, sym, drop, length, length-append, arith}
use Rattle.std.specs.List.{filter}
use Rattle.std.proofs.lemmas.Bool.{eq-eqb, ne_eqb}
use Rattle.calvin_types.specs.Keys.{rises}
use Rattle.calvin_types.specs.Participants.{site, is_local}
use Rattle.calvin_types.proofs.Risings.{rises-filter, kept, passed, all_passed}
use Rattle.calvin_types.proofs.key_set.KeySet.part.Goals as goal
use Rattle.calvin_types.proofs.key_set.KeySet.part.Goals.{then-partition_of-partition, else-partition_of-partition}

pub loop-i-preserved : goal.loop-i-preserved
loop-i-preserved c = elim c.if-partition_of-partition.branch [
  | then-partition_of-partition w ↦ record {
    so_far = ap (λ xs. xs ++ filter (is_local (site c.args.config.now.partitions c.args.partition)) (drop (c.loop-i.i + 1) c.self.inside.keys)) (w.keys-is ∙ w.push.ensures) ∙ kept (is_local (site c.args.config.now.partitions c.args.partition)) c.self.inside.keys c.loop-i.keys _ c.loop-i.i c.at-key.result c.at-key.ensures c.loop-i.invariant.so_far (eq-eqb _ _ (sym c.partition_of.ensures.partition ∙ w.if-partition_of-partition.true));
    room = omega (arith, ap length (w.keys-is ∙ w.push.ensures), length-append c.loop-i.keys (c.at-key.result ∷ []), c.loop-i.invariant.room);
  }
  | else-partition_of-partition w ↦ record {
    so_far = ap (λ xs. xs ++ filter (is_local (site c.args.config.now.partitions c.args.partition)) (drop (c.loop-i.i + 1) c.self.inside.keys)) w.keys-is ∙ passed (is_local (site c.args.config.now.partitions c.args.partition)) c.self.inside.keys c.loop-i.keys _ c.loop-i.i c.at-key.result c.at-key.ensures c.loop-i.invariant.so_far (ne_eqb _ _ (λ e. w.if-partition_of-partition.false (c.partition_of.ensures.partition ∙ e)));
    room = omega (arith, ap length w.keys-is, c.loop-i.invariant.room);
  }
]

pub invariant_of-result : goal.invariant_of-result
invariant_of-result c =
    ap rises (all_passed (is_local (site c.args.config.now.partitions c.args.partition)) c.self.inside.keys c.loop-i.keys c.loop-i.i (omega (arith, c.len-i-end.ensures.len)) c.loop-i.invariant.so_far)
    ∙ rises-filter (is_local (site c.args.config.now.partitions c.args.partition)) c.self.inside.keys c.self.invariant
