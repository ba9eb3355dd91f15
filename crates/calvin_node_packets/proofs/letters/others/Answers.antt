use Rattle.std.proofs.Common.{◌≡◌, ℕ, ◌≤◌, ◌++◌, ◌∷◌, [], length, length-append, sym, ap, ◌∙◌, arith}
use Rattle.calvin_sched.proofs.Partitions.{one_more, none_more}
use Rattle.calvin_node_packets.specs.Packets as packets
use Rattle.calvin_node_packets.proofs.letters.others.Goals as goal
use Rattle.calvin_node_packets.proofs.letters.others.Goals.{then-is_other, else-is_other}

between : (i n : ℕ) → i ≤ n → n ≤ i → i ≡ n
between i n low high = omega (arith, low, high)

pub loop-partition-preserved : goal.loop-partition-preserved
loop-partition-preserved c = elim c.if-is_other.branch [
  | then-is_other w ↦ record {
    so_far = w.partitions-is ∙ w.push.ensures ∙ ap (λ xs. xs ++ c.loop-partition.partition ∷ []) c.loop-partition.invariant.so_far ∙ sym (one_more _ c.loop-partition.partition (sym c.is_other.ensures ∙ w.if-is_other.true));
    number = omega (arith, ap length (w.partitions-is ∙ w.push.ensures), length-append c.loop-partition.partitions (c.loop-partition.partition ∷ []), c.loop-partition.invariant.number);
  }
  | else-is_other w ↦ record {
    so_far = w.partitions-is ∙ c.loop-partition.invariant.so_far ∙ sym (none_more _ c.loop-partition.partition (sym c.is_other.ensures ∙ w.if-is_other.false));
    number = omega (arith, ap length w.partitions-is, c.loop-partition.invariant.number);
  }
]

pub returns : goal.returns
returns c =
    c.loop-partition.invariant.so_far
    ∙ ap (λ k. packets.others k c.args.own) (between c.loop-partition.partition c.args.config.now.partitions c.loop-partition.auto.partition-end c.loop-partition-test.false)
