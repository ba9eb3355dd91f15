use Rattle.std.proofs.Common.{◌≡◌, ◌<◌, ◌++◌, ◌∷◌, [], false, not, ◌&&◌, length, length-append, sym, ap, ◌∙◌, arith}
use Rattle.std.specs.Prelude.{◌==◌}
use Rattle.std.proofs.lemmas.Bool.{and_from, and_left, and_right, not_from_true, not_from_false, eq-eqb, ne_eqb}
use Rattle.calvin_types.specs.Participants.{site, is_active}
use Rattle.calvin_sched.proofs.Partitions.{one_more, none_more}
use Rattle.calvin_sched.proofs.turn.Turn.others.Goals as goal
use Rattle.calvin_sched.proofs.turn.Turn.others.Goals.{then-other-partition+then-runs-other, else-other-partition, else-other-partition-via-then-other-partition+else-runs-other, else-other-partition-via-else-other-partition}

pub loop-other-preserved : goal.loop-other-preserved
loop-other-preserved g c =
    let here = c.args.partition in
    let other = c.loop-other.other in
    let runs = is_active (site c.args.config.now.partitions other) c.args.self.now.turn.request in
    let few : other < 16 = omega (arith, c.args.config.now.in_range.partitions_at_most) in
    let marked = ap (is_active (site c.args.config.now.partitions other)) (sym c.txn.ensures) ∙ sym (c.running-runs.ensures other few) in
    elim c.if-other-partition.branch [
      | then-other-partition+then-runs-other w ↦
          let passes = and_from (not (other == here)) runs (not_from_false (other == here) (ne_eqb other here w.if-other-partition.true)) (marked ∙ w.if-runs-other.true) in
          record {
            so_far = w.others-is ∙ w.push.ensures ∙ ap (λ xs. xs ++ other ∷ []) c.loop-other.invariant.so_far ∙ sym (one_more _ other passes);
            number = omega (arith, ap length (w.others-is ∙ w.push.ensures), length-append c.loop-other.others (other ∷ []), c.loop-other.invariant.number);
          }
      | else-other-partition w ↦
          let stops : (not (other == here) && runs) ≡ false = elim w.else-other-partition.branch [
            | else-other-partition-via-then-other-partition+else-runs-other v ↦ and_right (not (other == here)) runs (marked ∙ v.if-runs-other.false)
            | else-other-partition-via-else-other-partition v ↦ and_left (not (other == here)) runs (not_from_true (other == here) (eq-eqb other here v.if-other-partition.false))
          ] in
          record {
            so_far = w.others-is ∙ c.loop-other.invariant.so_far ∙ sym (none_more _ other stops);
            number = omega (arith, ap length w.others-is, c.loop-other.invariant.number);
          }
    ]
