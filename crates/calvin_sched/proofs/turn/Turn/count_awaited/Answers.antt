use Rattle.std.proofs.Common.{◌≡◌, ◌<◌, ◌+◌, ◌∷◌, [], false, not, length, length-append, sym, ap, ◌∙◌, arith}
use Rattle.std.specs.Prelude.{◌==◌, is_some}
use Rattle.std.specs.FinMap.{get}
use Rattle.std.specs.List.{filter, list_any, range_with_len}
use Rattle.std.proofs.lemmas.Bool.{not_from_true, not_from_false, eq-eqb, ne_eqb}
use Rattle.calvin_types.specs.Participants.{site, is_local, is_active}
use Rattle.calvin_sched.specs.Scheduling.{awaits, is_finished}
use Rattle.calvin_sched.proofs.Alone.{awaits_none, passive_awaits_none, done_awaits_none, all_five, third, fourth, fifth}
use Rattle.calvin_sched.proofs.Partitions.{one_more, none_more}
use Rattle.calvin_sched.proofs.turn.Turn.count_awaited.Goals as goal
use Rattle.calvin_sched.proofs.turn.Turn.count_awaited.Goals.{then-from-partition+then-sends-from+then-not-has, else-from-partition, else-from-partition-via-then-from-partition+then-sends-from+else-not-has, else-from-partition-via-then-from-partition+else-sends-from, else-from-partition-via-else-from-partition}

pub loop-from-preserved : goal.loop-from-preserved
loop-from-preserved g c =
    let here = site c.args.config.now.partitions c.args.partition in
    let turn = c.args.self.now.turn in
    let from = c.loop-from.from in
    let p = awaits here turn in
    let unfinished = not (is_finished turn.phase) in
    let active = is_active here turn.request in
    let other = not (from == c.args.partition) in
    let sends = list_any (is_local (site c.args.config.now.partitions from)) turn.request.sets.reads in
    let missing = not (is_some (get turn.came from)) in
    let few : from < 16 = omega (arith, c.args.config.now.in_range.partitions_at_most) in
    let marked = ap (list_any (is_local (site c.args.config.now.partitions from))) (sym c.reads.ensures) ∙ sym (c.storing-sends.ensures from few) in
    let came = ap (λ k. is_some (get k.turn.came from)) (sym c.self.view_is) in
    elim c.if-from-partition.branch [
      | then-from-partition+then-sends-from+then-not-has w ↦
          let passes = all_five unfinished active other sends missing (not_from_false (is_finished turn.phase) (sym c.is_done.ensures ∙ c.if-is_done.false))
          (ap (is_active here) (sym c.txn.ensures) ∙ sym c.is_active.ensures ∙ c.if-not-is_active.false)
          (not_from_false (from == c.args.partition) (ne_eqb from c.args.partition w.if-from-partition.true)) (marked ∙ w.if-sends-from.true)
          (not_from_false (is_some (get turn.came from)) (came ∙ sym w.has.ensures ∙ w.if-not-has.true)) in
          record {
            so_far = w.count-is ∙ ap (λ n. n + 1) c.loop-from.invariant.so_far ∙ sym (ap length (one_more p from passes) ∙ length-append (filter p (range_with_len 0 from)) (from ∷ []));
            number = omega (arith, w.count-is, c.loop-from.invariant.number);
          }
      | else-from-partition w ↦
          let stops : p from ≡ false = elim w.else-from-partition.branch [
            | else-from-partition-via-then-from-partition+then-sends-from+else-not-has v ↦ fifth unfinished active other sends missing (not_from_true (is_some (get turn.came from)) (came ∙ sym v.has.ensures ∙ v.if-not-has.false))
            | else-from-partition-via-then-from-partition+else-sends-from v ↦ fourth unfinished active other sends missing (marked ∙ v.if-sends-from.false)
            | else-from-partition-via-else-from-partition v ↦ third unfinished active other sends missing (not_from_true (from == c.args.partition) (eq-eqb from c.args.partition v.if-from-partition.false))
          ] in
          record {
            so_far = w.count-is ∙ c.loop-from.invariant.so_far ∙ sym (ap length (none_more p from stops));
            number = omega (arith, w.count-is, c.loop-from.invariant.number);
          }
    ]

pub returns-then-are_reads_here : goal.returns-then-are_reads_here
returns-then-are_reads_here g c = sym (awaits_none c.args.config.now.partitions c.args.partition c.args.self.now.turn (sym c.are_reads_here.ensures ∙ c.if-are_reads_here.true))

pub returns-then-not-is_active : goal.returns-then-not-is_active
returns-then-not-is_active g c = sym (passive_awaits_none c.args.config.now.partitions c.args.partition c.args.self.now.turn (ap (is_active (site c.args.config.now.partitions c.args.partition)) (sym c.txn.ensures) ∙ sym c.is_active.ensures ∙ c.if-not-is_active.true))

pub returns-then-is_done : goal.returns-then-is_done
returns-then-is_done g c = sym (done_awaits_none c.args.config.now.partitions c.args.partition c.args.self.now.turn (sym c.is_done.ensures ∙ c.if-is_done.true))
