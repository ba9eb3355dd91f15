-- Each new partition has the next number, has admitted nothing, and was told the order.
use Rattle.std.proofs.Common.{◌≡◌, map, ap, subst, ◌∙◌, arith}
use Rattle.std.specs.List.{range_with_len}
use Rattle.calvin_types.specs.Orders.{Rises}
use Rattle.calvin_bench.specs.Steps.{first_part, first_parts}
use Rattle.calvin_bench.specs.Replicas.{part_of, IsTold}
use Rattle.calvin_bench.proofs.RunReplicas.{one_more_made, one_more_told, made_replica}
use Rattle.calvin_bench.proofs.one_replica.OneReplica.new.Goals as goal

pub loop-partition-preserved : goal.loop-partition-preserved
loop-partition-preserved g c = record {
  first = one_more_made c.args.config.now.partitions c.loop-partition.partition c.in_ok-new.field-0 c.loop-partition.partitions.items c.push.new.self.items c.loop-partition.invariant.first c.in_ok-new.ensures.part c.in_ok-push.ensures.items;
  told = one_more_told c.args.order.items c.in_ok-new.field-0 c.loop-partition.partitions.items c.push.new.self.items c.loop-partition.invariant.told (subst (λ es. IsTold es c.in_ok-new.field-0) c.deref-in-loop-partition.ensures.value c.in_ok-new.ensures.told) c.in_ok-push.ensures.items;
}

pub invariant_of-result : goal.invariant_of-result
invariant_of-result g c =
    let count = c.args.config.now.partitions in
    let all : map part_of c.loop-partition.partitions.items ≡ first_parts count = c.loop-partition.invariant.first ∙ ap (λ n. map (first_part count) (range_with_len 0 n)) (omega (arith, c.loop-partition.auto.partition-end, c.loop-partition-test.false)) in
    made_replica g.A.App.meaning count c.args.order.items (subst Rises c.deref.ensures.value (c.rises.ensures.0 c.if-not-rises.false)) c.loop-partition.partitions.items all c.loop-partition.invariant.told

pub returns-clause-ok : goal.returns-clause-ok
returns-clause-ok g c =
    let count = c.args.config.now.partitions in
    let all : map part_of c.loop-partition.partitions.items ≡ first_parts count = c.loop-partition.invariant.first ∙ ap (λ n. map (first_part count) (range_with_len 0 n)) (omega (arith, c.loop-partition.auto.partition-end, c.loop-partition-test.false)) in
    λ i. record { count = count; order = c.args.order.items; parts = all i }

pub returns-clause-out_of_order : goal.returns-clause-out_of_order
returns-clause-out_of_order g c = (λ h. absurd (cc), λ not. absurd (not (subst Rises c.deref.ensures.value (c.rises.ensures.0 c.if-not-rises.false))))
