-- So far each partition has admitted nothing, and was told the order.
use Rattle.std.proofs.Common.{◌≡◌, ℕ, map, Some}
use Rattle.std.specs.Prelude.{slice_get}
use Rattle.std.specs.List.{range_with_len}
use Rattle.calvin_bench.specs.Steps.{first_part}
use Rattle.calvin_bench.specs.Replicas.{Seat, part_of, IsTold}
use Rattle.calvin_bench.proofs.one_replica.OneReplica.new.Given as goal

abbrev pub invariant-loop-partition : goal.invariant-loop-partition
invariant-loop-partition g l = record {
  first : map part_of l.partitions.items ≡ map (first_part l.config.partitions) (range_with_len 0 l.partition);
  told : (i : ℕ) (x : Seat g.row.A-Args.Denot g.row.A-Row.Denot) → slice_get l.partitions.items i ≡ Some x → IsTold l.order.items x;
}
