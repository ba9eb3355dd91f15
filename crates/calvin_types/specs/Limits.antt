-- How large things may be. All limits are of this project.
--     IsInRange partitions replicas      1 to 16 partitions and 1 to 7 replicas
use Rattle.std.specs.Prelude.{ℕ, ◌≤◌, ◌<◌}
use Rattle.calvin_types.specs.declared.limits.TheConstants.{MOST_PARTITIONS, MOST_REPLICAS}

pub record IsInRange (partitions replicas : ℕ) : Type 0 where
  pub some_partition : 0 < partitions
  pub partitions_at_most : partitions ≤ MOST_PARTITIONS
  pub some_replica : 0 < replicas
  pub replicas_at_most : replicas ≤ MOST_REPLICAS
