-- So far each replica has done nothing.
use Rattle.std.proofs.Common.{◌≡◌, map}
use Rattle.std.specs.List.{range_with_len}
use Rattle.calvin_synod.specs.Cases as cases
use Rattle.calvin_synod_group.proofs.group.Group.new.Given as goal

abbrev pub invariant-loop-replica : goal.invariant-loop-replica
invariant-loop-replica g l = l.members.items ≡ map (λ me. record { size = l.config.replicas; me = me; replica = cases.fresh }) (range_with_len 0 l.replica)
