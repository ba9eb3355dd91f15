use Rattle.std.proofs.Common.{◌≡◌, drop}
use Rattle.std.specs.List.{list_all}
use Rattle.calvin_types.specs.Participants.{site, is_local}
use Rattle.calvin_sched.proofs.turn.are_here.Given as goal

abbrev pub invariant-loop-i : goal.invariant-loop-i
invariant-loop-i l =
    list_all (is_local (site l.config.partitions l.partition)) (drop l.i l.keys) ≡ list_all (is_local (site l.config.partitions l.partition)) l.keys
