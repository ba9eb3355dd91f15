use Rattle.std.proofs.Common.{◌≡◌, ◌||◌, drop}
use Rattle.std.specs.Prelude.{is_some}
use Rattle.std.specs.List.{list_all}
use Rattle.std.specs.FinMap as map
use Rattle.calvin_types.specs.Keys.{partition_of}
use Rattle.calvin_types.specs.Participants.{site, is_local}
use Rattle.calvin_sched.proofs.turn.Turn.is_collected.Given as goal

abbrev pub invariant-loop-i : goal.invariant-loop-i
invariant-loop-i g l =
    list_all (λ k. is_local (site l.config.partitions l.partition) k || is_some (map.get l.self.turn.came (partition_of l.config.partitions k))) (drop l.i l.self.turn.request.sets.reads)
    ≡ list_all (λ k. is_local (site l.config.partitions l.partition) k || is_some (map.get l.self.turn.came (partition_of l.config.partitions k))) l.self.turn.request.sets.reads
