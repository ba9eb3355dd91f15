use Rattle.std.proofs.Common.{◌≡◌, ◌≤◌, ◌-◌, drop, length}
use Rattle.std.specs.FinMap as map
use Rattle.calvin_types.specs.Participants.{site}
use Rattle.calvin_sched.specs.Scheduling.{gathered, piece}
use Rattle.calvin_sched.proofs.turn.Turn.put_whole.Given as goal

abbrev pub invariant-loop-done : goal.invariant-loop-done
invariant-loop-done g l = record {
  so_far : l.view ≡ gathered (piece (site l.config.partitions l.partition) l.self.turn) (drop (length l.self.turn.request.sets.reads - l.done) l.self.turn.request.sets.reads);
  number : map.len l.view ≤ l.done;
}
