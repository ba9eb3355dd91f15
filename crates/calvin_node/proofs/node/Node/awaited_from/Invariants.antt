use Rattle.std.proofs.Common.{◌≡◌, ◌≤◌, length, not, ◌&&◌}
use Rattle.std.specs.Prelude.{◌==◌}
use Rattle.std.specs.List.{filter, range_with_len}
use Rattle.calvin_sched.specs.Keeping.{awaits_at}
use Rattle.calvin_sched.specs.Scheduling.{turn_at}
use Rattle.calvin_node_acts.specs.NodeStates.{site_of}
use Rattle.calvin_node.proofs.node.Node.awaited_from.Given as goal

abbrev pub invariant-loop-other : goal.invariant-loop-other
invariant-loop-other g l = record {
  so_far : l.awaited ≡ filter (λ p. not (p == l.self.state.id.partition) && awaits_at (site_of l.self.config.partitions l.self.state) (turn_at l.self.state.scheduler l.place) p) (range_with_len 0 l.other);
  number : length l.awaited ≤ l.other;
}
