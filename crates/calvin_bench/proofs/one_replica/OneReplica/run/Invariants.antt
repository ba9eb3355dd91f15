-- The steps so far led here, and there is room for an outcome of each.
use Rattle.std.proofs.Common.{◌≡◌, ◌≤◌, length, take}
use Rattle.std.specs.Vec.{vec_len, vec_capacity}
use Rattle.calvin_bench.specs.Steps.{Ran}
use Rattle.calvin_bench.proofs.one_replica.OneReplica.run.Given as goal

abbrev pub invariant-loop-step : goal.invariant-loop-step
invariant-loop-step g l = record {
  room : length l.steps ≤ vec_capacity l.outcomes;
  counted : vec_len l.outcomes ≡ l.step-index;
  led : Ran g.A.App.meaning l.fn.self.order l.fn.self.parts (take l.step-index l.steps) l.outcomes.items l.self.parts;
  same : l.self ≡ record l.fn.self { parts = l.self.parts };
}
