use Rattle.std.proofs.Common.{◌≡◌, ◌≤◌, take}
use Rattle.std.specs.FinMap as finmap
use Rattle.calvin_once.specs.Once.{inner_entries}
use Rattle.calvin_once.proofs.inside.add_inside.Given as goal

abbrev pub invariant-loop-i : goal.invariant-loop-i
invariant-loop-i g l = record {
  so_far : l.rows ≡ finmap.from_entries (inner_entries l.top (take l.i (finmap.entries l.view)));
  few : finmap.len l.rows ≤ l.i;
}
