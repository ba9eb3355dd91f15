use Rattle.std.proofs.Common.{◌≡◌, ◌+◌, ◌*◌, ◌≤◌, ◌^◌, take, drop, map}
use Rattle.calvin_stock.specs.Operations.{first_fault, total_of, taken}
use Rattle.calvin_stock.proofs.placing.take_lines.Given as goal

abbrev pub invariant-loop-i : goal.invariant-loop-i
invariant-loop-i l = record {
  faultless : first_fault (drop l.i l.lines) l.view ≡ first_fault l.lines l.view;
  so_far : l.total + total_of (drop l.i l.lines) l.view ≡ total_of l.lines l.view;
  small : l.total ≤ l.i * 2 ^ 96;
  taken : l.writes ≡ map (taken l.view) (take l.i l.lines);
}
