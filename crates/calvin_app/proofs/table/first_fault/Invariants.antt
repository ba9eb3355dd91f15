use Rattle.std.proofs.Common.{◌≡◌, true, take}
use Rattle.calvin_types.specs.Keys.{are_distinct}
use Rattle.calvin_app.specs.Writing.{keys_of}
use Rattle.calvin_app.proofs.table.first_fault.Given as goal

abbrev pub invariant-loop-i : goal.invariant-loop-i
invariant-loop-i g l = are_distinct (keys_of (take l.i l.rows)) ≡ true
