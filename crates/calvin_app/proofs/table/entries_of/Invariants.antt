use Rattle.std.proofs.Common.{◌≡◌, ◌++◌}
use Rattle.calvin_app.proofs.table.entries_of.Given as goal

abbrev pub invariant-loop-key : goal.invariant-loop-key
invariant-loop-key g l = l.all.items ++ l.key-iterator ≡ l.fn.rows.entries
