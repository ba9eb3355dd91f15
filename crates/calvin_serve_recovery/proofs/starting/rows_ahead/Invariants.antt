use Rattle.std.proofs.Common.{◌≡◌}
use Rattle.calvin_serve_recovery.specs.Beginnings.{TakesLines, HaveRows}
use Rattle.calvin_serve_recovery.proofs.starting.rows_ahead.Given as goal

-- the lines so far keep the rows so far
abbrev pub invariant-lines : goal.invariant-lines
invariant-lines g l = record {
  rows : TakesLines (HaveRows g.Row.StoredRow.form l.taken l.rows.items) l.fn.opening.lines l.opening.lines;
  failures : l.opening.failures ≡ l.fn.opening.failures;
}
