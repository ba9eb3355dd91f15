-- The rows so far are kept.
use Rattle.std.proofs.Common.{◌≡◌, take}
use Rattle.calvin_serve_compaction.specs.Compactions.{KeepsRows}
use Rattle.calvin_serve_compaction.proofs.compaction.add_rows.Given as goal

abbrev pub invariant-loop-row : goal.invariant-loop-row
invariant-loop-row g l = record {
  keeps : KeepsRows g.Row.StoredRow.form (take l.row-index l.rows) l.fn.beginning.lines l.longer.lines;
  no_failure : l.longer.failures ≡ l.fn.beginning.failures;
}
