-- One row more.
use Rattle.std.proofs.Common.{◌∷◌, ◌++◌, [], ◌∙◌, ap, option_map}
use Rattle.calvin_journal.specs.Readings.{Standing}
use Rattle.calvin_serve_compaction.proofs.Rows.{keeps_next}
use Rattle.calvin_serve_compaction.proofs.compaction.add_rows.Goals as goal

pub loop-row-preserved : goal.loop-row-preserved
loop-row-preserved g c =
    let added = ap (λ (s : Standing). s.lines) c.in-Ok-add.ensures.ok in
    let lines = added ∙ ap (λ w. option_map (λ ls. ls ++ w ∷ []) c.loop-row.longer.lines) c.deref.ensures.value in
    record {
      keeps = keeps_next g.row.Row.Denot g.Row.StoredRow.form c.args.rows.now c.loop-row.row-index c.row-item.result c.loop-row-test.true c.row-item.is c.in-Ok.line.items
          c.args.beginning.lines c.loop-row.longer.lines c.in-Ok-add.next.lines c.loop-row.invariant.keeps c.in-Ok.ensures.reads_back lines;
      no_failure = ap (λ (s : Standing). s.failures) c.in-Ok-add.ensures.ok ∙ c.loop-row.invariant.no_failure;
    }
