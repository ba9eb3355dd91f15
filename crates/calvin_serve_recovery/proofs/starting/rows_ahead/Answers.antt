use Rattle.std.proofs.Common.{◌≡◌, ◌++◌, ◌∷◌, [], ◌+◌, subst, sym, ◌∙◌}
use Rattle.calvin_serve_recovery.specs.Beginnings.{TakesLines, HaveRows, BeginsWithNoRow, HaveNoRows}
use Rattle.calvin_serve_recovery.proofs.Beginnings.{takes_more, takes_not, one_row_more, no_row_more}
use Rattle.calvin_serve_recovery.proofs.starting.rows_ahead.Goals as goal

pub returns-in-Err-clause-no_rows : goal.returns-in-Err-clause-no_rows
returns-in-Err-clause-no_rows g c = λ is.
    let form = g.Row.StoredRow.form in
    let so_far = c.lines.taken in
    let rows = c.lines.rows.items in
    takes_not (HaveRows form so_far rows) (BeginsWithNoRow form) (HaveNoRows form c.args.count) c.args.opening.now.lines c.lines.opening.lines c.lines.invariant.rows (c.in-Err.ensures.no_row is)
    (λ lines rest have none. no_row_more form c.args.count so_far c.lines-test.true rows lines rest have none)

pub lines-preserved : goal.lines-preserved
lines-preserved g c =
    let form = g.Row.StoredRow.form in
    let so_far = c.lines.taken in
    let rows = c.lines.rows.items in
    let next = c.in-Ok.ensures.row in
    record {
      rows = takes_more (HaveRows form so_far rows) (HaveRows form (so_far + 1) c.push.new.self.items) next.0 c.args.opening.now.lines c.lines.opening.lines c.next_row.new.opening.lines c.lines.invariant.rows next.1
          (λ lines have. subst (λ rs. HaveRows form (so_far + 1) rs (lines ++ next.0 ∷ [])) (sym c.in-Ok-push.ensures.items) (one_row_more form so_far rows next.0 c.in-Ok.row next.2 lines have));
      failures = c.in-Ok.ensures.no_failure ∙ c.lines.invariant.failures;
    }
