use Rattle.std.proofs.Common.{◌≡◌, ◌≤◌, Some, subst}
use Rattle.serde_json.specs.Data.{depth}
use Rattle.serde_json.specs.Read.{read, max_depth}
use Rattle.serde_json.specs.View.{view}
use Rattle.calvin_serve_rows.proofs.Lines.{line_read}
use Rattle.calvin_serve_rows.proofs.line.row_line.Goals as goal

pub returns-clause-reads_back : goal.returns-clause-reads_back
returns-clause-reads_back g c =
    let spelled = c.in_ok-spelled.spelled in
    let text = c.in_ok-text.text.items in
    let small = c.line_json.ensures.small in
    line_read g.Row.StoredRow.form text c.args.key.now (view spelled) c.args.row.now c.in_ok-text.ensures.utf8
    (subst (λ d. depth d ≤ max_depth → read text ≡ Some d) c.in_ok-line.ensures.data c.in_ok-text.ensures.reads_back)
    c.in_ok-spelled.ensures.shallow small.0 small.1 c.in_ok-spelled.ensures.spelled
