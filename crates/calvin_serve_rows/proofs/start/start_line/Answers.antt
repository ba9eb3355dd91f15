use Rattle.std.proofs.Common.{◌≡◌, ◌≤◌, Some, subst}
use Rattle.serde_json.specs.Data.{depth}
use Rattle.serde_json.specs.Read.{read, max_depth}
use Rattle.serde_json.specs.View.{view}
use Rattle.calvin_serve_rows.proofs.Lines.{start_read}
use Rattle.calvin_serve_rows.proofs.start.start_line.Goals as goal

pub returns-clause-reads_back : goal.returns-clause-reads_back
returns-clause-reads_back c = λ most.
    let text = c.in_ok-text.text.items in
    start_read text c.args.epoch c.args.rows c.in_ok-text.ensures.utf8
    (subst (λ d. depth d ≤ max_depth → read text ≡ Some d) c.in_ok-line.ensures.data c.in_ok-text.ensures.reads_back)
    c.start_json.ensures.small most
