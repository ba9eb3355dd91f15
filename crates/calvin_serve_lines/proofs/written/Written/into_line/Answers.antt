use Rattle.std.proofs.Common.{◌≡◌, ◌≤◌, Some, subst}
use Rattle.serde_json.specs.Data.{depth}
use Rattle.serde_json.specs.Read.{read, max_depth}
use Rattle.serde_json.specs.View.{items_view}
use Rattle.serde_json.proofs.Views.{view-Array}
use Rattle.calvin_serve_lines.specs.BatchJson.{IsSpelled}
use Rattle.calvin_serve_lines.proofs.Spells.{line_read}
use Rattle.calvin_serve_lines.proofs.written.Written.into_line.Goals as goal

pub returns-clause-reads : goal.returns-clause-reads
returns-clause-reads g c = λ partitions fit.
    let grammar = g.Op.Operation.grammar in
    let line = c.in_ok-line.line.items in
    let json = c.self.inside.json in
    line_read grammar line (items_view json.items) c.args.self partitions c.in_ok-line.ensures.utf8
    (subst (λ d. depth d ≤ max_depth → read line ≡ Some d) (view-Array json) c.in_ok-line.ensures.reads_back)
    (subst (IsSpelled grammar (items_view json.items)) c.self.view_is c.self.invariant) fit
