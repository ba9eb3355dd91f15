-- What begins with the rows of a desk.
use Rattle.std.proofs.Common.{arith, ◌≡◌, length, sym, subst, IfSome}
use Rattle.calvin_journal.specs.Readings.{Standing}
use Rattle.calvin_serve_compaction.specs.Compactions.{Compacts, SaysRows, KeepsRows}
use Rattle.calvin_serve_compaction.proofs.Rows.{compacted, ok_then}
use Rattle.calvin_serve_compaction.proofs.compaction.compact.Goals as goal

pub returns-in-Ok-add_rows-clause-ok : goal.returns-in-Ok-add_rows-clause-ok
returns-in-Ok-add_rows-clause-ok g c =
    let form = g.A.Row.StoredRow.form in
    let heading = c.args.heading.now in
    let desk = c.args.desk.now in
    let rows = c.in-Ok.rows.items in
    let told = g.N.Log.told c.args.log in
    let first = c.in-Ok-begin.beginning.lines in
    let count : c.len.result ≡ length rows = omega (arith, c.len.ensures, c.in-Ok.rows.ok) in
    let says = subst (λ n. SaysRows heading desk.epoch n told first) count (subst (λ e. SaysRows heading e c.len.result told first) c.epoch-epoch.ensures.number c.in-Ok-begin.ensures.ok) in
    let keeps = subst (λ w. KeepsRows form w first c.in-Ok-add_rows.whole.lines) c.deref.ensures.value c.in-Ok-add_rows.ensures.ok in
    let whole = compacted g.row.A-Row.Denot form heading desk rows told first c.in-Ok-add_rows.whole.lines says keeps c.in-Ok.ensures.distinct c.in-Ok.ensures.whole in
    ok_then c.finish.result (λ j is. subst (λ (s : Standing). IfSome s.lines (Compacts form heading desk)) (sym is) whole) c.finish.ensures.ok
