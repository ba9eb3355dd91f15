use Rattle.std.proofs.Common.{◌≡◌, max, ap, ◌∙◌, arith}
use Rattle.calvin_app.proofs.RowTables.{same_rows}
use Rattle.calvin_store.proofs.table.RowTable.reserve.Goals as goal

pub returns-in_ok-reserve-clause-ok : goal.returns-in_ok-reserve-clause-ok
returns-in_ok-reserve-clause-ok g c =
    let more : c.args.n ≡ max c.args.n c.self.inside.room = omega arith in
    let rows = same_rows c.self.inside.rows.entries c.reserve.new.self.entries c.reserve.ensures.entries.2 ∙ ap (λ k. k.rows) c.self.view_is in
    let room = more ∙ ap (λ k. max c.args.n k.room) c.self.view_is in
    λ i. record { rows = rows i; room = room i }
