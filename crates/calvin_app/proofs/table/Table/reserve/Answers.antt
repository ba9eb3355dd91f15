use Rattle.std.proofs.Common.{◌∙◌}
use Rattle.calvin_app.proofs.RowTables.{same_rows}
use Rattle.calvin_app.proofs.table.Table.reserve.Goals as goal

pub returns-clause-kept : goal.returns-clause-kept
returns-clause-kept g c = same_rows c.self.inside.rows.entries c.reserve.new.self.entries c.reserve.ensures.entries.2 ∙ c.self.view_is
