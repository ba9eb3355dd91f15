use Rattle.std.proofs.Common.{sym, ◌++◌}
use Rattle.calvin_store.proofs.StillKept.{warmed_same}
use Rattle.calvin_store_cases.proofs.list_rows.ListRowsRows.warm.Goals as goal

pub returns-clause-ok : goal.returns-clause-ok
returns-clause-ok g c = sym (warmed_same c.args.self.now.rows (c.args._sets.now.reads ++ c.args._sets.now.writes))
