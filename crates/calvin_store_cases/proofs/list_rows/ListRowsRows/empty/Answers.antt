use Rattle.std.proofs.Common.{ap, ◌∙◌}
use Rattle.calvin_app.specs.Entries.{shown}
use Rattle.calvin_app.proofs.Views.{shown_none}
use Rattle.calvin_app.specs.Stores.{loaded}
use Rattle.calvin_store_cases.proofs.list_rows.ListRowsRows.empty.Goals as goal

pub returns-clause-store : goal.returns-clause-store
returns-clause-store g c = ap loaded (ap shown c.new.ensures.items ∙ shown_none)
