use Rattle.std.proofs.Common.{sym, ap, ◌∙◌}
use Rattle.std.specs.FinMap as map
use Rattle.calvin_app.specs.EntryLaws.{len-shown}
use Rattle.calvin_store_cases.proofs.list_rows.ListRowsRows.len.Goals as goal

pub returns : goal.returns
returns g c = c.len.ensures ∙ c.self.inside.pairs.ok.0 ∙ sym (len-shown c.self.inside.pairs.items c.self.invariant.0) ∙ ap (λ k. map.len k.rows) c.self.view_is
