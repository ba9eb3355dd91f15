use Rattle.std.proofs.Common.{sym, ap, ◌∙◌}
use Rattle.std.specs.FinMap as map
use Rattle.calvin_store.proofs.SortedPairs.{len-distinct}
use Rattle.calvin_store.proofs.table.RowTable.len.Goals as goal

pub returns-clause-len : goal.returns-clause-len
returns-clause-len g c = c.len.ensures.len ∙ sym (len-distinct c.self.inside.rows.entries c.len.ensures.unique) ∙ ap (λ k. map.len k.rows) c.self.view_is
