use Rattle.std.proofs.Common.{ap, ◌∙◌}
use Rattle.std.proofs.lemmas.Result.{IfOk-at_ok}
use Rattle.std.proofs.lemmas.Iterator.{YieldsList-from_slice}
use Rattle.std.proofs.lemmas.Iterator.Adapters.{fact_from_collect}
use Rattle.std.proofs.lemmas.Iterator.Consumers.{YieldsList-from_copied, YieldsList-at}
use Rattle.std.specs.HashMap as hash
use Rattle.std.specs.FinMap as map
use Rattle.calvin_types.specs.SameKeys.{equal_keys}
use Rattle.calvin_app.proofs.RowTables.{same_rows}
use Rattle.calvin_store.proofs.SortedPairs.{collected}
use Rattle.calvin_store.proofs.table.RowTable.of.Goals as goal

pub returns : goal.returns
returns g c =
    let pairs = map.entries c.args.snapshot.now in
    let made = IfOk-at_ok _ c.in_ok-rows.was (fact_from_collect (hash.IsFromIterResult equal_keys) c.collect.result c.collect.ensures.ran (YieldsList-from_copied (YieldsList-at c.copied.ensures.source (YieldsList-from_slice pairs (c.iter.ensures.rest ∙ c.pairs.ensures))))) in
    ap (λ rows. record { rows = rows; room = c.args.room }) (same_rows c.in_ok-rows.rows.entries c.reserve.new.self.entries c.reserve.ensures.entries.2 ∙ collected c.args.snapshot.now c.in_ok-rows.rows.entries made.0)
