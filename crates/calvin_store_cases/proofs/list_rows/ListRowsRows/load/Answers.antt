use Rattle.std.proofs.Common.{◌≡◌, sym, ap, ◌∙◌, subst, rules}
use Rattle.std.specs.FinMap as map
use Rattle.calvin_app.specs.Entries.{rising, shown}
use Rattle.calvin_app.specs.EntryLaws.{entries_kept}
use Rattle.calvin_app.specs.Stores.{loaded}
use Rattle.calvin_store_cases.proofs.list_rows.ListRowsRows.load.Goals as goal

pub invariant_of-self : goal.invariant_of-self
invariant_of-self g c =
    let is : c.reserve.new.self.items ≡ map.entries c.args.snapshot.now = c.reserve.ensures.items ∙ c.in_ok-pairs.ensures ∙ c.pairs.ensures in
    (subst rising (sym is) (map.entries_sorted c.args.snapshot.now), search rules)

pub returns-clause-ok : goal.returns-clause-ok
returns-clause-ok g c =
    let is : c.reserve.new.self.items ≡ map.entries c.args.snapshot.now = c.reserve.ensures.items ∙ c.in_ok-pairs.ensures ∙ c.pairs.ensures in
    ap loaded (ap shown is ∙ map.same_entries_map _ _ (entries_kept _ (map.entries_sorted c.args.snapshot.now)))
