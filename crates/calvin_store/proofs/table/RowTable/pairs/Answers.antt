use Rattle.std.proofs.Common.{◌≡◌, map, sym, ap, subst, ◌∙◌, rules, tests}
use Rattle.std.proofs.lemmas.List.{map-id}
use Rattle.std.proofs.lemmas.Result.{IfOk-weaker}
use Rattle.std.proofs.lemmas.Iterator.{YieldsList-from_map, items_from_collect}
use Rattle.std.proofs.lemmas.Iterator.Consumers.{YieldsList-from_rest, YieldsList-at}
use Rattle.std.specs.FinMap as fin
use Rattle.std.specs.List.{IsDistinct}
use Rattle.calvin_types.specs.declared.key.Key.{Key}
use Rattle.calvin_types.specs.SameKeys.{equal_keys}
use Rattle.calvin_app.specs.Writing.{keys_of}
use Rattle.calvin_store.specs.Kept.{IsListed}
use Rattle.calvin_store.proofs.table.RowTable.pairs.Goals as goal

pub returns : goal.returns
returns g c =
    let es = c.self.inside.rows.entries in
    IfOk-weaker c.collect.result (λ pairs. pairs.items ≡ map (λ (e : Key × g.row.Row.Denot). e) es) (λ pairs. IsListed pairs.items c.args.self.now.rows)
    (λ pairs copied.
    let is = copied ∙ map-id es in record {
      distinct = subst (λ es. IsDistinct equal_keys (keys_of es)) (sym is) c.iter.ensures.unique;
      rows_are = ap fin.from_entries is ∙ ap (λ k. k.rows) c.self.view_is;
    })
    (items_from_collect _ c.collect.ensures.ran (YieldsList-from_map _ (λ e. e) (YieldsList-at c.map.ensures.source (YieldsList-from_rest es c.iter.ensures.rest)) c.map.ensures.closure (λ x r q k. search (rules, tests))))
