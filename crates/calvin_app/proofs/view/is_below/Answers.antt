use Rattle.std.proofs.Common.{◌≡◌, sym, ◌∙◌, ap, rules}
use Rattle.std.specs.Cmp.Rules.{comparing}
use Rattle.std.proofs.lemmas.Option.{none-some}
use Rattle.std.specs.declared.cmp.Ordering.TheVariants.{Less}
use Rattle.calvin_types.specs.Keys.{key_cmp}
use Rattle.calvin_app.proofs.Ends.{one_entry}
use Rattle.calvin_app.proofs.view.is_below.Goals as goal

pub returns-in-Some : goal.returns-in-Some
returns-in-Some g c = λ is e here.
    let below : key_cmp c.args.key c.in-Some.other ≡ Less = search (comparing, rules) in
    ap (key_cmp c.args.key) (one_entry _ e (c.in-Some.other, c.in-Some._row) here (sym c.get.ensures ∙ c.in-Some.is)) ∙ below

pub returns-in-None : goal.returns-in-None
returns-in-None g c = λ is e here. absurd (none-some e (sym c.in-None.is ∙ c.get.ensures ∙ here))
