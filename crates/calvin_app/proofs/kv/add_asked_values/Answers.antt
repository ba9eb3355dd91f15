use Rattle.std.proofs.Common.{sym, ap, ◌∙◌, map}
use Rattle.std.specs.FinMap as finmap
use Rattle.calvin_app.proofs.Asked.{all_asked}
use Rattle.calvin_app.proofs.kv.add_asked_values.Goals as goal

pub returns-then-asks_for_all : goal.returns-then-asks_for_all
returns-then-asks_for_all c = c.add_values.ensures ∙ ap (map (finmap.get c.args.view.now)) (sym (all_asked c.args.keys.now c.asks_for_all.ensures.at_most (sym c.asks_for_all.ensures.all ∙ c.if-asks_for_all.true)))
