use Rattle.std.proofs.Common.{sym, ap, ◌∙◌}
use Rattle.calvin_types.specs.SameKeys.{same_keys}
use Rattle.calvin_app.proofs.Asked.{all_asked}
use Rattle.calvin_app.proofs.kv.are_asked.Goals as goal

pub returns-then-asks_for_all : goal.returns-then-asks_for_all
returns-then-asks_for_all c = c.eq.ensures ∙ ap (λ ks. same_keys ks c.args.set.now) (sym (all_asked c.args.keys.now c.asks_for_all.ensures.at_most (sym c.asks_for_all.ensures.all ∙ c.if-asks_for_all.true)))
