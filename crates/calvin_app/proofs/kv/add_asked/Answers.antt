use Rattle.std.proofs.Common.{sym, ap, ◌∙◌, length, arith}
use Rattle.std.proofs.lemmas.List.{take_all}
use Rattle.calvin_app.proofs.Asked.{all_asked}
use Rattle.calvin_app.proofs.kv.add_asked.Goals as goal

pub returns-then-asks_for_all : goal.returns-then-asks_for_all
returns-then-asks_for_all c = sym (all_asked c.args.keys.now c.asks_for_all.ensures.at_most (sym c.asks_for_all.ensures.all ∙ c.if-asks_for_all.true))

pub returns-else-asks_for_all : goal.returns-else-asks_for_all
returns-else-asks_for_all c = c.of_table.ensures.keys ∙ sym (take_all 16 _ (omega (arith, ap length c.of_table.ensures.keys, c.of_table.ensures.at_most)))
