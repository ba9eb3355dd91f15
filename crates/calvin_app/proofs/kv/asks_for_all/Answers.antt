use Rattle.std.proofs.Common.{◌-◌, arith}
use Rattle.calvin_app.proofs.Asked.{all_by_last}
use Rattle.calvin_app.proofs.kv.asks_for_all.Goals as goal

pub returns-in_default-clause-all : goal.returns-in_default-clause-all
returns-in_default-clause-all c = all_by_last c.args.keys.now (c.len.result - 1) c.at.result c.len.ensures.rising c.at.ensures (omega (arith, c.len.ensures.len, c.in_default))
