use Rattle.std.proofs.Common.{◌++◌, sym}
use Rattle.calvin_app.proofs.StoreLaws.{without-none}
use Rattle.calvin_store.proofs.split.SplitRowsRows.warm.Goals as goal

pub returns-clause-ok : goal.returns-clause-ok
returns-clause-ok g c = λ i. record { map = c.args.self.now.rows; point = c.args.self.now.point; cold = sym (without-none (c.args._sets.now.reads ++ c.args._sets.now.writes)) i }
