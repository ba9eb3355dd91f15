use Rattle.std.proofs.Common.{◌<◌, length, refl, subst, sym}
use Rattle.std.specs.FinMap.{empty}
use Rattle.calvin_stock.specs.Stock.{stock}
use Rattle.calvin_script.proofs.OnceKeys.{few_reads, grown_reads}
use Rattle.calvin_script.proofs.once.NamedStockRequestOperation.add_first_reads.Goals as goal

pub grow-requires : goal.grow-requires
grow-requires c = subst (λ reads. length reads < 16) (sym c.add_first_reads.ensures) (few_reads c.args.self.now.args (stock.needs c.args.self.now.args empty) refl)

pub returns : goal.returns
returns c = grown_reads c.args.self.now c.kept_key.result c.add_first_reads.new.reads c.grow.new.self c.kept_key.ensures c.add_first_reads.ensures c.grow.ensures
