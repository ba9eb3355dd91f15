use Rattle.calvin_once.specs.OnceLaws.{once_lawful, once_settles}
use Rattle.calvin_stock.specs.Stock.{stock, is_dependent}
use Rattle.calvin_stock.specs.StockLaws.{stock_lawful, stock_settles}
use Rattle.calvin_stock.proofs.once.stock_once.Goals as goal

pub returns-clause-lawful : goal.returns-clause-lawful
returns-clause-lawful c = once_lawful stock is_dependent 6 3 stock_lawful

pub returns-clause-settles : goal.returns-clause-settles
returns-clause-settles c = once_settles stock 6 3 stock_settles
