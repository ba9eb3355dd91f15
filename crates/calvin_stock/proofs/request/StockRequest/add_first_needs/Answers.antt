use Rattle.std.proofs.Common.{sym, ap, ◌∙◌}
use Rattle.std.specs.FinMap as finmap
use Rattle.calvin_stock.specs.declared.request.StockRequest.{StockRequest}
use Rattle.calvin_stock.specs.Stock.{settle_keys, read_and_written, needs_of}
use Rattle.calvin_stock.specs.StockLaws.{last_order_first}
use Rattle.calvin_stock.proofs.request.StockRequest.add_first_needs.Goals as goal

pub returns-in-Settle-clause-first : goal.returns-in-Settle-clause-first
returns-in-Settle-clause-first c =
    ap read_and_written (c.add_settle_keys.ensures ∙ sym (ap (settle_keys c.in-Settle.customer) (last_order_first c.in-Settle.customer)))
    ∙ ap (λ (a : StockRequest). needs_of a finmap.empty) (sym c.in-Settle.is)
