use Rattle.std.proofs.Common.{sym, ap, ◌∙◌}
use Rattle.std.specs.FinMap as finmap
use Rattle.calvin_stock.specs.declared.request.StockRequest.{StockRequest}
use Rattle.calvin_stock.specs.Stock.{settle_keys, needs_of}
use Rattle.calvin_stock.specs.StockLaws.{last_order_first}
use Rattle.calvin_stock.proofs.request.StockRequest.add_needed_reads.Goals as goal

pub returns-in-Settle : goal.returns-in-Settle
returns-in-Settle c =
    c.add_settle_keys.ensures ∙ sym (ap (settle_keys c.in-Settle.customer) (last_order_first c.in-Settle.customer))
    ∙ ap (λ (a : StockRequest). (needs_of a finmap.empty).reads) (sym c.in-Settle.is)
