use Rattle.std.proofs.Common.{◌<◌, ◌∙◌, Some, ap, sym, subst}
use Rattle.std.proofs.lemmas.Result.{IfOk-weaker}
use Rattle.serde_json.specs.Data.{depth}
use Rattle.serde_json.specs.Read.{max_depth}
use Rattle.calvin_serve_rows.specs.StockForms.{stock_row}
use Rattle.calvin_serve_rows.proofs.Spells.{customer_read, customer_depth, item_read, placed_read}
use Rattle.calvin_serve_rows.proofs.stock.StockRowStoredRow.to_json.Goals as goal

pub returns-in-Customer-clause-spelled : goal.returns-in-Customer-clause-spelled
returns-in-Customer-clause-spelled c =
    let customer = c.in-Customer.customer in
    let small = c.customer_json.ensures.small in
    IfOk-weaker c.customer_json.result _ _ (λ v e. ap stock_row e ∙ customer_read customer small.0 small.1 ∙ ap Some (sym c.in-Customer.is)) c.customer_json.ensures.data

pub returns-in-Customer-clause-shallow : goal.returns-in-Customer-clause-shallow
returns-in-Customer-clause-shallow c = IfOk-weaker c.customer_json.result _ _ (λ v e. subst (λ d. depth d < max_depth) (sym e) (customer_depth c.in-Customer.customer)) c.customer_json.ensures.data

pub returns-in-Item-clause-spelled : goal.returns-in-Item-clause-spelled
returns-in-Item-clause-spelled c =
    let small = c.item_json.ensures.small in
    IfOk-weaker c.item_json.result _ _ (λ v e. ap stock_row e ∙ item_read c.in-Item.item small.0 small.1 ∙ ap Some (sym c.in-Item.is)) c.item_json.ensures.data

pub returns-in-Order-clause-spelled : goal.returns-in-Order-clause-spelled
returns-in-Order-clause-spelled c =
    let small = c.placed_json.ensures.small in
    IfOk-weaker c.placed_json.result _ _ (λ v e. ap stock_row e ∙ placed_read c.in-Order.order small.0 small.1 ∙ ap Some (sym c.in-Order.is)) c.placed_json.ensures.data
