use Rattle.std.proofs.Common.{codes, arith}
use Rattle.calvin_stock.specs.declared.request.StockRequest.TheVariants.{AddItem, Restock, Open, PayIn, Order, Settle, Balance}
use Rattle.calvin_script.specs.Numbers.{one_number, two_numbers, three_numbers}
use Rattle.calvin_script.specs.StockOperations.{order, stock_operation}
use Rattle.calvin_script_tokens.proofs.Operations.{named_spelled, additem_is, restock_is, open_is, payin_is, order_is, settle_is, balance_is}
use Rattle.calvin_script_tokens.proofs.stock.StockRequestOperationTokens.read_tokens.Goals as goal

pub returns-in_ok-read_order : goal.returns-in_ok-read_order
returns-in_ok-read_order c =
    let made = c.in_ok-read_order.ensures in
    rw made.1 (named_spelled stock_operation order Order (codes "order") order_is 2 made.0 c.in_ok-name.name.now c.args.reader.now c.opens_array.new.reader c.string_at.new.reader c.read_order.new.reader
    (omega arith) c.in_ok-opens_array.ensures c.in_ok-name.ensures (c.is_same.ensures c.if-is_same.true) made.2)

pub returns-in_ok-customer : goal.returns-in_ok-customer
returns-in_ok-customer c =
    rw c.payment_of.ensures (named_spelled stock_operation two_numbers (λ n. PayIn n.0 n.1) (codes "payin") payin_is 0 (c.in_ok-customer.customer, c.in_ok-customer.cents) c.in_ok-name.name.now c.args.reader.now c.opens_array.new.reader c.string_at.new.reader c.two_numbers.new.reader
    (omega arith) c.in_ok-opens_array.ensures c.in_ok-name.ensures (c.is_same-else-is_same.ensures c.if-is_same-2.true) c.in_ok-customer.ensures)

pub returns-in_ok-customer-2 : goal.returns-in_ok-customer-2
returns-in_ok-customer-2 c =
    rw c.settlement_of.ensures (named_spelled stock_operation one_number Settle (codes "settle") settle_is 0 c.in_ok-customer-2.customer c.in_ok-name.name.now c.args.reader.now c.opens_array.new.reader c.string_at.new.reader c.one_number.new.reader
    (omega arith) c.in_ok-opens_array.ensures c.in_ok-name.ensures (c.is_same-else-is_same-2.ensures c.if-is_same-3.true) c.in_ok-customer-2.ensures)

pub returns-in_ok-item : goal.returns-in_ok-item
returns-in_ok-item c =
    rw c.restock_of.ensures (named_spelled stock_operation two_numbers (λ n. Restock n.0 n.1) (codes "restock") restock_is 0 (c.in_ok-item.item, c.in_ok-item.pieces) c.in_ok-name.name.now c.args.reader.now c.opens_array.new.reader c.string_at.new.reader c.two_numbers-then-is_same-4.new.reader
    (omega arith) c.in_ok-opens_array.ensures c.in_ok-name.ensures (c.is_same-else-is_same-3.ensures c.if-is_same-4.true) c.in_ok-item.ensures)

pub returns-in_ok-customer-3 : goal.returns-in_ok-customer-3
returns-in_ok-customer-3 c =
    rw c.balance_of.ensures (named_spelled stock_operation one_number Balance (codes "balance") balance_is 0 c.in_ok-customer-3.customer c.in_ok-name.name.now c.args.reader.now c.opens_array.new.reader c.string_at.new.reader c.one_number-then-is_same-5.new.reader
    (omega arith) c.in_ok-opens_array.ensures c.in_ok-name.ensures (c.is_same-else-is_same-4.ensures c.if-is_same-5.true) c.in_ok-customer-3.ensures)

pub returns-in_ok-item-2 : goal.returns-in_ok-item-2
returns-in_ok-item-2 c =
    rw c.item_of.ensures (named_spelled stock_operation three_numbers (λ n. AddItem n.0 n.1 n.2) (codes "additem") additem_is 0 (c.in_ok-item-2.item, c.in_ok-item-2.pieces, c.in_ok-item-2.price) c.in_ok-name.name.now c.args.reader.now c.opens_array.new.reader c.string_at.new.reader c.three_numbers.new.reader
    (omega arith) c.in_ok-opens_array.ensures c.in_ok-name.ensures (c.is_same-else-is_same-5.ensures c.if-is_same-6.true) c.in_ok-item-2.ensures)

pub returns-in_ok-customer-4 : goal.returns-in_ok-customer-4
returns-in_ok-customer-4 c =
    rw c.customer_of.ensures (named_spelled stock_operation one_number Open (codes "open") open_is 0 c.in_ok-customer-4.customer c.in_ok-name.name.now c.args.reader.now c.opens_array.new.reader c.string_at.new.reader c.one_number-then-is_same-7.new.reader
    (omega arith) c.in_ok-opens_array.ensures c.in_ok-name.ensures (c.is_same-else-is_same-6.ensures c.if-is_same-7.true) c.in_ok-customer-4.ensures)
