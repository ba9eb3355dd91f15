-- What each operation of Stock is told and writes. The checks stand in their order; where one is told, nothing is written.
-- The operations are of this project.
--     Outcome      a reply, and the writes
--     told reply      nothing is written
--     add_item i s c there      a new item with s pieces at the price c, where the row under its key is this one
--     restock i s found      s pieces more of an item
--     open_customer u there      a new customer, where the row under its key is this one
--     pay_in u c found      c cents for a customer
--     line_fault l found, first_fault ls rows      why a line, or the first of some lines, can't be delivered, if one can't
--     cost l found, total_of ls rows      the cents of a line, and of all lines
--     left l found, taken rows l      the item as a line leaves it, and the write of it
--     placed o rows c total      an order whose lines can be delivered, of the customer c
--     place o rows found      an order of the customer that is found
--     settle_order u c o found      the payment of the order o by the customer c
--     settle u rows found      the payment of the last order of the customer that is found
--     tell_balance found      the balance of a customer
use Rattle.std.specs.Prelude.{ℕ, ◌+◌, ◌-◌, ◌*◌, ◌||◌, true, false, nat_lt, if◌then◌else◌, List, [], ◌∷◌, ◌++◌, map, Option, Some, None}
use Rattle.std.specs.Option.{is_some, option_or}
use Rattle.std.specs.FinMap.{get}
use Rattle.calvin_types.specs.declared.key.Key.{Key}
use Rattle.calvin_app.specs.Rows.{Rows}
use Rattle.calvin_stock.specs.declared.limits.TheConstants.{MOST_CENTS, MOST_PIECES}
use Rattle.calvin_stock.specs.declared.rows.Customer.{Customer}
use Rattle.calvin_stock.specs.declared.rows.Item.{Item}
use Rattle.calvin_stock.specs.declared.rows.Placed.{Placed}
use Rattle.calvin_stock.specs.declared.rows.StockRow.{StockRow}
use Rattle.calvin_stock.specs.declared.rows.StockRow.TheVariants as row
use Rattle.calvin_stock.specs.declared.order.Line.{Line}
use Rattle.calvin_stock.specs.declared.order.Order.{Order}
use Rattle.calvin_stock.specs.declared.reply.StockReply.{StockReply}
use Rattle.calvin_stock.specs.declared.reply.StockReply.TheVariants.{Done, Limit, Exists, NoItem, NoCustomer, OrderExists, Short, Ordered, NothingOpen, Poor, Settled, Cents}
use Rattle.calvin_stock.specs.StockRows.{customer_key, item_key, order_key, item_at, order_at}

abbrev pub Outcome : Type 0
Outcome = StockReply × List (Key × StockRow)

abbrev pub told : StockReply → Outcome
told reply = (reply, [])

-- ---- items

abbrev pub add_item : ℕ → ℕ → ℕ → Option StockRow → Outcome
add_item i s c there =
    if nat_lt MOST_PIECES s || nat_lt MOST_CENTS c then told Limit
    else (if is_some there then told Exists
    else (Done, (item_key i, row.Item (record { stock = s; price = c })) ∷ []))

abbrev pub restock : ℕ → ℕ → Option Item → Outcome
restock i s None = told NoItem
restock i s (Some item) =
    if nat_lt MOST_PIECES (item.stock + s) then told Limit
    else (Done, (item_key i, row.Item (record { stock = item.stock + s; price = item.price })) ∷ [])

-- ---- customers

abbrev pub open_customer : ℕ → Option StockRow → Outcome
open_customer u there =
    if is_some there then told Exists
    else (Done, (customer_key u, row.Customer (record { balance = 0; last_order = None })) ∷ [])

abbrev pub pay_in : ℕ → ℕ → Option Customer → Outcome
pay_in u c None = told NoCustomer
pay_in u c (Some customer) =
    if nat_lt MOST_CENTS (customer.balance + c) then told Limit
    else (Done, (customer_key u, row.Customer (record { balance = customer.balance + c; last_order = customer.last_order })) ∷ [])

abbrev pub tell_balance : Option Customer → Outcome
tell_balance None = told NoCustomer
tell_balance (Some customer) = told (Cents customer.balance)

-- ---- orders

abbrev pub line_fault : Line → Option Item → Option StockReply
line_fault l None = Some NoItem
line_fault l (Some item) = if nat_lt item.stock l.pieces then Some Short else None

abbrev pub first_fault : List Line → Rows StockRow → Option StockReply
first_fault [] rows = None
first_fault (l ∷ ls) rows = option_or (line_fault l (item_at rows l.item)) (first_fault ls rows)

abbrev pub cost : Line → Option Item → ℕ
cost l None = 0
cost l (Some item) = l.pieces * item.price

abbrev pub total_of : List Line → Rows StockRow → ℕ
total_of [] rows = 0
total_of (l ∷ ls) rows = cost l (item_at rows l.item) + total_of ls rows

abbrev pub left : Line → Option Item → Item
left l None = record { stock = 0; price = 0 }
left l (Some item) = record { stock = item.stock - l.pieces; price = item.price }

abbrev pub taken : Rows StockRow → Line → Key × StockRow
taken rows l = (item_key l.item, row.Item (left l (item_at rows l.item)))

-- an order whose lines can be delivered: items are taken, the order is there, and it is its customer's last one
abbrev pub placed : Order → Rows StockRow → Customer → ℕ → Outcome
placed o rows customer total =
    if nat_lt MOST_CENTS total then told Limit
    else (
      Ordered total,
      map (taken rows) o.lines
          ++ (order_key o.number, row.Order (record { customer = o.customer; total = total; settled = false }))
          ∷ (customer_key o.customer, row.Customer (record { balance = customer.balance; last_order = Some o.number })) ∷ [],
    )

abbrev pub unless_fault : Option StockReply → Outcome → Outcome
unless_fault None outcome = outcome
unless_fault (Some fault) outcome = told fault

abbrev pub place : Order → Rows StockRow → Option Customer → Outcome
place o rows None = told NoCustomer
place o rows (Some customer) =
    if is_some (get rows (order_key o.number)) then told OrderExists
    else unless_fault (first_fault o.lines rows) (placed o rows customer (total_of o.lines rows))

-- ---- settlements

-- the payment of an order, which is a row of this kind or none
abbrev pub settle_order : ℕ → Customer → ℕ → Option Placed → Outcome
settle_order u customer o None = told NothingOpen
settle_order u customer o (Some p) =
    if p.settled then told NothingOpen
    else (if nat_lt customer.balance p.total then told Poor
    else (
      Settled p.total,
      (customer_key u, row.Customer (record { balance = customer.balance - p.total; last_order = customer.last_order }))
          ∷ (order_key o, row.Order (record { customer = p.customer; total = p.total; settled = true })) ∷ [],
    ))

abbrev pub settle_last : ℕ → Rows StockRow → Customer → Option ℕ → Outcome
settle_last u rows customer None = told NothingOpen
settle_last u rows customer (Some o) = settle_order u customer o (order_at rows o)

abbrev pub settle : ℕ → Rows StockRow → Option Customer → Outcome
settle u rows None = told NoCustomer
settle u rows (Some customer) = settle_last u rows customer customer.last_order
