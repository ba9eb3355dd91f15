-- The application Stock. It is of this project; a settlement is a request whose sets depend on rows (Thomson et al. 2012,
-- section 3.2.1).
--     item_keys lines      the keys of the items of lines
--     order_keys o      the keys of an order: its items, itself and its customer
--     last_order found      the number of the customer's last order, if there is one
--     settle_keys u last      the keys of a settlement: the customer, and its last order where there is one
--     needs_of a rows      the keys that the request a reads and writes
--     is_dependent a      whether the keys of the request a may depend on rows
--     outcome_of a rows      the reply to the request a on these rows, and what it writes
--     stock      what the application needs and does
use Rattle.std.specs.Prelude.{ℕ, Bool, true, false, List, [], ◌∷◌, ◌++◌, map, Option, Some, None}
use Rattle.std.specs.FinMap.{get}
use Rattle.calvin_types.specs.declared.key.Key.{Key}
use Rattle.calvin_types.specs.declared.key_set.Sets.{Sets}
use Rattle.calvin_types.specs.Keys.{insert_key, insert_all}
use Rattle.calvin_app.specs.Rows.{Rows}
use Rattle.calvin_app.specs.Meaning.{Meaning}
use Rattle.calvin_stock.specs.declared.rows.Customer.{Customer}
use Rattle.calvin_stock.specs.declared.rows.StockRow.{StockRow}
use Rattle.calvin_stock.specs.declared.order.Line.{Line}
use Rattle.calvin_stock.specs.declared.order.Order.{Order}
use Rattle.calvin_stock.specs.declared.request.StockRequest.{StockRequest}
use Rattle.calvin_stock.specs.declared.request.StockRequest.TheVariants as request
use Rattle.calvin_stock.specs.declared.reply.StockReply.{StockReply}
use Rattle.calvin_stock.specs.StockRows.{customer_key, item_key, order_key, customer_at, item_at}
use Rattle.calvin_stock.specs.Operations.{Outcome, add_item, restock, open_customer, pay_in, tell_balance, place, settle}

abbrev pub item_keys : List Line → List Key
item_keys lines = map (λ l. item_key l.item) lines

abbrev pub order_keys : Order → List Key
order_keys o = insert_all (item_keys o.lines ++ order_key o.number ∷ customer_key o.customer ∷ []) []

abbrev pub last_order : Option Customer → Option ℕ
last_order None = None
last_order (Some c) = c.last_order

abbrev pub settle_keys : ℕ → Option ℕ → List Key
settle_keys u None = customer_key u ∷ []
settle_keys u (Some o) = insert_key (order_key o) (customer_key u ∷ [])

-- the same keys are read and written
abbrev pub read_and_written : List Key → Sets
read_and_written keys = record { reads = keys; writes = keys }

abbrev pub needs_of : StockRequest → Rows StockRow → Sets
needs_of (request.AddItem i s c) rows = read_and_written (item_key i ∷ [])
needs_of (request.Restock i s) rows = read_and_written (item_key i ∷ [])
needs_of (request.Open u) rows = read_and_written (customer_key u ∷ [])
needs_of (request.PayIn u c) rows = read_and_written (customer_key u ∷ [])
needs_of (request.Order o) rows = read_and_written (order_keys o)
needs_of (request.Settle u) rows = read_and_written (settle_keys u (last_order (customer_at rows u)))
needs_of (request.Balance u) rows = record { reads = customer_key u ∷ []; writes = [] }

abbrev pub is_dependent : StockRequest → Bool
is_dependent (request.Settle u) = true
is_dependent _ = false

abbrev pub outcome_of : StockRequest → Rows StockRow → Outcome
outcome_of (request.AddItem i s c) rows = add_item i s c (get rows (item_key i))
outcome_of (request.Restock i s) rows = restock i s (item_at rows i)
outcome_of (request.Open u) rows = open_customer u (get rows (customer_key u))
outcome_of (request.PayIn u c) rows = pay_in u c (customer_at rows u)
outcome_of (request.Order o) rows = place o rows (customer_at rows o.customer)
outcome_of (request.Settle u) rows = settle u rows (customer_at rows u)
outcome_of (request.Balance u) rows = tell_balance (customer_at rows u)

abbrev pub stock : Meaning StockRequest StockRow StockReply
stock = record { needs = needs_of; outcome = outcome_of }
