-- The rows of Stock: customers in table 1, items in table 2, orders in table 3. They are of this project.
--     customer_key u, item_key i, order_key o      the keys of the customer, the item and the order with this number
--     as_customer r, as_item r, as_order r      the row, if it is one of this kind
--     customer_at rows u, item_at rows i, order_at rows o      the customer, the item and the order with this number, if there is one
use Rattle.std.specs.Prelude.{ℕ, Option, Some, None}
use Rattle.std.specs.FinMap.{get}
use Rattle.calvin_types.specs.declared.key.Key.{Key}
use Rattle.calvin_app.specs.Rows.{Rows}
use Rattle.calvin_stock.specs.declared.rows.Customer.{Customer}
use Rattle.calvin_stock.specs.declared.rows.Item.{Item}
use Rattle.calvin_stock.specs.declared.rows.Placed.{Placed}
use Rattle.calvin_stock.specs.declared.rows.StockRow.{StockRow}
use Rattle.calvin_stock.specs.declared.rows.StockRow.TheVariants as row

abbrev pub customer_key : ℕ → Key
customer_key u = record { table = 1; id = u }

abbrev pub item_key : ℕ → Key
item_key i = record { table = 2; id = i }

abbrev pub order_key : ℕ → Key
order_key o = record { table = 3; id = o }

-- rows by kind: one of another kind counts as none
abbrev pub as_customer : Option StockRow → Option Customer
as_customer (Some (row.Customer c)) = Some c
as_customer _ = None

abbrev pub as_item : Option StockRow → Option Item
as_item (Some (row.Item i)) = Some i
as_item _ = None

abbrev pub as_order : Option StockRow → Option Placed
as_order (Some (row.Order p)) = Some p
as_order _ = None

abbrev pub customer_at : Rows StockRow → ℕ → Option Customer
customer_at rows u = as_customer (get rows (customer_key u))

abbrev pub item_at : Rows StockRow → ℕ → Option Item
item_at rows i = as_item (get rows (item_key i))

abbrev pub order_at : Rows StockRow → ℕ → Option Placed
order_at rows o = as_order (get rows (order_key o))
