-- The rows of Stock as a journal keeps them. The form is of this project.
--     or_null f d      what f gives of d, and none where d is null
--     customer d, item d, placed d      the customer, the item or the order that stands behind its name
--     stock_row d      one of them
use Rattle.std.specs.Prelude.{◌^◌, if◌then◌else◌, Option, Some, None, option_and_then, option_map, is_none, is_some, codes, bytes_eq}
use Rattle.serde_json.specs.Data.{Data}
use Rattle.serde_json.specs.Find.{at, as_null, as_bool, as_str}
use Rattle.calvin_stock.specs.declared.rows.Customer.{Customer}
use Rattle.calvin_stock.specs.declared.rows.Item.{Item}
use Rattle.calvin_stock.specs.declared.rows.Placed.{Placed}
use Rattle.calvin_stock.specs.declared.rows.StockRow.{StockRow}
use Rattle.calvin_stock.specs.declared.rows.StockRow.TheVariants as row
use Rattle.calvin_script.specs.Spelling.{◌>>=◌, only_if, below}

abbrev pub or_null : {A : Type 0} → (Data → Option A) → Data → Option (Option A)
or_null f d = if is_some (as_null d) then Some None else option_map Some (f d)

-- `["customer",balance,last_order]`, where null stands for no last order
unfoldable pub customer : Data → Option Customer
customer d = only_if (is_none (at 3 d)) (do
  balance ← option_and_then (below (2 ^ 64)) (at 1 d)
  last_order ← option_and_then (or_null (below (2 ^ 64))) (at 2 d)
  Some (record { balance = balance; last_order = last_order }))

-- `["item",stock,price]`
unfoldable pub item : Data → Option Item
item d = only_if (is_none (at 3 d)) (do
  stock ← option_and_then (below (2 ^ 64)) (at 1 d)
  price ← option_and_then (below (2 ^ 64)) (at 2 d)
  Some (record { stock = stock; price = price }))

-- `["order",customer,total,settled]`
unfoldable pub placed : Data → Option Placed
placed d = only_if (is_none (at 4 d)) (do
  customer ← option_and_then (below (2 ^ 64)) (at 1 d)
  total ← option_and_then (below (2 ^ 64)) (at 2 d)
  settled ← option_and_then as_bool (at 3 d)
  Some (record { customer = customer; total = total; settled = settled }))

unfoldable pub stock_row : Data → Option StockRow
stock_row d = do
  name ← option_and_then as_str (at 0 d)
  if bytes_eq name (codes "customer") then option_map row.Customer (customer d)
      else (if bytes_eq name (codes "item") then option_map row.Item (item d)
      else only_if (bytes_eq name (codes "order")) (option_map row.Order (placed d)))
