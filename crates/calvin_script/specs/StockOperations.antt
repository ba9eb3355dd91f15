-- The operations of the application Stock as they are written. The form of scripts is of this project.
--     line d      the line `[i,q]` of an order
--     order_of_lines u o lines      the order o of the customer u with these lines, where they are the lines of one
--     additem d, restock d, open_of d, payin d, order d, settle d, balance d      each operation
--     stock_operation d      one of them
--     stock_grammar      Stock's name, its operations, and the sets of each on the empty view; declared sets are complete
use Rattle.std.specs.Prelude.{◌≡◌, ℕ, ◌^◌, Bool, true, false, List, length, nat_le, if◌then◌else◌, Option, Some, None, option_and_then, option_map, is_none, codes, bytes_eq, refl}
use Rattle.std.specs.FinMap as finmap
use Rattle.serde_json.specs.Data.{Data}
use Rattle.serde_json.specs.Find.{at, as_str}
use Rattle.calvin_stock.specs.declared.limits.TheConstants.{MOST_LINES}
use Rattle.calvin_stock.specs.declared.order.Line.{Line}
use Rattle.calvin_stock.specs.declared.order.Order.{Order}
use Rattle.calvin_stock.specs.declared.request.StockRequest.{StockRequest}
use Rattle.calvin_stock.specs.declared.request.StockRequest.TheVariants as request
use Rattle.calvin_stock.specs.Lines.{are_lines}
use Rattle.calvin_stock.specs.Stock.{stock}
use Rattle.calvin_script.specs.Spelling.{◌>>=◌, only_if, below, list}
use Rattle.calvin_script.specs.Numbers.{one_number, two_numbers, three_numbers}
use Rattle.calvin_script.specs.Grammar.{Grammar, as_declared}

-- `[i,q]`
unfoldable pub line : Data → Option Line
line d = only_if (is_none (at 2 d)) (do
  item ← option_and_then (below (2 ^ 64)) (at 0 d)
  pieces ← option_and_then (below (2 ^ 32)) (at 1 d)
  Some (record { item = item; pieces = pieces }))

-- at most four lines
abbrev pub few : List Line → Option (List Line)
few ls = only_if (nat_le (length ls) MOST_LINES) (Some ls)

unfoldable pub lines : Data → Option (List Line)
lines d = option_and_then few (list line d)

abbrev pub order_if : ℕ → ℕ → (ls : List Line) → (b : Bool) → are_lines ls ≡ b → Option Order
order_if u o ls true h = Some (record { customer = u; number = o; lines = ls; in_range = h })
order_if u o ls false h = None

abbrev pub order_of_lines : ℕ → ℕ → List Line → Option Order
order_of_lines u o ls = order_if u o ls (are_lines ls) refl

-- `["additem",i,s,c]`, `["restock",i,s]`, `["open",u]`, `["payin",u,c]`
unfoldable pub additem : Data → Option StockRequest
additem d = option_map (λ n. request.AddItem n.0 n.1 n.2) (three_numbers d)

unfoldable pub restock : Data → Option StockRequest
restock d = option_map (λ n. request.Restock n.0 n.1) (two_numbers d)

unfoldable pub open_of : Data → Option StockRequest
open_of d = option_map request.Open (one_number d)

unfoldable pub payin : Data → Option StockRequest
payin d = option_map (λ n. request.PayIn n.0 n.1) (two_numbers d)

-- `["order",u,o,[[i,q], ..]]`
unfoldable pub order : Data → Option Order
order d = only_if (is_none (at 4 d)) (do
  customer ← option_and_then (below (2 ^ 64)) (at 1 d)
  number ← option_and_then (below (2 ^ 64)) (at 2 d)
  ls ← option_and_then lines (at 3 d)
  order_of_lines customer number ls)

-- `["settle",u]`, `["balance",u]`
unfoldable pub settle : Data → Option StockRequest
settle d = option_map request.Settle (one_number d)

unfoldable pub balance : Data → Option StockRequest
balance d = option_map request.Balance (one_number d)

unfoldable pub stock_operation : Data → Option StockRequest
stock_operation d = do
  name ← option_and_then as_str (at 0 d)
  if bytes_eq name (codes "additem") then additem d
      else (if bytes_eq name (codes "restock") then restock d
      else (if bytes_eq name (codes "open") then open_of d
      else (if bytes_eq name (codes "payin") then payin d
      else (if bytes_eq name (codes "order") then option_map request.Order (order d)
      else (if bytes_eq name (codes "settle") then settle d
      else only_if (bytes_eq name (codes "balance")) (balance d))))))

abbrev pub stock_grammar : Grammar StockRequest
stock_grammar = record { app_name = codes "stock"; operation = λ _ d. stock_operation d; first_needs = λ a. stock.needs a finmap.empty; completed = as_declared }
