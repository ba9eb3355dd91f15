-- The totals of Stock: what was paid in is there, and so are the pieces, or they were ordered. They are of this project.
--     cents_of r      the cents of a row: a customer's balance, a settled order's total
--     cents_in rows      all balances, and the totals of all settled orders
--     stock_at rows i      the pieces of the item i in stock
--     pieces_of i lines      the pieces of the lines of the item i
--     along one list answers      what each request of a list comes to by its answer, together
--     paid list answers      the cents of all payments that were answered Done
--     added i list answers      the pieces of the item i that were added, answered Done
--     ordered i list answers      the pieces of its lines in orders that were answered Ordered
use Rattle.std.specs.Prelude.{ℕ, ◌+◌, ◌==◌, if◌then◌else◌, List, [], ◌∷◌, Option, Some, None}
use Rattle.std.specs.List.{sum_by}
use Rattle.std.specs.FinMap.{entries}
use Rattle.calvin_types.specs.declared.key.Key.{Key}
use Rattle.calvin_types.specs.declared.txn.Txn.{Txn}
use Rattle.calvin_app.specs.declared.answer.Answer.{Answer}
use Rattle.calvin_app.specs.declared.answer.Answer.TheVariants as answer
use Rattle.calvin_app.specs.Rows.{Rows}
use Rattle.calvin_stock.specs.declared.rows.Item.{Item}
use Rattle.calvin_stock.specs.declared.rows.StockRow.{StockRow}
use Rattle.calvin_stock.specs.declared.rows.StockRow.TheVariants as row
use Rattle.calvin_stock.specs.declared.order.Line.{Line}
use Rattle.calvin_stock.specs.declared.request.StockRequest.{StockRequest}
use Rattle.calvin_stock.specs.declared.request.StockRequest.TheVariants as request
use Rattle.calvin_stock.specs.declared.reply.StockReply.{StockReply}
use Rattle.calvin_stock.specs.declared.reply.StockReply.TheVariants.{Done, Ordered}
use Rattle.calvin_stock.specs.StockRows.{item_at}

abbrev pub cents_of : StockRow → ℕ
cents_of (row.Customer c) = c.balance
cents_of (row.Order p) = if p.settled then p.total else 0
cents_of (row.Item i) = 0

abbrev pub cents_in : Rows StockRow → ℕ
cents_in rows = sum_by (λ (e : Key × StockRow). cents_of e.1) (entries rows)

-- the pieces of an item in stock
abbrev pub stock_of : Option Item → ℕ
stock_of None = 0
stock_of (Some i) = i.stock

abbrev pub stock_at : Rows StockRow → ℕ → ℕ
stock_at rows i = stock_of (item_at rows i)

abbrev pub pieces_of : ℕ → List Line → ℕ
pieces_of i [] = 0
pieces_of i (l ∷ ls) = (if l.item == i then l.pieces else 0) + pieces_of i ls

-- what one request pays, adds and orders, where it was answered so
abbrev pub paid_one : StockRequest → Answer StockReply → ℕ
paid_one (request.PayIn u c) (answer.Reply Done) = c
paid_one a b = 0

abbrev pub added_one : ℕ → StockRequest → Answer StockReply → ℕ
added_one i (request.AddItem j s c) (answer.Reply Done) = if i == j then s else 0
added_one i (request.Restock j s) (answer.Reply Done) = if i == j then s else 0
added_one i a b = 0

abbrev pub ordered_one : ℕ → StockRequest → Answer StockReply → ℕ
ordered_one i (request.Order o) (answer.Reply (Ordered total)) = pieces_of i o.lines
ordered_one i a b = 0

abbrev pub along : (StockRequest → Answer StockReply → ℕ) → List (Txn StockRequest) → List (Answer StockReply) → ℕ
along one [] answers = 0
along one (t ∷ ts) [] = 0
along one (t ∷ ts) (a ∷ answers) = one t.args a + along one ts answers

abbrev pub paid : List (Txn StockRequest) → List (Answer StockReply) → ℕ
paid list answers = along paid_one list answers

abbrev pub added : ℕ → List (Txn StockRequest) → List (Answer StockReply) → ℕ
added i list answers = along (added_one i) list answers

abbrev pub ordered : ℕ → List (Txn StockRequest) → List (Answer StockReply) → ℕ
ordered i list answers = along (ordered_one i) list answers
