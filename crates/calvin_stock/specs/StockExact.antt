-- Lemmas: requests, rows and replies of Stock that compare equal are the same.
--     rows_exact      rows
--     requests_exact      requests
--     replies_exact      replies
use Rattle.std.specs.Prelude.{◌≡◌, ℕ, Bool, true, false, List, IsTrue, refl}
use Rattle.std.proofs.Common.{ap, ◌∙◌, subst}
use Rattle.std.proofs.Props.{props}
use Rattle.std.specs.Bool.{beq}
use Rattle.calvin_stock.specs.Lines.{are_lines}
use Rattle.std.proofs.lemmas.Bool.{eqb-true, false≢true}
use Rattle.calvin_types.specs.Exact.{pointwise_exact, option_exact, first, second}
use Rattle.calvin_stock.specs.declared.order.Line.{Line}
use Rattle.calvin_stock.specs.declared.order.Order.{Order}
use Rattle.calvin_stock.specs.declared.request.StockRequest.{StockRequest}
use Rattle.calvin_stock.specs.declared.request.StockRequest.TheVariants as request
use Rattle.calvin_stock.specs.declared.reply.StockReply.{StockReply}
use Rattle.calvin_stock.specs.declared.reply.StockReply.TheVariants as reply
use Rattle.calvin_stock.specs.declared.rows.Customer.{Customer}
use Rattle.calvin_stock.specs.declared.rows.Item.{Item}
use Rattle.calvin_stock.specs.declared.rows.Placed.{Placed}
use Rattle.calvin_stock.specs.declared.rows.StockRow.{StockRow}
use Rattle.calvin_stock.specs.declared.rows.StockRow.TheVariants as row
use Rattle.calvin_stock.specs.contracts.order.LinePartialEq.TheImpl as line_impl
use Rattle.calvin_stock.specs.contracts.order.OrderPartialEq.TheImpl as order_impl
use Rattle.calvin_stock.specs.contracts.request.StockRequestPartialEq.TheImpl as request_impl
use Rattle.calvin_stock.specs.contracts.reply.StockReplyPartialEq.TheImpl as reply_impl
use Rattle.calvin_stock.specs.contracts.rows.CustomerPartialEq.TheImpl as customer_impl
use Rattle.calvin_stock.specs.contracts.rows.ItemPartialEq.TheImpl as item_impl
use Rattle.calvin_stock.specs.contracts.rows.PlacedPartialEq.TheImpl as placed_impl
use Rattle.calvin_stock.specs.contracts.rows.StockRowPartialEq.TheImpl as row_impl

line_exact : (a b : Line) → line_impl.ghosts.eq a b ≡ true → a ≡ b
line_exact a b h = λ i. record { item = eqb-true a.item b.item (first _ _ h) i; pieces = eqb-true a.pieces b.pieces (second _ _ h) i }

-- that a test holds is so in one way only
true_once : (b : Bool) → IsProp (IsTrue b)
true_once b = hlevel props

-- orders of the same lines are the same
same_lines : (c o : ℕ) (ls ms : List Line) → ls ≡ ms → (p : IsTrue (are_lines ls)) → (q : IsTrue (are_lines ms))
    → ◌≡◌ {A = Order} (record { customer = c; number = o; lines = ls; in_range = p }) (record { customer = c; number = o; lines = ms; in_range = q })
same_lines c o ls ms e p = subst (λ (ns : List Line). (q : IsTrue (are_lines ns))
    → ◌≡◌ {A = Order} (record { customer = c; number = o; lines = ls; in_range = p })
    (record { customer = c; number = o; lines = ns; in_range = q })) e
    (λ q i. record { customer = c; number = o; lines = ls; in_range = true_once (are_lines ls) p q i })

order_exact : (a b : Order) → order_impl.ghosts.eq a b ≡ true → a ≡ b
order_exact a b h =
    (λ i. record { customer = eqb-true a.customer b.customer (first _ _ h) i; number = eqb-true a.number b.number (first _ _ (second _ _ h)) i; lines = a.lines; in_range = a.in_range })
    ∙ same_lines b.customer b.number a.lines b.lines (pointwise_exact _ line_exact a.lines b.lines (second _ _ (second _ _ h))) a.in_range b.in_range

customer_exact : (a b : Customer) → customer_impl.ghosts.eq a b ≡ true → a ≡ b
customer_exact a b h = λ i. record { balance = eqb-true a.balance b.balance (first _ _ h) i; last_order = option_exact _ eqb-true a.last_order b.last_order (second _ _ h) i }

item_exact : (a b : Item) → item_impl.ghosts.eq a b ≡ true → a ≡ b
item_exact a b h = λ i. record { stock = eqb-true a.stock b.stock (first _ _ h) i; price = eqb-true a.price b.price (second _ _ h) i }

bools_exact : (a b : Bool) → beq a b ≡ true → a ≡ b
bools_exact true true h = refl
bools_exact false false h = refl
bools_exact true false h = absurd (false≢true h)
bools_exact false true h = absurd (false≢true h)

placed_exact : (a b : Placed) → placed_impl.ghosts.eq a b ≡ true → a ≡ b
placed_exact a b h = λ i. record {
  customer = eqb-true a.customer b.customer (first _ _ h) i;
  total = eqb-true a.total b.total (first _ _ (second _ _ h)) i;
  settled = bools_exact a.settled b.settled (second _ _ (second _ _ h)) i;
}

pub rows_exact : (a b : StockRow) → row_impl.ghosts.eq a b ≡ true → a ≡ b
rows_exact (row.Customer a) (row.Customer b) h = ap row.Customer (customer_exact a b h)
rows_exact (row.Item a) (row.Item b) h = ap row.Item (item_exact a b h)
rows_exact (row.Order a) (row.Order b) h = ap row.Order (placed_exact a b h)
rows_exact _ _ h = absurd (false≢true h)

pub requests_exact : (a b : StockRequest) → request_impl.ghosts.eq a b ≡ true → a ≡ b
requests_exact (request.AddItem i s c) (request.AddItem j t d) h = λ k. request.AddItem (eqb-true i j (first _ _ h) k)
    (eqb-true s t (first _ _ (second _ _ h)) k) (eqb-true c d (second _ _ (second _ _ h)) k)
requests_exact (request.Restock i s) (request.Restock j t) h = λ k. request.Restock (eqb-true i j (first _ _ h) k) (eqb-true s t (second _ _ h) k)
requests_exact (request.Open u) (request.Open w) h = ap request.Open (eqb-true u w h)
requests_exact (request.PayIn u c) (request.PayIn w d) h = λ k. request.PayIn (eqb-true u w (first _ _ h) k) (eqb-true c d (second _ _ h) k)
requests_exact (request.Order a) (request.Order b) h = ap request.Order (order_exact a b h)
requests_exact (request.Settle u) (request.Settle w) h = ap request.Settle (eqb-true u w h)
requests_exact (request.Balance u) (request.Balance w) h = ap request.Balance (eqb-true u w h)
requests_exact _ _ h = absurd (false≢true h)

pub replies_exact : (a b : StockReply) → reply_impl.ghosts.eq a b ≡ true → a ≡ b
replies_exact reply.Done reply.Done h = refl
replies_exact reply.Limit reply.Limit h = refl
replies_exact reply.Exists reply.Exists h = refl
replies_exact reply.NoItem reply.NoItem h = refl
replies_exact reply.NoCustomer reply.NoCustomer h = refl
replies_exact reply.OrderExists reply.OrderExists h = refl
replies_exact reply.Short reply.Short h = refl
replies_exact (reply.Ordered a) (reply.Ordered b) h = ap reply.Ordered (eqb-true a b h)
replies_exact reply.NothingOpen reply.NothingOpen h = refl
replies_exact reply.Poor reply.Poor h = refl
replies_exact (reply.Settled a) (reply.Settled b) h = ap reply.Settled (eqb-true a b h)
replies_exact (reply.Cents a) (reply.Cents b) h = ap reply.Cents (eqb-true a b h)
replies_exact _ _ h = absurd (false≢true h)
