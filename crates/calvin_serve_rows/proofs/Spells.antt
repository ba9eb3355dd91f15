-- What is written of a row is read as that row.
use Rattle.std.proofs.Common.{◌≡◌, ◌<◌, ◌^◌, ℕ, List, Bool, true, false, nat_lt, if◌then◌else◌, Option, Some, None, option_map, option_and_then, codes, bytes_eq, refl, subst, arith}
use Rattle.std.specs.Option.{ForSome}
use Rattle.std.proofs.lemmas.Bool.{lt-ltb}
use Rattle.std.proofs.lemmas.Slice.Eq.{bytes_eq-Decides}
use Rattle.serde_json.specs.Data.{Data, number, string, array, unsigned, no_items, depth}
use Rattle.serde_json.specs.Data as json
use Rattle.serde_json.specs.Find.{at, as_str}
use Rattle.serde_json.specs.Read.{max_depth}
use Rattle.calvin_once.specs.declared.kept.OnceRow.TheVariants as kept
use Rattle.calvin_stock.specs.declared.reply.StockReply.{StockReply}
use Rattle.calvin_stock.specs.declared.reply.StockReply.TheVariants as reply
use Rattle.calvin_stock.specs.declared.rows.Customer.{Customer}
use Rattle.calvin_stock.specs.declared.rows.Item.{Item}
use Rattle.calvin_stock.specs.declared.rows.Placed.{Placed}
use Rattle.calvin_stock.specs.declared.rows.StockRow.{StockRow}
use Rattle.calvin_stock.specs.declared.rows.StockRow.TheVariants as row
use Rattle.calvin_script.specs.Numbers.{one_number}
use Rattle.calvin_script.specs.Spelling.{◌>>=◌, only_if, below}
use Rattle.calvin_serve_rows.specs.StockForms.{or_null, customer, item, placed, stock_row}
use Rattle.calvin_serve_rows.specs.OnceForms.{reply_of, kept_reply, once_row}
use Rattle.calvin_serve_rows.specs.Spelled.{number_or_null, customer_data, item_data, placed_data, parts, named_data, reply_data, kept_data}

small : (n : ℕ) → n < 2 ^ 64 → nat_lt n (2 ^ 64) ≡ true
small n h = lt-ltb n (2 ^ 64) h

-- ---- rows of Stock

last_read : (last : Option ℕ) → ForSome last (λ n. n < 2 ^ 64) → or_null (below (2 ^ 64)) (number_or_null last) ≡ Some last
last_read None h = refl
last_read (Some n) h = rw (small n (h n refl)) refl

pub customer_read : (c : Customer) → c.balance < 2 ^ 64 → ForSome c.last_order (λ n. n < 2 ^ 64) → stock_row (customer_data c) ≡ Some (row.Customer c)
unfolding stock_row customer
customer_read c balance last = rw (small c.balance balance, last_read c.last_order last) refl

pub customer_depth : (c : Customer) → depth (customer_data c) < max_depth
customer_depth c = go c.balance c.last_order
  where
    go : (balance : ℕ) (last : Option ℕ) → depth (array (json.item (string (codes "customer")) (json.item (number (unsigned balance)) (json.item (number_or_null last) no_items)))) < max_depth
    go balance None = omega arith
    go balance (Some n) = omega arith

pub item_read : (i : Item) → i.stock < 2 ^ 64 → i.price < 2 ^ 64 → stock_row (item_data i) ≡ Some (row.Item i)
unfolding stock_row item
item_read i stock price = rw (small i.stock stock, small i.price price) refl

pub placed_read : (p : Placed) → p.customer < 2 ^ 64 → p.total < 2 ^ 64 → stock_row (placed_data p) ≡ Some (row.Order p)
unfolding stock_row placed
placed_read p owner total = rw (small p.customer owner, small p.total total) refl

-- ---- replies

pub reply_read : (r : StockReply) → ForSome (parts r).1 (λ n. n < 2 ^ 64) → reply_of (reply_data r) ≡ Some r
unfolding reply_of one_number
reply_read reply.Done h = refl
reply_read reply.Limit h = refl
reply_read reply.Exists h = refl
reply_read reply.NoItem h = refl
reply_read reply.NoCustomer h = refl
reply_read reply.OrderExists h = refl
reply_read reply.Short h = refl
reply_read (reply.Ordered n) h = rw (small n (h n refl)) refl
reply_read reply.NothingOpen h = refl
reply_read reply.Poor h = refl
reply_read (reply.Settled n) h = rw (small n (h n refl)) refl
reply_read (reply.Cents n) h = rw (small n (h n refl)) refl

-- ---- rows beside kept replies

pub kept_read : (r : StockReply) → ForSome (parts r).1 (λ n. n < 2 ^ 64) → once_row (kept_data r) ≡ Some (kept.Reply r)
unfolding once_row kept_reply
kept_read r h = rw (reply_read r h) refl

pub kept_depth : (r : StockReply) → depth (kept_data r) < max_depth
kept_depth r = go (parts r).0 (parts r).1
  where
    go : (name : List ℕ) (told : Option ℕ) → depth (array (json.item (string (codes "reply")) (json.item (named_data name told) no_items))) < max_depth
    go name None = omega arith
    go name (Some n) = omega arith

-- the name of a row of Stock isn't `reply`
not_reply : (name : List ℕ) (b : Bool) (x y z : Option StockRow) → bytes_eq name (codes "reply") ≡ b → (r : StockRow)
    → (if bytes_eq name (codes "customer") then x else (if bytes_eq name (codes "item") then y else only_if (bytes_eq name (codes "order")) z)) ≡ Some r → b ≡ false
not_reply name false x y z is r e = refl
not_reply name true x y z is r e =
    let same : name ≡ codes "reply" = (bytes_eq-Decides name (codes "reply")).0 is in
    absurd (none_of (subst (λ n. (if bytes_eq n (codes "customer") then x else (if bytes_eq n (codes "item") then y else only_if (bytes_eq n (codes "order")) z)) ≡ Some r) same e))
  where
    none_of : {A : Type 0} {r : A} → None ≡ Some r → ⊥
    none_of e = cc

inner_at : (o : Option (List ℕ)) (d : Data) (r : StockRow)
    → (do
      name ← o
      if bytes_eq name (codes "customer") then option_map row.Customer (customer d)
          else (if bytes_eq name (codes "item") then option_map row.Item (item d)
          else only_if (bytes_eq name (codes "order")) (option_map row.Order (placed d)))) ≡ Some r
    → stock_row d ≡ Some r
    → (do
      name ← o
      if bytes_eq name (codes "reply") then option_map kept.Reply (kept_reply d) else option_map kept.Row (stock_row d)) ≡ Some (kept.Row r)
inner_at None d r e is = absurd (cc)
inner_at (Some name) d r e is =
    let other : bytes_eq name (codes "reply") ≡ false = not_reply name (bytes_eq name (codes "reply")) _ _ _ refl r e in
    rw (other, is) refl

pub inner_read : (d : Data) (r : StockRow) → stock_row d ≡ Some r → once_row d ≡ Some (kept.Row r)
unfolding once_row stock_row
inner_read d r is = inner_at (option_and_then as_str (at 0 d)) d r is is
