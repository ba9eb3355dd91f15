-- The cents of rows, where a row is put, and where a request other than an order is run.
--     cents_at found      the cents under a key
--     unspent      no request takes cents out of all balances and settled orders
use Rattle.std.proofs.Common.{◌≡◌, ℕ, ◌||◌, ◌+◌, ◌-◌, ◌≤◌, Bool, true, false, cond, List, [], ◌∷◌, Option, Some, None, T, refl, sym, ap, ◌∙◌, arith, rules}
use Rattle.std.specs.Prelude.{if◌then◌else◌, nat_lt}
use Rattle.std.specs.List.{sum_by}
use Rattle.std.specs.Ordering.{is_eq, is_lt}
use Rattle.std.specs.Cmp.Rules.{comparing}
use Rattle.std.specs.FinMap as map
use Rattle.std.specs.FinMap.Entries.{by_order, below_all, put, find, is_sorted}
use Rattle.std.specs.declared.cmp.Ordering.TheVariants.{Less, Equal, Greater}
use Rattle.std.proofs.lemmas.Bool.{ltb-false}
use Rattle.std.proofs.lemmas.List.Sums.{sum_by-cons}
use Rattle.calvin_types.specs.declared.key.Key.{Key}
use Rattle.calvin_types.specs.Keys.{key_cmp}
use Rattle.calvin_types.specs.KeyOrder.{key_cmp_total}
use Rattle.calvin_types.proofs.Conjunctions.{first, second, less}
use Rattle.calvin_app.specs.declared.answer.Answer.{Answer}
use Rattle.calvin_app.specs.Rows.{Rows}
use Rattle.calvin_stock.specs.declared.limits.TheConstants.{MOST_CENTS, MOST_PIECES}
use Rattle.calvin_stock.specs.declared.rows.Customer.{Customer}
use Rattle.calvin_stock.specs.declared.rows.StockRow.{StockRow}
use Rattle.calvin_stock.specs.declared.rows.StockRow.TheVariants as row
use Rattle.calvin_stock.specs.declared.request.StockRequest.{StockRequest}
use Rattle.calvin_stock.specs.declared.request.StockRequest.TheVariants as request
use Rattle.calvin_stock.specs.declared.reply.StockReply.{StockReply}
use Rattle.calvin_stock.specs.declared.reply.StockReply.TheVariants.{Done, Limit, Exists, Settled, NothingOpen, Poor}
use Rattle.calvin_stock.specs.StockRows.{customer_key, order_key, item_key, as_customer, as_order, as_item}
use Rattle.calvin_stock.specs.Operations.{told, add_item, restock, open_customer, pay_in, tell_balance, settle, settle_last, settle_order}
use Rattle.calvin_stock.specs.Stock.{settle_keys, last_order}
use Rattle.calvin_stock.specs.StockLaws.{has-settle}
use Rattle.calvin_stock.specs.Totals.{cents_of, cents_in, paid_one}
use Rattle.calvin_stock.proofs.Flows.{Flows}
use Rattle.calvin_stock.proofs.Seen.{IsSeen, has-settled}

-- the cents that stand under a key
unfoldable pub cents_at : Option StockRow → ℕ
cents_at None = 0
cents_at (Some r) = cents_of r

-- a key below the first of rising entries is none of theirs
lt_trans : (a b c : Key) → key_cmp a b ≡ Less → key_cmp b c ≡ Less → key_cmp a c ≡ Less
lt_trans a b c p q = search (comparing, rules)

absent_below : (k x : Key) (es : List (Key × StockRow)) → key_cmp k x ≡ Less → T (below_all key_cmp x es) → find key_cmp k es ≡ None
absent_below k x [] lt below = refl
absent_below k x (e ∷ es) lt below =
    ap (λ o. cond (is_eq o) (Some e.1) (find key_cmp k es)) (lt_trans k x e.0 lt (less (key_cmp x e.0) (first _ _ below)))
    ∙ absent_below k x es lt (second (is_lt (key_cmp x e.0)) _ below)

-- the cents of entries, and what they come to where one is put in
abbrev cents_of_all : List (Key × StockRow) → ℕ
cents_of_all es = sum_by (λ (e : Key × StockRow). cents_of e.1) es

sum-put : (k : Key) (r : StockRow) (es : List (Key × StockRow)) → T (is_sorted key_cmp es) → cents_of_all (put key_cmp k r es) + cents_at (find key_cmp k es) ≡ cents_of_all es + cents_of r
unfolding cents_at
sum-put k r [] h = omega arith
sum-put k r (e ∷ es) h = elim (key_cmp k e.0) as (λ o. key_cmp k e.0 ≡ o → cents_of_all (by_order o ((k, r) ∷ e ∷ es) ((e.0, r) ∷ es) (e ∷ put key_cmp k r es)) + cents_at (cond (is_eq o) (Some e.1) (find key_cmp k es)) ≡ cents_of_all (e ∷ es) + cents_of r) [
  | Less ↦ λ is. omega (arith, ap cents_at (absent_below k e.0 es is (first _ _ h)), more (k, r) (e ∷ es))
  | Equal ↦ λ is. omega (arith, more e es, more (e.0, r) es)
  | Greater ↦ λ is. omega (arith, more e es, more e (put key_cmp k r es), sum-put k r es (second (below_all key_cmp e.0 es) _ h))
] refl where
  more : (x : Key × StockRow) (xs : List (Key × StockRow)) → cents_of_all (x ∷ xs) ≡ cents_of x.1 + cents_of_all xs
  more x xs = sum_by-cons (λ (e : Key × StockRow). cents_of e.1) x xs

-- one row put
pub cents-insert : (rows : Rows StockRow) (k : Key) (r : StockRow) → cents_in (map.insert rows k r) + cents_at (map.get rows k) ≡ cents_in rows + cents_of r
cents-insert rows k r =
    (λ i. cents_of_all (map.entries-insert key_cmp_total rows k r i) + cents_at (map.get-entries rows k i))
    ∙ sum-put k r (map.entries rows) (map.entries_sorted rows)

-- no request takes cents out of all balances and settled orders
abbrev pub unspent : StockRequest → Answer StockReply → ℕ
unspent a b = 0

-- ---- each operation but orders

pub pay_in_keeps : (u c : ℕ) (rows : Rows StockRow) (found : Option StockRow) → map.get rows (customer_key u) ≡ found → Flows cents_in paid_one unspent (request.PayIn u c) rows (pay_in u c (as_customer found))
unfolding cents_at
pay_in_keeps u c rows None is = omega arith
pay_in_keeps u c rows (Some (row.Item i)) is = omega arith
pay_in_keeps u c rows (Some (row.Order p)) is = omega arith
pay_in_keeps u c rows (Some (row.Customer customer)) is = elim (nat_lt MOST_CENTS (customer.balance + c)) as (λ b. Flows cents_in paid_one unspent (request.PayIn u c) rows (if b then told Limit else (Done, (customer_key u, row.Customer (record { balance = customer.balance + c; last_order = customer.last_order })) ∷ []))) [
  | true ↦ omega arith
  | false ↦ omega (arith, cents-insert rows (customer_key u) (row.Customer (record { balance = customer.balance + c; last_order = customer.last_order })), ap cents_at is)
]

settle_order_keeps : (u o : ℕ) (rows : Rows StockRow) (customer : Customer) (found : Option StockRow) → map.get rows (customer_key u) ≡ Some (row.Customer customer) → map.get rows (order_key o) ≡ found → Flows cents_in paid_one unspent (request.Settle u) rows (settle_order u customer o (as_order found))
unfolding cents_at
settle_order_keeps u o rows customer None is there = omega arith
settle_order_keeps u o rows customer (Some (row.Item i)) is there = omega arith
settle_order_keeps u o rows customer (Some (row.Customer d)) is there = omega arith
settle_order_keeps u o rows customer (Some (row.Order p)) is there = go p.settled refl (nat_lt customer.balance p.total) refl where
  go : (b : Bool) → p.settled ≡ b → (d : Bool) → nat_lt customer.balance p.total ≡ d → Flows cents_in paid_one unspent (request.Settle u) rows (if b then told NothingOpen else (if d then told Poor else (Settled p.total, (customer_key u, row.Customer (record { balance = customer.balance - p.total; last_order = customer.last_order })) ∷ (order_key o, row.Order (record { customer = p.customer; total = p.total; settled = true })) ∷ [])))
  go true s d t = omega arith
  go false s true t = omega arith
  go false s false t =
      let enough : p.total ≤ customer.balance = ltb-false customer.balance p.total t in
      let one = cents-insert rows (customer_key u) (row.Customer (record { balance = customer.balance - p.total; last_order = customer.last_order })) in
      let two = cents-insert (map.insert rows (customer_key u) (row.Customer (record { balance = customer.balance - p.total; last_order = customer.last_order }))) (order_key o) (row.Order (record { customer = p.customer; total = p.total; settled = true })) in
      let other = map.get-insert key_cmp_total rows (customer_key u) (row.Customer (record { balance = customer.balance - p.total; last_order = customer.last_order })) (order_key o) ∙ there in
      omega (arith, enough, one, two, ap cents_at other, ap cents_at is, ap (λ b. if b then p.total else 0) s)

settle_last_keeps : (u : ℕ) (rows v : Rows StockRow) (c : Customer) (last : Option ℕ) → map.get v (customer_key u) ≡ Some (row.Customer c) → IsSeen v rows (settle_keys u last) → Flows cents_in paid_one unspent (request.Settle u) rows (settle_last u v c last)
settle_last_keeps u rows v c None is same = omega arith
settle_last_keeps u rows v c (Some o) is same =
    settle_order_keeps u o rows c (map.get v (order_key o)) (sym (same (customer_key u) (has-settle u (Some o))) ∙ is)
    (sym (same (order_key o) (has-settled u o)))

pub settle_keeps : (u : ℕ) (rows v : Rows StockRow) (found : Option StockRow) → map.get v (customer_key u) ≡ found → IsSeen v rows (settle_keys u (last_order (as_customer found))) → Flows cents_in paid_one unspent (request.Settle u) rows (settle u v (as_customer found))
settle_keeps u rows v None is same = omega arith
settle_keeps u rows v (Some (row.Item i)) is same = omega arith
settle_keeps u rows v (Some (row.Order p)) is same = omega arith
settle_keeps u rows v (Some (row.Customer c)) is same = settle_last_keeps u rows v c c.last_order is same

pub restock_keeps : (i n : ℕ) (rows : Rows StockRow) (found : Option StockRow) → map.get rows (item_key i) ≡ found → Flows cents_in paid_one unspent (request.Restock i n) rows (restock i n (as_item found))
unfolding cents_at
restock_keeps i n rows None is = omega arith
restock_keeps i n rows (Some (row.Customer c)) is = omega arith
restock_keeps i n rows (Some (row.Order p)) is = omega arith
restock_keeps i n rows (Some (row.Item item)) is = elim (nat_lt MOST_PIECES (item.stock + n)) as (λ b. Flows cents_in paid_one unspent (request.Restock i n) rows (if b then told Limit else (Done, (item_key i, row.Item (record { stock = item.stock + n; price = item.price })) ∷ []))) [
  | true ↦ omega arith
  | false ↦ omega (arith, cents-insert rows (item_key i) (row.Item (record { stock = item.stock + n; price = item.price })), ap cents_at is)
]

pub add_item_keeps : (i s c : ℕ) (rows : Rows StockRow) (found : Option StockRow) → map.get rows (item_key i) ≡ found → Flows cents_in paid_one unspent (request.AddItem i s c) rows (add_item i s c found)
unfolding cents_at
add_item_keeps i s c rows (Some r) is = elim (nat_lt MOST_PIECES s || nat_lt MOST_CENTS c) as (λ b. Flows cents_in paid_one unspent (request.AddItem i s c) rows (if b then told Limit else told Exists)) [ true ↦ omega arith | false ↦ omega arith ]
add_item_keeps i s c rows None is = elim (nat_lt MOST_PIECES s || nat_lt MOST_CENTS c) as (λ b. Flows cents_in paid_one unspent (request.AddItem i s c) rows (if b then told Limit else (Done, (item_key i, row.Item (record { stock = s; price = c })) ∷ []))) [
  | true ↦ omega arith
  | false ↦ omega (arith, cents-insert rows (item_key i) (row.Item (record { stock = s; price = c })), ap cents_at is)
]

pub open_keeps : (u : ℕ) (rows : Rows StockRow) (found : Option StockRow) → map.get rows (customer_key u) ≡ found → Flows cents_in paid_one unspent (request.Open u) rows (open_customer u found)
unfolding cents_at
open_keeps u rows (Some r) is = omega arith
open_keeps u rows None is = omega (arith, cents-insert rows (customer_key u) (row.Customer (record { balance = 0; last_order = None })), ap cents_at is)

pub balance_keeps : (u : ℕ) (rows : Rows StockRow) (found : Option Customer) → Flows cents_in paid_one unspent (request.Balance u) rows (tell_balance found)
balance_keeps u rows None = omega arith
balance_keeps u rows (Some c) = omega arith
