-- The proof that Stock keeps the laws of applications.
--     last_order_first      where no row is known, no order is a customer's last one
--     has-settle      a settlement needs its customer
--     at_most_four      an order has at most four lines
--     stock_lawful      it keeps them
--     stock_settles      the first reads show all rows that its sets depend on
use Rattle.std.specs.Prelude.{◌≡◌, ℕ, ◌+◌, ◌≤◌, ◌||◌, Bool, true, false, nat_lt, if◌then◌else◌, List, [], ◌∷◌, ◌++◌, length, map, Option, Some, None, refl}
use Rattle.std.specs.Option.{is_some}
use Rattle.std.specs.FinMap as finmap
use Rattle.std.specs.FinMap.{get}
use Rattle.std.proofs.Common.{sym, ap, ◌∙◌, lit≤, arith}
use Rattle.std.proofs.Math.Bool.{or-false}
use Rattle.std.proofs.lemmas.Bool.{false≢true, leb-true}
use Rattle.std.specs.declared.cmp.Ordering.TheVariants.{Less, Equal, Greater}
use Rattle.calvin_types.specs.declared.key.Key.{Key}
use Rattle.calvin_types.specs.Keys.{key_cmp, same_key, has, by_order, insert_key, insert_all}
use Rattle.calvin_types.specs.KeyOrder.{same_key-self}
use Rattle.calvin_types.proofs.KeySets.{has-insert_key, has-insert_all}
use Rattle.calvin_types.specs.Exact.{first, second}
use Rattle.calvin_types.proofs.Risings.{insert_all-grows_by}
use Rattle.calvin_app.specs.Rows.{Rows, view}
use Rattle.calvin_app.specs.RowLaws.{get-seen}
use Rattle.calvin_app.specs.Meaning.{IsLawful, IsBounded, AllUpTo, SettlesAtOnce}
use Rattle.calvin_stock.specs.declared.order.Line.{Line}
use Rattle.calvin_stock.specs.declared.order.Order.{Order}
use Rattle.calvin_stock.specs.declared.rows.Customer.{Customer}
use Rattle.calvin_stock.specs.declared.rows.Item.{Item}
use Rattle.calvin_stock.specs.declared.rows.Placed.{Placed}
use Rattle.calvin_stock.specs.declared.rows.StockRow.{StockRow}
use Rattle.calvin_stock.specs.declared.request.StockRequest.{StockRequest}
use Rattle.calvin_stock.specs.declared.request.StockRequest.TheVariants as request
use Rattle.calvin_stock.specs.declared.reply.StockReply.{StockReply}
use Rattle.calvin_stock.specs.declared.reply.StockReply.TheVariants.{Limit, Exists, NoItem, NoCustomer, OrderExists, Ordered, NothingOpen, Poor, Cents}
use Rattle.calvin_stock.specs.declared.limits.TheConstants.{MOST_CENTS, MOST_PIECES}
use Rattle.calvin_stock.specs.StockRows.{customer_key, item_key, order_key, customer_at, item_at, order_at, as_customer}
use Rattle.calvin_stock.specs.Operations.{Outcome, told, restock, pay_in, tell_balance, taken, total_of, first_fault, placed, unless_fault, place, settle_order, settle_last, settle}
use Rattle.calvin_stock.specs.Stock.{last_order, item_keys, order_keys, settle_keys, read_and_written, needs_of, is_dependent, outcome_of, stock}

-- ---- writes are within the sets

-- the keys that an outcome writes are among these
Within : Outcome → List Key → Type 0
Within outcome keys = (k : Key) → has (map (λ w. w.0) outcome.1) k ≡ true → has keys k ≡ true

none_within : (reply : StockReply) (keys : List Key) → Within (told reply) keys
unfolding Within
none_within reply keys k h = absurd (false≢true h)

all_within : (reply : StockReply) (ws : List (Key × StockRow)) (keys : List Key) → ((k : Key) → has (map (λ w. w.0) ws) k ≡ true → has keys k ≡ true) → Within (reply, ws) keys
unfolding Within
all_within reply ws keys h = h

if_within : (b : Bool) (x y : Outcome) (keys : List Key) → Within x keys → Within y keys → Within (if b then x else y) keys
if_within true x y keys p q = p
if_within false x y keys p q = q

one_within : (reply : StockReply) (k : Key) (r : StockRow) → Within (reply, (k, r) ∷ []) (k ∷ [])
one_within reply k r = all_within reply _ _ (λ q h. h)

writes-taken : (rows : Rows StockRow) (lines : List Line) (ws : List (Key × StockRow)) → map (λ w. w.0) (map (taken rows) lines ++ ws) ≡ item_keys lines ++ map (λ w. w.0) ws
writes-taken rows [] ws = refl
writes-taken rows (l ∷ ls) ws = ap (λ ks. item_key l.item ∷ ks) (writes-taken rows ls ws)

placed_within : (o : Order) (rows : Rows StockRow) (c : Customer) (total : ℕ) → Within (placed o rows c total) (order_keys o)
placed_within o rows c total = if_within _ (told Limit) _ _ (none_within Limit _) (all_within (Ordered total) _ _ (λ k h.
    has-insert_all k (item_keys o.lines ++ order_key o.number ∷ customer_key o.customer ∷ []) []
    ∙ or-false (has (item_keys o.lines ++ order_key o.number ∷ customer_key o.customer ∷ []) k)
    ∙ ap (λ ks. has ks k) (sym (writes-taken rows o.lines _)) ∙ h))

unless_within : (fault : Option StockReply) (x : Outcome) (keys : List Key) → Within x keys → Within (unless_fault fault x) keys
unless_within None x keys p = p
unless_within (Some f) x keys p = none_within f keys

place_within : (o : Order) (rows : Rows StockRow) (c : Option Customer) → Within (place o rows c) (order_keys o)
place_within o rows None = none_within NoCustomer _
place_within o rows (Some c) = if_within (is_some (get rows (order_key o.number))) _ _ _ (none_within OrderExists _)
    (unless_within (first_fault o.lines rows) _ _ (placed_within o rows c (total_of o.lines rows)))

two_within : (reply : StockReply) (k q : Key) (r s : StockRow) → Within (reply, (k, r) ∷ (q, s) ∷ []) (insert_key q (k ∷ []))
two_within reply k q r s = all_within reply _ _ (λ x h. has-insert_key x q (k ∷ []) ∙ turned (same_key x q) (same_key x k) ∙ h) where
  turned : (p q : Bool) → (p || (q || false)) ≡ (q || (p || false))
  turned true true = refl
  turned true false = refl
  turned false true = refl
  turned false false = refl

settle_order_within : (u : ℕ) (c : Customer) (o : ℕ) (p : Option Placed) → Within (settle_order u c o p) (settle_keys u (Some o))
settle_order_within u c o None = none_within NothingOpen _
settle_order_within u c o (Some p) = if_within p.settled _ _ _ (none_within NothingOpen _) (if_within (nat_lt c.balance p.total) _ _ _ (none_within Poor _) (two_within _ _ _ _ _))

settle_last_within : (u : ℕ) (rows : Rows StockRow) (c : Customer) (last : Option ℕ) → Within (settle_last u rows c last) (settle_keys u last)
settle_last_within u rows c None = none_within NothingOpen _
settle_last_within u rows c (Some o) = settle_order_within u c o (order_at rows o)

settle_within : (u : ℕ) (rows : Rows StockRow) (c : Option Customer) → Within (settle u rows c) (settle_keys u (last_order c))
settle_within u rows None = none_within NoCustomer _
settle_within u rows (Some c) = settle_last_within u rows c c.last_order

restock_within : (i s : ℕ) (item : Option Item) → Within (restock i s item) (item_key i ∷ [])
restock_within i s None = none_within NoItem _
restock_within i s (Some item) = if_within (nat_lt MOST_PIECES (item.stock + s)) _ _ _ (none_within Limit _) (one_within _ _ _)

pay_in_within : (u c : ℕ) (customer : Option Customer) → Within (pay_in u c customer) (customer_key u ∷ [])
pay_in_within u c None = none_within NoCustomer _
pay_in_within u c (Some customer) = if_within (nat_lt MOST_CENTS (customer.balance + c)) _ _ _ (none_within Limit _) (one_within _ _ _)

balance_within : (customer : Option Customer) → Within (tell_balance customer) []
balance_within None = none_within NoCustomer _
balance_within (Some customer) = none_within (Cents customer.balance) _

writes_within : (a : StockRequest) (v : Rows StockRow) → Within (outcome_of a v) (needs_of a v).writes
writes_within (request.AddItem i s c) v = if_within (nat_lt MOST_PIECES s || nat_lt MOST_CENTS c) _ _ _ (none_within Limit _)
    (if_within (is_some (get v (item_key i))) _ _ _ (none_within Exists _) (one_within _ _ _))
writes_within (request.Restock i s) v = restock_within i s (item_at v i)
writes_within (request.Open u) v = if_within (is_some (get v (customer_key u))) _ _ _ (none_within Exists _) (one_within _ _ _)
writes_within (request.PayIn u c) v = pay_in_within u c (customer_at v u)
writes_within (request.Order o) v = place_within o v (customer_at v o.customer)
writes_within (request.Settle u) v = settle_within u v (customer_at v u)
writes_within (request.Balance u) v = balance_within (customer_at v u)

kept : (a : StockRequest) (v : Rows StockRow) (k : Key) → has (map (λ w. w.0) (outcome_of a v).1) k ≡ true → has (needs_of a v).writes k ≡ true
unfolding Within
kept a v k h = writes_within a v k h

-- ---- sets follow from their own reads

pub last_order_first : (u : ℕ) → last_order (customer_at (finmap.empty {R = key_cmp}) u) ≡ None
last_order_first u = ap (λ (r : Option StockRow). last_order (as_customer r)) (finmap.get-empty key_cmp (customer_key u))

pub has-settle : (u : ℕ) (last : Option ℕ) → has (settle_keys u last) (customer_key u) ≡ true
has-settle u None = ap (λ b. b || false) (same_key-self (customer_key u))
has-settle u (Some o) = has-insert_key (customer_key u) (order_key o) (customer_key u ∷ [])
    ∙ ap (λ b. same_key (customer_key u) (order_key o) || (b || false)) (same_key-self (customer_key u))
    ∙ go (same_key (customer_key u) (order_key o)) where
      go : (b : Bool) → (b || (true || false)) ≡ true
      go true = refl
      go false = refl

needs_follow : (a : StockRequest) (rows : Rows StockRow) → needs_of a (view rows (needs_of a rows).reads) ≡ needs_of a rows
needs_follow (request.AddItem i s c) rows = refl
needs_follow (request.Restock i s) rows = refl
needs_follow (request.Open u) rows = refl
needs_follow (request.PayIn u c) rows = refl
needs_follow (request.Order o) rows = refl
needs_follow (request.Settle u) rows =
    ap (λ (r : Option StockRow). record { reads = settle_keys u (last_order (as_customer r)); writes = settle_keys u (last_order (as_customer r)) })
    (get-seen rows _ (customer_key u) (has-settle u (last_order (customer_at rows u))))
needs_follow (request.Balance u) rows = refl

needs_fixed : (a : StockRequest) (v w : Rows StockRow) → is_dependent a ≡ false → needs_of a v ≡ needs_of a w
needs_fixed (request.AddItem i s c) v w h = refl
needs_fixed (request.Restock i s) v w h = refl
needs_fixed (request.Open u) v w h = refl
needs_fixed (request.PayIn u c) v w h = refl
needs_fixed (request.Order o) v w h = refl
needs_fixed (request.Settle u) v w h = absurd (false≢true (sym h))
needs_fixed (request.Balance u) v w h = refl

-- ---- the sets are bounded

one_bounded : (k : Key) → k.table ≤ 3 → IsBounded 6 3 (k ∷ [])
one_bounded k h = record { number = lit≤ tt; tables = (h, tt) }

tables-insert_key : (q : Key) (ks : List Key) → q.table ≤ 3 → AllUpTo 3 ks → AllUpTo 3 (insert_key q ks)
tables-insert_key q [] h all = (h, tt)
tables-insert_key q (k ∷ ks) h all = elim (key_cmp q k) as (λ o. AllUpTo 3 (by_order o (q ∷ k ∷ ks) (k ∷ ks) (k ∷ insert_key q ks))) [
  | Less ↦ (h, all)
  | Equal ↦ all
  | Greater ↦ (all.0, tables-insert_key q ks h all.1)
]

tables-insert_all : (qs ks : List Key) → AllUpTo 3 qs → AllUpTo 3 ks → AllUpTo 3 (insert_all qs ks)
tables-insert_all [] ks more all = all
tables-insert_all (q ∷ qs) ks more all = tables-insert_all qs (insert_key q ks) more.1 (tables-insert_key q ks more.0 all)

tables-order : (u o : ℕ) (lines : List Line) → AllUpTo 3 (item_keys lines ++ order_key o ∷ customer_key u ∷ [])
tables-order u o [] = (lit≤ tt, (lit≤ tt, tt))
tables-order u o (l ∷ ls) = (lit≤ tt, tables-order u o ls)

length-order : (u o : ℕ) (lines : List Line) → length (item_keys lines ++ order_key o ∷ customer_key u ∷ []) ≡ length lines + 2
length-order u o [] = refl
length-order u o (l ∷ ls) = omega (arith, length-order u o ls)

pub at_most_four : (o : Order) → length o.lines ≤ 4
at_most_four o = leb-true (length o.lines) 4 (second _ _ (first _ _ (first _ _ o.in_range)))

order_bounded : (o : Order) → IsBounded 6 3 (order_keys o)
order_bounded o = record {
  number = omega (arith, insert_all-grows_by (item_keys o.lines ++ order_key o.number ∷ customer_key o.customer ∷ []) [], length-order o.customer o.number o.lines, at_most_four o);
  tables = tables-insert_all _ [] (tables-order o.customer o.number o.lines) tt;
}

settle_bounded : (u : ℕ) (last : Option ℕ) → IsBounded 6 3 (settle_keys u last)
settle_bounded u None = one_bounded (customer_key u) (lit≤ tt)
settle_bounded u (Some o) = record {
  number = omega (arith, insert_all-grows_by (order_key o ∷ []) (customer_key u ∷ []));
  tables = tables-insert_key (order_key o) (customer_key u ∷ []) (lit≤ tt) (lit≤ tt, tt);
}

reads_bounded : (a : StockRequest) (v : Rows StockRow) → IsBounded 6 3 (needs_of a v).reads
reads_bounded (request.AddItem i s c) v = one_bounded (item_key i) (lit≤ tt)
reads_bounded (request.Restock i s) v = one_bounded (item_key i) (lit≤ tt)
reads_bounded (request.Open u) v = one_bounded (customer_key u) (lit≤ tt)
reads_bounded (request.PayIn u c) v = one_bounded (customer_key u) (lit≤ tt)
reads_bounded (request.Order o) v = order_bounded o
reads_bounded (request.Settle u) v = settle_bounded u (last_order (customer_at v u))
reads_bounded (request.Balance u) v = one_bounded (customer_key u) (lit≤ tt)

writes_bounded : (a : StockRequest) (v : Rows StockRow) → IsBounded 6 3 (needs_of a v).writes
writes_bounded (request.Balance u) v = record { number = lit≤ tt; tables = tt }
writes_bounded (request.AddItem i s c) v = one_bounded (item_key i) (lit≤ tt)
writes_bounded (request.Restock i s) v = one_bounded (item_key i) (lit≤ tt)
writes_bounded (request.Open u) v = one_bounded (customer_key u) (lit≤ tt)
writes_bounded (request.PayIn u c) v = one_bounded (customer_key u) (lit≤ tt)
writes_bounded (request.Order o) v = order_bounded o
writes_bounded (request.Settle u) v = settle_bounded u (last_order (customer_at v u))

pub stock_lawful : IsLawful stock is_dependent 6 3
stock_lawful = record {
  writes_within_the_sets = kept;
  sets_follow_from_their_reads = needs_follow;
  independent_sets_are_fixed = needs_fixed;
  bounded_reads = reads_bounded;
  bounded_writes = writes_bounded;
  at_most_sixteen = lit≤ tt;
}

pub stock_settles : SettlesAtOnce stock
stock_settles (request.AddItem i s c) rows = refl
stock_settles (request.Restock i s) rows = refl
stock_settles (request.Open u) rows = refl
stock_settles (request.PayIn u c) rows = refl
stock_settles (request.Order o) rows = refl
stock_settles (request.Settle u) rows =
    ap (λ (r : Option StockRow). read_and_written (settle_keys u (last_order (as_customer r))))
    (get-seen rows _ (customer_key u) (has-settle u (last_order (customer_at finmap.empty u))))
stock_settles (request.Balance u) rows = refl
