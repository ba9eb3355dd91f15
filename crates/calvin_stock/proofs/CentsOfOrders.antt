-- The cents of rows when an order is placed: items count for nothing, and the order isn't settled.
use Rattle.std.proofs.Common.{◌≡◌, ℕ, ◌||◌, true, false, cond, List, [], ◌∷◌, ◌++◌, map, Option, Some, None, refl, sym, ap, ◌∙◌, arith}
use Rattle.std.specs.Prelude.{if◌then◌else◌, nat_lt}
use Rattle.std.specs.Option.{is_some, option_or}
use Rattle.std.specs.FinMap as finmap
use Rattle.std.proofs.Math.Bool.{or-true}
use Rattle.calvin_types.specs.Keys.{has, same_key}
use Rattle.calvin_types.specs.KeyOrder.{key_cmp_total, same_key-self}
use Rattle.calvin_app.specs.Rows.{Rows, overwritten}
use Rattle.calvin_stock.specs.declared.order.Line.{Line}
use Rattle.calvin_stock.specs.declared.order.Order.{Order}
use Rattle.calvin_stock.specs.declared.rows.Customer.{Customer}
use Rattle.calvin_stock.specs.declared.rows.Item.{Item}
use Rattle.calvin_stock.specs.declared.rows.StockRow.{StockRow}
use Rattle.calvin_stock.specs.declared.rows.StockRow.TheVariants as row
use Rattle.calvin_stock.specs.declared.request.StockRequest.TheVariants as request
use Rattle.calvin_stock.specs.declared.reply.StockReply.{StockReply}
use Rattle.calvin_stock.specs.declared.reply.StockReply.TheVariants.{Limit, Ordered, OrderExists}
use Rattle.calvin_stock.specs.declared.limits.TheConstants.{MOST_CENTS}
use Rattle.calvin_stock.specs.StockRows.{customer_key, item_key, order_key, as_customer, as_item, item_at}
use Rattle.calvin_stock.specs.Operations.{line_fault, first_fault, taken, left, placed, place, unless_fault, total_of, told}
use Rattle.calvin_stock.specs.Stock.{item_keys, order_keys}
use Rattle.calvin_stock.specs.Totals.{cents_in, paid_one}
use Rattle.calvin_stock.proofs.Flows.{Flows}
use Rattle.calvin_stock.proofs.Seen.{IsSeen, has-item, has-number, has-customer, overwritten-append}
use Rattle.calvin_stock.proofs.Cents.{cents_at, cents-insert, unspent}

-- no cents stand under the items of lines
abbrev AllZero : List Line → Rows StockRow → Type 0
AllZero [] rows = Unit {0}
AllZero (l ∷ ls) rows = (cents_at (finmap.get rows (item_key l.item)) ≡ 0) × AllZero ls rows

zero_insert : (ls : List Line) (rows : Rows StockRow) (j : ℕ) (x : Item) → AllZero ls rows → AllZero ls (finmap.insert rows (item_key j) (row.Item x))
unfolding cents_at
zero_insert [] rows j x h = tt
zero_insert (l ∷ ls) rows j x h = (
  ap cents_at (finmap.get-insert key_cmp_total rows (item_key j) (row.Item x) (item_key l.item))
      ∙ elim (same_key (item_key l.item) (item_key j)) as (λ b. cents_at (cond b (Some (row.Item x)) (finmap.get rows (item_key l.item))) ≡ 0) [ true ↦ refl | false ↦ h.0 ],
  zero_insert ls rows j x h.1,
)

items_keep : (v : Rows StockRow) (ls : List Line) (rows : Rows StockRow) → AllZero ls rows → cents_in (overwritten rows (map (taken v) ls)) ≡ cents_in rows
items_keep v [] rows h = refl
items_keep v (l ∷ ls) rows h =
    let x = left l (item_at v l.item) in
    let rest = items_keep v ls (finmap.insert rows (item_key l.item) (row.Item x)) (zero_insert ls rows l.item x h.1) in
    let one = cents-insert rows (item_key l.item) (row.Item x) in
    omega (arith, rest, one, h.0)

order_there : (v : Rows StockRow) (ls : List Line) (rows : Rows StockRow) (o : ℕ) → finmap.get (overwritten rows (map (taken v) ls)) (order_key o) ≡ finmap.get rows (order_key o)
order_there v [] rows o = refl
order_there v (l ∷ ls) rows o = order_there v ls (finmap.insert rows (item_key l.item) (row.Item (left l (item_at v l.item)))) o ∙ finmap.get-insert key_cmp_total rows (item_key l.item) (row.Item (left l (item_at v l.item))) (order_key o)

customer_there : (v : Rows StockRow) (ls : List Line) (rows : Rows StockRow) (u : ℕ) → finmap.get (overwritten rows (map (taken v) ls)) (customer_key u) ≡ finmap.get rows (customer_key u)
customer_there v [] rows u = refl
customer_there v (l ∷ ls) rows u = customer_there v ls (finmap.insert rows (item_key l.item) (row.Item (left l (item_at v l.item)))) u ∙ finmap.get-insert key_cmp_total rows (item_key l.item) (row.Item (left l (item_at v l.item))) (customer_key u)

no_item_zero : (l : Line) (found : Option StockRow) (rest : Option StockReply) → option_or (line_fault l (as_item found)) rest ≡ None → cents_at found ≡ 0
unfolding cents_at
no_item_zero l None rest h = refl
no_item_zero l (Some (row.Item i)) rest h = refl
no_item_zero l (Some (row.Customer c)) rest h = absurd (cc)
no_item_zero l (Some (row.Order p)) rest h = absurd (cc)

pub later_none : (f rest : Option StockReply) → option_or f rest ≡ None → rest ≡ None
later_none None rest h = h
later_none (Some x) rest h = absurd (cc)

-- where no line is at fault, there are items
all_zero : (v rows : Rows StockRow) (ls : List Line) → IsSeen v rows (item_keys ls) → first_fault ls v ≡ None → AllZero ls rows
all_zero v rows [] same h = tt
all_zero v rows (l ∷ ls) same h = (
  ap cents_at (sym (same (item_key l.item) (ap (λ b. b || has (item_keys ls) (item_key l.item)) (same_key-self (item_key l.item))))) ∙ no_item_zero l (finmap.get v (item_key l.item)) (first_fault ls v) h,
  all_zero v rows ls (λ k there. same k (ap (λ b. same_key k (item_key l.item) || b) there ∙ or-true (same_key k (item_key l.item)))) (later_none (line_fault l (item_at v l.item)) (first_fault ls v) h),
)

placed_keeps : (o : Order) (v rows : Rows StockRow) (c : Customer) (total : ℕ) → AllZero o.lines rows → finmap.get rows (order_key o.number) ≡ None → finmap.get rows (customer_key o.customer) ≡ Some (row.Customer c) → Flows cents_in paid_one unspent (request.Order o) rows (placed o v c total)
unfolding cents_at
placed_keeps o v rows c total zero none there = elim (nat_lt MOST_CENTS total) as (λ b. Flows cents_in paid_one unspent (request.Order o) rows (if b then told Limit else (Ordered total, map (taken v) o.lines ++ (order_key o.number, row.Order (record { customer = o.customer; total = total; settled = false })) ∷ (customer_key o.customer, row.Customer (record { balance = c.balance; last_order = Some o.number })) ∷ []))) [
  | true ↦ omega arith
  | false ↦
      let after = overwritten rows (map (taken v) o.lines) in
      let order_row = row.Order (record { customer = o.customer; total = total; settled = false }) in
      let customer_row = row.Customer (record { balance = c.balance; last_order = Some o.number }) in
      let items = items_keep v o.lines rows zero in
      let one = cents-insert after (order_key o.number) order_row in
      let two = cents-insert (finmap.insert after (order_key o.number) order_row) (customer_key o.customer) customer_row in
      let at_order = order_there v o.lines rows o.number ∙ none in
      let at_customer = finmap.get-insert key_cmp_total after (order_key o.number) order_row (customer_key o.customer) ∙ customer_there v o.lines rows o.customer ∙ there in
      let all = ap cents_in (overwritten-append (map (taken v) o.lines) ((order_key o.number, order_row) ∷ (customer_key o.customer, customer_row) ∷ []) rows) in
      omega (arith, items, one, two, ap cents_at at_order, ap cents_at at_customer, all)
]

-- ---- an order, on a view

pub place_keeps : (o : Order) (v rows : Rows StockRow) (found : Option StockRow) → finmap.get v (customer_key o.customer) ≡ found → IsSeen v rows (order_keys o) → Flows cents_in paid_one unspent (request.Order o) rows (place o v (as_customer found))
place_keeps o v rows None is same = omega arith
place_keeps o v rows (Some (row.Item i)) is same = omega arith
place_keeps o v rows (Some (row.Order p)) is same = omega arith
place_keeps o v rows (Some (row.Customer c)) is same = elim (finmap.get v (order_key o.number)) as (λ f. finmap.get v (order_key o.number) ≡ f → Flows cents_in paid_one unspent (request.Order o) rows (if is_some f then told OrderExists else unless_fault (first_fault o.lines v) (placed o v c (total_of o.lines v)))) [
  | Some r ↦ λ there. omega arith
  | None ↦ λ none. elim (first_fault o.lines v) as (λ f. first_fault o.lines v ≡ f → Flows cents_in paid_one unspent (request.Order o) rows (unless_fault f (placed o v c (total_of o.lines v)))) [
    | Some fault ↦ λ wrong. omega arith
    | None ↦ λ right. placed_keeps o v rows c (total_of o.lines v)
        (all_zero v rows o.lines (λ k there. same k (has-item o k there)) right)
        (sym (same (order_key o.number) (has-number o)) ∙ none)
        (sym (same (customer_key o.customer) (has-customer o)) ∙ is)
  ] refl
] refl
