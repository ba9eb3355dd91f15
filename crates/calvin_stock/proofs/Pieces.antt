-- The pieces of an item, request by request.
use Rattle.std.proofs.Common.{◌≡◌, ℕ, ◌+◌, ◌-◌, ◌≤◌, ◌==◌, ◌||◌, Bool, true, false, not, cond, List, [], ◌∷◌, ◌++◌, map, Option, Some, None, refl, sym, ap, ◌∙◌, arith}
use Rattle.std.specs.Prelude.{if◌then◌else◌, nat_lt}
use Rattle.std.specs.FinMap as finmap
use Rattle.std.proofs.Math.Bool.{or-true}
use Rattle.std.proofs.lemmas.Bool.{eqb-true, ltb-false, or_parts, not-true}
use Rattle.std.proofs.lemmas.Bool.Decides.{nat_tests}
use Rattle.std.specs.Option.{is_some, option_or}
use Rattle.calvin_types.specs.declared.txn.Txn.{Txn}
use Rattle.calvin_types.specs.Exact.{first, second}
use Rattle.calvin_types.specs.Keys.{has, key_cmp, same_key}
use Rattle.calvin_types.specs.KeyOrder.{key_cmp_total, same_key-self}
use Rattle.calvin_types.specs.SameKeysLaws.{equal_keys_is_same_key}
use Rattle.calvin_app.specs.declared.answer.Answer.TheVariants as answer
use Rattle.calvin_app.specs.Rows.{Rows, overwritten}
use Rattle.calvin_app.specs.Serial.{serial}
use Rattle.calvin_stock.specs.declared.order.Line.{Line}
use Rattle.calvin_stock.specs.declared.order.Order.{Order}
use Rattle.calvin_stock.specs.declared.reply.StockReply.{StockReply}
use Rattle.calvin_stock.specs.declared.rows.Customer.{Customer}
use Rattle.calvin_stock.specs.declared.rows.Placed.{Placed}
use Rattle.calvin_stock.specs.declared.rows.Item.{Item}
use Rattle.calvin_stock.specs.declared.rows.StockRow.{StockRow}
use Rattle.calvin_stock.specs.declared.rows.StockRow.TheVariants as row
use Rattle.calvin_stock.specs.declared.request.StockRequest.{StockRequest}
use Rattle.calvin_stock.specs.declared.request.StockRequest.TheVariants as request
use Rattle.calvin_stock.specs.declared.reply.StockReply.TheVariants.{Done, Limit, Exists, NoItem, Short, OrderExists, Ordered, NothingOpen, Poor, Settled}
use Rattle.calvin_stock.specs.Lines.{are_in_range, has_distinct_items, names_item}
use Rattle.calvin_stock.specs.declared.limits.TheConstants.{MOST_PIECES, MOST_CENTS}
use Rattle.calvin_stock.specs.StockRows.{customer_key, item_key, order_key, as_customer, as_item, item_at, order_at}
use Rattle.calvin_stock.specs.Operations.{line_fault, first_fault, taken, left, placed, place, unless_fault, total_of, add_item, restock, open_customer, pay_in, settle_order, settle_last, settle, tell_balance, Outcome, told}
use Rattle.calvin_stock.specs.Stock.{stock, item_keys, order_keys}
use Rattle.calvin_stock.specs.Totals.{stock_of, stock_at, pieces_of, added_one, ordered_one, added, ordered}
use Rattle.calvin_stock.proofs.CentsOfOrders.{later_none}
use Rattle.calvin_stock.proofs.Flows.{Flows, FlowsSeen, all_flow}
use Rattle.calvin_stock.proofs.Seen.{IsSeen, has-alone, has-item, overwritten-append}

-- what an outcome does to the pieces of the item i
abbrev KeepsPieces : ℕ → StockRequest → Rows StockRow → Outcome → Type 0
KeepsPieces i = Flows (λ rows. stock_at rows i) (added_one i) (ordered_one i)

stock-insert : (rows : Rows StockRow) (j i : ℕ) (x : Item) → stock_at (finmap.insert rows (item_key j) (row.Item x)) i ≡ (if i == j then x.stock else stock_at rows i)
stock-insert rows j i x =
    ap (λ (r : Option StockRow). stock_of (as_item r)) (finmap.get-insert key_cmp_total rows (item_key j) (row.Item x) (item_key i))
    ∙ ap (λ b. stock_of (as_item (cond b (Some (row.Item x)) (finmap.get rows (item_key i))))) (sym (equal_keys_is_same_key (item_key i) (item_key j)))
    ∙ elim (i == j) as (λ b. stock_of (as_item (cond b (Some (row.Item x)) (finmap.get rows (item_key i)))) ≡ (if b then x.stock else stock_at rows i)) [ true ↦ refl | false ↦ refl ]

-- an item whose stock grows by so many pieces
more_stock : (rows : Rows StockRow) (j i n had now price : ℕ) → stock_at rows j ≡ had → now ≡ had + n → stock_at rows i + (if i == j then n else 0) ≡ stock_at (finmap.insert rows (item_key j) (row.Item (record { stock = now; price = price }))) i
more_stock rows j i n had now price before more = elim (i == j) as (λ b. (i == j) ≡ b → stock_at rows i + (if b then n else 0) ≡ (if b then now else stock_at rows i)) [
  | true ↦ λ same. omega (arith, before, more, ap (stock_at rows) (eqb-true i j same))
  | false ↦ λ other. omega arith
] refl ∙ sym (stock-insert rows j i (record { stock = now; price = price }))

restock_keeps : (i j n : ℕ) (rows : Rows StockRow) (found : Option StockRow) → finmap.get rows (item_key j) ≡ found → KeepsPieces i (request.Restock j n) rows (restock j n (as_item found))
restock_keeps i j n rows None is = refl
restock_keeps i j n rows (Some (row.Customer c)) is = refl
restock_keeps i j n rows (Some (row.Order p)) is = refl
restock_keeps i j n rows (Some (row.Item item)) is = elim (nat_lt MOST_PIECES (item.stock + n)) as (λ b. KeepsPieces i (request.Restock j n) rows (if b then told Limit else (Done, (item_key j, row.Item (record { stock = item.stock + n; price = item.price })) ∷ []))) [
  | true ↦ refl
  | false ↦ omega (arith, more_stock rows j i n item.stock (item.stock + n) item.price (ap (λ (r : Option StockRow). stock_of (as_item r)) is) refl)
]

add_item_keeps : (i j s c : ℕ) (rows : Rows StockRow) (found : Option StockRow) → finmap.get rows (item_key j) ≡ found → KeepsPieces i (request.AddItem j s c) rows (add_item j s c found)
add_item_keeps i j s c rows (Some r) is = elim (nat_lt MOST_PIECES s || nat_lt MOST_CENTS c) as (λ b. KeepsPieces i (request.AddItem j s c) rows (if b then told Limit else told Exists)) [ true ↦ refl | false ↦ refl ]
add_item_keeps i j s c rows None is = elim (nat_lt MOST_PIECES s || nat_lt MOST_CENTS c) as (λ b. KeepsPieces i (request.AddItem j s c) rows (if b then told Limit else (Done, (item_key j, row.Item (record { stock = s; price = c })) ∷ []))) [
  | true ↦ refl
  | false ↦ omega (arith, more_stock rows j i s 0 s c (ap (λ (r : Option StockRow). stock_of (as_item r)) is) (omega arith))
]

-- ---- an order

-- rows of other tables leave the pieces as they are
stock-customer : (rows : Rows StockRow) (u i : ℕ) (r : StockRow) → stock_at (finmap.insert rows (customer_key u) r) i ≡ stock_at rows i
stock-customer rows u i r = ap (λ (x : Option StockRow). stock_of (as_item x)) (finmap.get-insert key_cmp_total rows (customer_key u) r (item_key i))

stock-order : (rows : Rows StockRow) (o i : ℕ) (r : StockRow) → stock_at (finmap.insert rows (order_key o) r) i ≡ stock_at rows i
stock-order rows o i r = ap (λ (x : Option StockRow). stock_of (as_item x)) (finmap.get-insert key_cmp_total rows (order_key o) r (item_key i))

eq_turned : (a b : ℕ) → (a == b) ≡ (b == a)
eq_turned a b = grind (arith, nat_tests)

-- each line's item has in the rows what it has in the view, and enough of it
abbrev Enough : Rows StockRow → List Line → Rows StockRow → Type 0
Enough v [] rows = Unit {0}
Enough v (l ∷ ls) rows = ((stock_at rows l.item ≡ stock_at v l.item) × (l.pieces ≤ stock_at v l.item)) × Enough v ls rows

enough_insert : (v : Rows StockRow) (ls : List Line) (rows : Rows StockRow) (j : ℕ) (x : Item) → names_item ls j ≡ false → Enough v ls rows → Enough v ls (finmap.insert rows (item_key j) (row.Item x))
enough_insert v [] rows j x other h = tt
enough_insert v (l ∷ ls) rows j x other h =
    let here = or_parts (l.item == j) (names_item ls j) other in
    ((stock-insert rows j l.item x ∙ ap (λ b. if b then x.stock else stock_at rows l.item) here.0 ∙ h.0.0, h.0.1), enough_insert v ls rows j x here.1 h.1)

left_of : (l : Line) (found : Option Item) → (left l found).stock ≡ stock_of found - l.pieces
left_of l None = omega arith
left_of l (Some item) = refl

-- the lines take their pieces
lines_take : (v : Rows StockRow) (i : ℕ) (ls : List Line) (rows : Rows StockRow) → has_distinct_items ls ≡ true → Enough v ls rows → stock_at (overwritten rows (map (taken v) ls)) i + pieces_of i ls ≡ stock_at rows i
lines_take v i [] rows once h = omega arith
lines_take v i (l ∷ ls) rows once h =
    let x = left l (item_at v l.item) in
    let others = not-true _ (first _ _ once) in
    let rest = lines_take v i ls (finmap.insert rows (item_key l.item) (row.Item x)) (second (not (names_item ls l.item)) _ once) (enough_insert v ls rows l.item x others h.1) in
    let put = stock-insert rows l.item i x in
    one (i == l.item) refl (rest ∙ put) where
      one : (b : Bool) → (i == l.item) ≡ b → stock_at (overwritten (finmap.insert rows (item_key l.item) (row.Item (left l (item_at v l.item)))) (map (taken v) ls)) i + pieces_of i ls ≡ (if b then (left l (item_at v l.item)).stock else stock_at rows i) → stock_at (overwritten (finmap.insert rows (item_key l.item) (row.Item (left l (item_at v l.item)))) (map (taken v) ls)) i + ((if l.item == i then l.pieces else 0) + pieces_of i ls) ≡ stock_at rows i
      one true is so =
          let gives : (if l.item == i then l.pieces else 0) ≡ l.pieces = ap (λ b. if b then l.pieces else 0) (eq_turned l.item i ∙ is) in
          omega (arith, so, gives, left_of l (item_at v l.item), h.0.0, h.0.1, ap (stock_at rows) (eqb-true i l.item is))
      one false is so =
          let gives : (if l.item == i then l.pieces else 0) ≡ 0 = ap (λ b. if b then l.pieces else 0) (eq_turned l.item i ∙ is) in
          omega (arith, so, gives)

-- a line that isn't at fault has enough
has_enough : (l : Line) (found : Option Item) (rest : Option StockReply) → option_or (line_fault l found) rest ≡ None → l.pieces ≤ stock_of found
has_enough l None rest h = absurd (cc)
has_enough l (Some item) rest h = go (nat_lt item.stock l.pieces) refl h where
  go : (b : Bool) → nat_lt item.stock l.pieces ≡ b → option_or (if b then Some Short else None) rest ≡ None → l.pieces ≤ item.stock
  go true is h = absurd (cc)
  go false is h = ltb-false item.stock l.pieces is

all_enough : (v rows : Rows StockRow) (ls : List Line) → IsSeen v rows (item_keys ls) → first_fault ls v ≡ None → Enough v ls rows
all_enough v rows [] same h = tt
all_enough v rows (l ∷ ls) same h = (
  (ap (λ (x : Option StockRow). stock_of (as_item x)) (sym (same (item_key l.item) (ap (λ b. b || has (item_keys ls) (item_key l.item)) (same_key-self (item_key l.item))))), has_enough l (item_at v l.item) (first_fault ls v) h),
  all_enough v rows ls (λ k there. same k (ap (λ b. same_key k (item_key l.item) || b) there ∙ or-true (same_key k (item_key l.item)))) (later_none (line_fault l (item_at v l.item)) (first_fault ls v) h),
)

placed_takes : (i : ℕ) (o : Order) (v rows : Rows StockRow) (c : Customer) (total : ℕ) → Enough v o.lines rows → KeepsPieces i (request.Order o) rows (placed o v c total)
placed_takes i o v rows c total enough = elim (nat_lt MOST_CENTS total) as (λ b. KeepsPieces i (request.Order o) rows (if b then told Limit else (Ordered total, map (taken v) o.lines ++ (order_key o.number, row.Order (record { customer = o.customer; total = total; settled = false })) ∷ (customer_key o.customer, row.Customer (record { balance = c.balance; last_order = Some o.number })) ∷ []))) [
  | true ↦ refl
  | false ↦
      let after = overwritten rows (map (taken v) o.lines) in
      let order_row = row.Order (record { customer = o.customer; total = total; settled = false }) in
      let customer_row = row.Customer (record { balance = c.balance; last_order = Some o.number }) in
      let lines = lines_take v i o.lines rows (second (are_in_range o.lines) (has_distinct_items o.lines) o.in_range) enough in
      let one = stock-order after o.number i order_row in
      let two = stock-customer (finmap.insert after (order_key o.number) order_row) o.customer i customer_row in
      let all = ap (λ (x : Rows StockRow). stock_at x i) (overwritten-append (map (taken v) o.lines) ((order_key o.number, order_row) ∷ (customer_key o.customer, customer_row) ∷ []) rows) in
      omega (arith, lines, one, two, all)
]

-- a fault isn't an order
line_unordered : (i : ℕ) (o : Order) (l : Line) (found : Option Item) (fault : StockReply) → line_fault l found ≡ Some fault → ordered_one i (request.Order o) (answer.Reply fault) ≡ 0
line_unordered i o l None fault h = let e : fault ≡ NoItem = cc in ap (λ (f : StockReply). ordered_one i (request.Order o) (answer.Reply f)) e
line_unordered i o l (Some item) fault h = go (nat_lt item.stock l.pieces) h where
  go : (b : Bool) → (if b then Some Short else None) ≡ Some fault → ordered_one i (request.Order o) (answer.Reply fault) ≡ 0
  go true h = let e : fault ≡ Short = cc in ap (λ (f : StockReply). ordered_one i (request.Order o) (answer.Reply f)) e
  go false h = absurd (cc)

unordered : (i : ℕ) (o : Order) (v : Rows StockRow) (ls : List Line) (fault : StockReply) → first_fault ls v ≡ Some fault → ordered_one i (request.Order o) (answer.Reply fault) ≡ 0
unordered i o v [] fault h = absurd (cc)
unordered i o v (l ∷ ls) fault h = elim (line_fault l (item_at v l.item)) as (λ f. line_fault l (item_at v l.item) ≡ f → option_or f (first_fault ls v) ≡ Some fault → ordered_one i (request.Order o) (answer.Reply fault) ≡ 0) [
  | None ↦ λ is h. unordered i o v ls fault h
  | Some x ↦ λ is h. line_unordered i o l (item_at v l.item) fault (is ∙ h)
] refl h

place_takes : (i : ℕ) (o : Order) (v rows : Rows StockRow) (found : Option Customer) → IsSeen v rows (order_keys o) → KeepsPieces i (request.Order o) rows (place o v found)
place_takes i o v rows None same = refl
place_takes i o v rows (Some c) same = elim (is_some (finmap.get v (order_key o.number))) as (λ b. KeepsPieces i (request.Order o) rows (if b then told OrderExists else unless_fault (first_fault o.lines v) (placed o v c (total_of o.lines v)))) [
  | true ↦ refl
  | false ↦ elim (first_fault o.lines v) as (λ f. first_fault o.lines v ≡ f → KeepsPieces i (request.Order o) rows (unless_fault f (placed o v c (total_of o.lines v)))) [
    | Some fault ↦ λ wrong. omega (arith, unordered i o v o.lines fault wrong)
    | None ↦ λ right. placed_takes i o v rows c (total_of o.lines v) (all_enough v rows o.lines (λ k there. same k (has-item o k there)) right)
  ] refl
]

-- ---- the others

open_takes : (i u : ℕ) (rows : Rows StockRow) (found : Option StockRow) → KeepsPieces i (request.Open u) rows (open_customer u found)
open_takes i u rows (Some r) = refl
open_takes i u rows None = omega (arith, stock-customer rows u i (row.Customer (record { balance = 0; last_order = None })))

pay_in_takes : (i u c : ℕ) (rows : Rows StockRow) (found : Option Customer) → KeepsPieces i (request.PayIn u c) rows (pay_in u c found)
pay_in_takes i u c rows None = refl
pay_in_takes i u c rows (Some customer) = elim (nat_lt MOST_CENTS (customer.balance + c)) as (λ b. KeepsPieces i (request.PayIn u c) rows (if b then told Limit else (Done, (customer_key u, row.Customer (record { balance = customer.balance + c; last_order = customer.last_order })) ∷ []))) [
  | true ↦ refl
  | false ↦ omega (arith, stock-customer rows u i (row.Customer (record { balance = customer.balance + c; last_order = customer.last_order })))
]

settle_order_takes : (i u o : ℕ) (rows : Rows StockRow) (customer : Customer) (found : Option Placed) → KeepsPieces i (request.Settle u) rows (settle_order u customer o found)
settle_order_takes i u o rows customer None = refl
settle_order_takes i u o rows customer (Some p) = go p.settled (nat_lt customer.balance p.total) where
  go : (b d : Bool) → KeepsPieces i (request.Settle u) rows (if b then told NothingOpen else (if d then told Poor else (Settled p.total, (customer_key u, row.Customer (record { balance = customer.balance - p.total; last_order = customer.last_order })) ∷ (order_key o, row.Order (record { customer = p.customer; total = p.total; settled = true })) ∷ [])))
  go true d = refl
  go false true = refl
  go false false =
      let paid_row = row.Customer (record { balance = customer.balance - p.total; last_order = customer.last_order }) in
      omega (arith, stock-customer rows u i paid_row, stock-order (finmap.insert rows (customer_key u) paid_row) o i (row.Order (record { customer = p.customer; total = p.total; settled = true })))

settle_takes : (i u : ℕ) (rows v : Rows StockRow) (found : Option Customer) → KeepsPieces i (request.Settle u) rows (settle u v found)
settle_takes i u rows v None = refl
settle_takes i u rows v (Some c) = elim c.last_order as (λ last. KeepsPieces i (request.Settle u) rows (settle_last u v c last)) [
  | None ↦ refl
  | Some o ↦ settle_order_takes i u o rows c (order_at v o)
]

balance_takes : (i u : ℕ) (rows : Rows StockRow) (found : Option Customer) → KeepsPieces i (request.Balance u) rows (tell_balance found)
balance_takes i u rows None = refl
balance_takes i u rows (Some c) = refl

-- ---- whatever is asked

takes : (i : ℕ) (a : StockRequest) → FlowsSeen (λ rows. stock_at rows i) (added_one i) (ordered_one i) a
unfolding FlowsSeen
takes i (request.AddItem j s c) rows v same = add_item_keeps i j s c rows (finmap.get v (item_key j)) (sym (same (item_key j) (has-alone (item_key j))))
takes i (request.Restock j s) rows v same = restock_keeps i j s rows (finmap.get v (item_key j)) (sym (same (item_key j) (has-alone (item_key j))))
takes i (request.Open u) rows v same = open_takes i u rows (finmap.get v (customer_key u))
takes i (request.PayIn u c) rows v same = pay_in_takes i u c rows (as_customer (finmap.get v (customer_key u)))
takes i (request.Order o) rows v same = place_takes i o v rows (as_customer (finmap.get v (customer_key o.customer))) same
takes i (request.Settle u) rows v same = settle_takes i u rows v (as_customer (finmap.get v (customer_key u)))
takes i (request.Balance u) rows v same = balance_takes i u rows (as_customer (finmap.get v (customer_key u)))

-- nothing is added or ordered where sets have changed
idle : (i : ℕ) (a : StockRequest) → added_one i a answer.Changed ≡ ordered_one i a answer.Changed
idle i (request.AddItem j s c) = refl
idle i (request.Restock j s) = refl
idle i (request.Order o) = refl
idle i _ = refl

-- the pieces that were added are there or were ordered, after every list from no rows
pub pieces_hold : (i : ℕ) (ts : List (Txn StockRequest)) → added i ts (serial stock ts finmap.empty).1 ≡ stock_at (serial stock ts finmap.empty).0 i + ordered i ts (serial stock ts finmap.empty).1
pieces_hold i ts =
    let none = ap (λ (x : Option StockRow). stock_of (as_item x)) (finmap.get-empty key_cmp (item_key i)) in
    let all = all_flow (λ rows. stock_at rows i) (added_one i) (ordered_one i) (takes i) (idle i) ts finmap.empty in
    omega (arith, none, all)
