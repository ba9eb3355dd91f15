-- The keys that requests need, and what a request sees whose declared sets are those that it needs.
--     IsSeen v rows keys      at each of the keys the view has the row that is there
use Rattle.std.proofs.Common.{◌≡◌, ℕ, true, false, ◌||◌, List, [], ◌∷◌, ◌++◌, Some, refl, sym, ap, ◌∙◌}
use Rattle.std.specs.FinMap as finmap
use Rattle.std.specs.Ordering.{eq_by_cmp}
use Rattle.std.proofs.Math.Bool.{or-false, or-true}
use Rattle.std.proofs.lemmas.List.Folds.{list_any-append}
use Rattle.calvin_types.specs.declared.key.Key.{Key}
use Rattle.calvin_types.specs.declared.key_set.Sets.{Sets}
use Rattle.calvin_types.specs.declared.txn.Txn.{Txn}
use Rattle.calvin_types.specs.Exact.{first, second, pointwise_exact}
use Rattle.calvin_types.specs.Keys.{key_cmp, has, same_key}
use Rattle.calvin_types.specs.KeyOrder.{same_key-self}
use Rattle.calvin_types.specs.SameKeys.{same_sets}
use Rattle.calvin_types.specs.SameKeysLaws.{equal_keys_exact}
use Rattle.calvin_types.proofs.KeySets.{has-insert_key, has-insert_all}
use Rattle.calvin_app.specs.Rows.{Rows, view, overwritten}
use Rattle.calvin_app.specs.RowLaws.{get-seen}
use Rattle.calvin_app.specs.Serial.{is_current}
use Rattle.calvin_stock.specs.declared.order.Order.{Order}
use Rattle.calvin_stock.specs.declared.rows.StockRow.{StockRow}
use Rattle.calvin_stock.specs.declared.request.StockRequest.{StockRequest}
use Rattle.calvin_stock.specs.StockRows.{customer_key, order_key}
use Rattle.calvin_stock.specs.Stock.{stock, needs_of, item_keys, order_keys, settle_keys}

-- at each of the keys the view has the row that is there
abbrev pub IsSeen : Rows StockRow → Rows StockRow → List Key → Type 0
IsSeen v rows keys = (k : Key) → has keys k ≡ true → finmap.get v k ≡ finmap.get rows k

same_sets_exact : (a b : Sets) → same_sets a b ≡ true → a ≡ b
same_sets_exact a b h = λ i. record { reads = pointwise_exact _ equal_keys_exact a.reads b.reads (first _ _ h) i; writes = pointwise_exact _ equal_keys_exact a.writes b.writes (second _ _ h) i }

-- a request whose declared sets are those that it needs sees the rows at its keys
pub seen : (t : Txn StockRequest) (rows : Rows StockRow) → is_current stock t (view rows t.sets.reads) ≡ true → IsSeen (view rows t.sets.reads) rows (needs_of t.args (view rows t.sets.reads)).reads
seen t rows current k there = get-seen rows t.sets.reads k (ap (λ (s : Sets). has s.reads k) (sym (same_sets_exact (needs_of t.args (view rows t.sets.reads)) t.sets current)) ∙ there)

-- ---- the keys of requests

-- a key alone
pub has-alone : (k : Key) → has (k ∷ []) k ≡ true
has-alone k = ap (λ b. b || false) (same_key-self k)

-- a settlement's order
pub has-settled : (u o : ℕ) → has (settle_keys u (Some o)) (order_key o) ≡ true
has-settled u o = has-insert_key (order_key o) (order_key o) (customer_key u ∷ []) ∙ ap (λ b. b || has (customer_key u ∷ []) (order_key o)) (same_key-self (order_key o))

-- an order's items, itself and its customer
has-order : (o : Order) (k : Key) → has (order_keys o) k ≡ (has (item_keys o.lines) k || has (order_key o.number ∷ customer_key o.customer ∷ []) k)
has-order o k =
    has-insert_all k (item_keys o.lines ++ order_key o.number ∷ customer_key o.customer ∷ []) []
    ∙ or-false (has (item_keys o.lines ++ order_key o.number ∷ customer_key o.customer ∷ []) k)
    ∙ list_any-append (eq_by_cmp key_cmp k) (item_keys o.lines) (order_key o.number ∷ customer_key o.customer ∷ [])

pub has-item : (o : Order) (k : Key) → has (item_keys o.lines) k ≡ true → has (order_keys o) k ≡ true
has-item o k h = has-order o k ∙ ap (λ b. b || has (order_key o.number ∷ customer_key o.customer ∷ []) k) h

pub has-number : (o : Order) → has (order_keys o) (order_key o.number) ≡ true
has-number o =
    has-order o (order_key o.number)
    ∙ ap (λ b. has (item_keys o.lines) (order_key o.number) || (b || (same_key (order_key o.number) (customer_key o.customer) || false))) (same_key-self (order_key o.number))
    ∙ or-true (has (item_keys o.lines) (order_key o.number))

pub has-customer : (o : Order) → has (order_keys o) (customer_key o.customer) ≡ true
has-customer o =
    has-order o (customer_key o.customer)
    ∙ ap (λ b. has (item_keys o.lines) (customer_key o.customer) || (same_key (customer_key o.customer) (order_key o.number) || (b || false))) (same_key-self (customer_key o.customer))
    ∙ ap (λ b. has (item_keys o.lines) (customer_key o.customer) || b) (or-true (same_key (customer_key o.customer) (order_key o.number)))
    ∙ or-true (has (item_keys o.lines) (customer_key o.customer))

-- ---- writes

-- writes one after another
pub overwritten-append : (xs ys : List (Key × StockRow)) (rows : Rows StockRow) → overwritten rows (xs ++ ys) ≡ overwritten (overwritten rows xs) ys
overwritten-append [] ys rows = refl
overwritten-append (x ∷ xs) ys rows = overwritten-append xs ys (finmap.insert rows x.0 x.1)
