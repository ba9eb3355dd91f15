-- Each operation of Stock has a key where no row is known.
use Rattle.std.proofs.Common.{◌≡◌, ℕ, ◌≤◌, true, false, List, [], ◌∷◌, ◌++◌, length, Option, Some, None, refl, arith}
use Rattle.std.specs.Prelude.{◌==◌, ◌&&◌, not}
use Rattle.std.specs.FinMap.{empty}
use Rattle.std.proofs.lemmas.Bool.Decides.{nat_tests}
use Rattle.calvin_types.specs.declared.key.Key.{Key}
use Rattle.calvin_types.specs.Keys.{insert_all}
use Rattle.calvin_types.specs.Submitting.{has_key}
use Rattle.calvin_types.proofs.Risings.{length-grows, insert_all-grows}
use Rattle.calvin_stock.specs.declared.request.StockRequest.{StockRequest}
use Rattle.calvin_stock.specs.declared.request.StockRequest.TheVariants as request
use Rattle.calvin_stock.specs.StockRows.{customer_key, order_key, customer_at}
use Rattle.calvin_stock.specs.Stock.{item_keys, order_keys, last_order, settle_keys, needs_of}

some_key : (ks : List Key) (k l : Key) → 1 ≤ length (insert_all (ks ++ k ∷ l ∷ []) [])
some_key [] k l = insert_all-grows (l ∷ []) (k ∷ [])
some_key (q ∷ qs) k l = insert_all-grows (qs ++ k ∷ l ∷ []) (q ∷ [])

not_none : (n : ℕ) → 1 ≤ n → true ≡ not ((n == 0) && (n == 0))
not_none n some = let e : (n == 0) ≡ false = grind (arith, nat_tests, some) in rw e refl

some_settle : (u : ℕ) (last : Option ℕ) → 1 ≤ length (settle_keys u last)
some_settle u None = omega arith
some_settle u (Some o) = length-grows (order_key o) (customer_key u ∷ [])

pub first_key : (a : StockRequest) → true ≡ has_key (needs_of a empty)
first_key (request.AddItem i s c) = refl
first_key (request.Restock i s) = refl
first_key (request.Open u) = refl
first_key (request.PayIn u c) = refl
first_key (request.Order o) = not_none (length (order_keys o)) (some_key (item_keys o.lines) (order_key o.number) (customer_key o.customer))
first_key (request.Settle u) = not_none (length (settle_keys u (last_order (customer_at empty u)))) (some_settle u (last_order (customer_at empty u)))
first_key (request.Balance u) = refl
