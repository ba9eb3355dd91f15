use Rattle.std.proofs.Common.{◌≡◌, ◌≤◌, ◌+◌, [], ◌∷◌, drop, length}
use Rattle.calvin_types.specs.Keys.{insert_all}
use Rattle.calvin_stock.specs.Stock.{item_keys}
use Rattle.calvin_stock.specs.StockRows.{customer_key}
use Rattle.calvin_stock.proofs.keys.add_order_keys.Given as goal

-- the customer and the items of the lines so far are in
abbrev pub invariant-loop-i : goal.invariant-loop-i
invariant-loop-i l = record {
  so_far : insert_all (item_keys (drop l.i l.order.lines)) l.keys ≡ customer_key l.order.customer ∷ insert_all (item_keys l.order.lines) [];
  few : length l.keys ≤ l.i + 1;
}
