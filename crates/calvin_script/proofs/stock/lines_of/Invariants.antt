use Rattle.std.proofs.Common.{◌≡◌, ◌≤◌, length, drop}
use Rattle.serde_json.specs.View.{view, items_view}
use Rattle.calvin_script.specs.StockOperations.{lines}
use Rattle.calvin_script.proofs.OrderLines.{after}
use Rattle.calvin_script.proofs.stock.lines_of.Given as goal

abbrev pub invariant-loop-item : goal.invariant-loop-item
invariant-loop-item l = record {
  so_far : after (items_view (drop l.item-index l.item-items)) l.found ≡ lines (view l.value);
  at_most : length l.found ≤ l.item-index;
  few : length l.item-items ≤ 4;
}
