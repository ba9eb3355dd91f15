use Rattle.std.proofs.Common.{◌≡◌, drop}
use Rattle.calvin_stock.specs.Lines.{has_distinct_items}
use Rattle.calvin_stock.proofs.order.has_distinct_items.Given as goal

abbrev pub invariant-loop-i : goal.invariant-loop-i
invariant-loop-i l = has_distinct_items (drop l.i l.lines) ≡ has_distinct_items l.lines
