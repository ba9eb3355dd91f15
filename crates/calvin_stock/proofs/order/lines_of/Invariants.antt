use Rattle.std.proofs.Common.{◌≡◌, take}
use Rattle.calvin_stock.proofs.order.lines_of.Given as goal

abbrev pub invariant-loop-line : goal.invariant-loop-line
invariant-loop-line l = l.all ≡ take l.line-index l.lines
