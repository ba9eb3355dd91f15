use Rattle.calvin_script.proofs.OrderLines.{decided}
use Rattle.calvin_script.proofs.stock.order_of_lines.Goals as goal

pub returns : goal.returns
returns c = decided c.args.customer c.args.number c.args.lines.now c.of.result c.of.ensures.customer c.of.ensures.number c.of.ensures.lines c.of.ensures.none.0
