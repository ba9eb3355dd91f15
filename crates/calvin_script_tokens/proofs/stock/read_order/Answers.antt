use Rattle.std.proofs.Common.{sym}
use Rattle.calvin_script_tokens.proofs.OrderTurns.{order_spelled}
use Rattle.calvin_script_tokens.proofs.stock.read_order.Goals as goal

pub returns : goal.returns
returns c = (
  c.in_ok-order.order,
  c.placing_of.ensures,
  order_spelled c.in_ok-customer.customer c.in_ok-number.number c.read_lines.new.found c.in_ok-order.order c.args.reader.now c.u64_of.new.reader c.u64_of-2.new.reader c.read_lines.new.reader c.closes_array.new.reader
      c.in_ok-customer.ensures c.in_ok-number.ensures c.in_ok-read_lines.ensures c.in_ok-closes_array.ensures (sym c.in_ok-order.ensures),
)
