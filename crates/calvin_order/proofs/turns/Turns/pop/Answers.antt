use Rattle.calvin_order.proofs.Rings.{left, ring_left, left_some}
use Rattle.calvin_order.proofs.turns.Turns.pop.Goals as goal

pub invariant_of-self : goal.invariant_of-self
invariant_of-self g c = ring_left c.self.inside.first c.self.inside.count c.self.inside.waiting c.args.self.now c.self.invariant c.self.told c.self.view_is c.index-waiting-self.result c.index-waiting-self.is c.if-self-eq0.false

pub returns-clause-first : goal.returns-clause-first
returns-clause-first g c = (
  left c.self.inside.first c.self.inside.count c.self.inside.waiting c.args.self.now c.self.invariant c.self.told c.self.view_is c.index-waiting-self.result c.index-waiting-self.is c.if-self-eq0.false,
  left_some c.self.inside.first c.self.inside.count c.self.inside.waiting c.args.self.now c.self.invariant c.self.told c.self.view_is c.index-waiting-self.result c.index-waiting-self.is c.if-self-eq0.false,
)
