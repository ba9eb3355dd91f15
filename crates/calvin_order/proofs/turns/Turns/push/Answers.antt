use Rattle.calvin_order.proofs.Rings.{filled, ring_filled}
use Rattle.calvin_order.proofs.turns.Turns.push.Goals as goal

pub invariant_of-self : goal.invariant_of-self
invariant_of-self g c = ring_filled c.self.inside.first c.self.inside.count c.self.inside.waiting c.args.self.now c.self.invariant c.self.told c.self.view_is c.args.batch c.requires.room c.requires.some

pub returns : goal.returns
returns g c = filled c.self.inside.first c.self.inside.count c.self.inside.waiting c.args.self.now c.self.invariant c.self.told c.self.view_is c.args.batch c.requires.room
