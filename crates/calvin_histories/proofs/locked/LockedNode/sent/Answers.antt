-- Its history gives them.
use Rattle.std.proofs.Common.{subst}
use Rattle.calvin_histories.specs.Locked.{IsLife}
use Rattle.calvin_histories.proofs.locked.LockedNode.sent.Goals as goal

pub returns : goal.returns
returns g c = (c.self.inside.node.state, subst (λ n. IsLife g.A.App.meaning n c.self.inside.node.state c.self.inside.sent.packets) c.self.view_is c.self.invariant)
