-- Its history gives it.
use Rattle.std.proofs.Common.{subst}
use Rattle.calvin_histories.specs.Locked.{HasLived}
use Rattle.calvin_histories.proofs.locked.LockedNode.node.Goals as goal

pub returns-clause-life : goal.returns-clause-life
returns-clause-life g c = subst (λ n. HasLived g.A.App.meaning n c.self.inside.node.state) c.self.view_is (c.self.inside.sent.packets, c.self.invariant)
