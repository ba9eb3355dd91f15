use Rattle.std.proofs.Common.{◌∙◌}
use Rattle.calvin_node.proofs.node.Node.rows.Goals as goal

pub returns : goal.returns
returns g c = c.rows.ensures ∙ (λ i. (c.self.view_is i).state.scheduler.store)
