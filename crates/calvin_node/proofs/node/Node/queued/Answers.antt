use Rattle.std.proofs.Common.{length, ◌∙◌}
use Rattle.calvin_node.proofs.node.Node.queued.Goals as goal

pub returns : goal.returns
returns g c = c.queued.ensures ∙ (λ i. length (c.self.view_is i).state.sequencer.queue)
