use Rattle.std.proofs.Common.{◌∙◌}
use Rattle.std.specs.FinMap as map
use Rattle.calvin_node_sequencing.proofs.layer.SequencingLayer.held.Goals as goal

pub returns : goal.returns
returns g c = c.held.ensures ∙ (λ i. map.get (c.self.view_is i).held c.args.slot)
