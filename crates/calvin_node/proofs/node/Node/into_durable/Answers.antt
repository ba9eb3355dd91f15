use Rattle.std.proofs.Common.{◌∙◌}
use Rattle.calvin_node_acts.specs.Durables.{durable_of}
use Rattle.calvin_node_acts.specs.Running.{kept_epochs, kept_rows}
use Rattle.calvin_node.proofs.node.Node.into_durable.Goals as goal

pub returns : goal.returns
returns g c =
    let kept = c.self.inside.kept in
    (λ i. record {
      acceptor = (c.into_record.ensures i).acceptor;
      used = (c.into_record.ensures i).used;
      kept_epochs = kept_epochs kept;
      kept_rows = kept_rows kept;
      woven_from = c.config.ensures.woven_from i;
    })
    ∙ (λ i. durable_of (c.self.view_is i).config (c.self.view_is i).state)
