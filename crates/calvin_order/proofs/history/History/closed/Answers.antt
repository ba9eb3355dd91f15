use Rattle.std.proofs.Common.{ap, ◌∙◌}
use Rattle.calvin_order.specs.Sequencing.{closed_in}
use Rattle.calvin_order.proofs.Histories.{lookup_closed}
use Rattle.calvin_order.proofs.history.History.closed.Goals as goal

pub returns : goal.returns
returns g c = c.get.ensures.value ∙ lookup_closed c.self.inside.closed.entries c.args.epoch ∙ ap (λ v. closed_in v.state.closed c.args.epoch) c.self.view_is
