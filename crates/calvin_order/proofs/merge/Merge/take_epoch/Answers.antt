use Rattle.std.proofs.Common.{sym, subst}
use Rattle.calvin_types.specs.Orders.{Rises}
use Rattle.calvin_order.specs.Configs.{order_config}
use Rattle.calvin_order.specs.Merging.{batch_at}
use Rattle.calvin_order.proofs.Joining.{merged_rises}
use Rattle.calvin_order.proofs.merge.Merge.take_epoch.Goals as goal

pub returns-clause-rising : goal.returns-clause-rising
returns-clause-rising g c = subst (λ es. Rises es) (sym c.append_all.ensures) (merged_rises (order_config c.self.inside.config) (batch_at c.self.inside.held.batches) c.in-Some.epoch)
