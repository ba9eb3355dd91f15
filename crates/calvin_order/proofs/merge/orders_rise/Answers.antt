use Rattle.calvin_order.proofs.Epochs.{order_rises}
use Rattle.calvin_order.proofs.merge.orders_rise.Goals as goal

pub returns : goal.returns
returns g c = λ d n B. order_rises d B n
