-- From the lemma.
use Rattle.calvin_world.proofs.Records.{rows_alike}
use Rattle.calvin_world.proofs.order.kept_order_same_rows.Goals as goal

pub returns : goal.returns
returns g c = λ m k a b n h B. rows_alike m k a b n h B
