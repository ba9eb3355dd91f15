use Rattle.calvin_shared_txn.proofs.ElementLaws.{element_is}
use Rattle.calvin_shared_txn.proofs.shared_txn.SharedTxn.new.Goals as goal

pub returns : goal.returns
returns g c = element_is c.args.requests c.args.number _
