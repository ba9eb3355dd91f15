-- The clauses are lemmas.
use Rattle.calvin_order.proofs.SameOrders.{same_epoch, same_epochs, same_first}
use Rattle.calvin_order.proofs.same.same_orders.Goals as goal

pub returns-clause-epoch : goal.returns-clause-epoch
returns-clause-epoch g k = λ c d B e parts weave. same_epoch c d B parts weave e

pub returns-clause-epochs : goal.returns-clause-epochs
returns-clause-epochs g k = λ c d B e n parts weave. same_epochs c d B parts weave e n

pub returns-clause-first : goal.returns-clause-first
returns-clause-first g k = λ c d B n parts weave. same_first c d B parts weave n
