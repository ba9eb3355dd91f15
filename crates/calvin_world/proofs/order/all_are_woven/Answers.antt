-- Nothing is left out of a weave.
use Rattle.calvin_world.proofs.Woven.{permuted, all_woven, same_number}
use Rattle.calvin_world.proofs.order.all_are_woven.Goals as goal

pub returns-clause-permutes : goal.returns-clause-permutes
returns-clause-permutes g c = λ B e n. permuted B e n

pub returns-clause-number : goal.returns-clause-number
returns-clause-number g c = λ B e n. same_number B e n

pub returns-clause-all : goal.returns-clause-all
returns-clause-all g c = λ B e n h less t there. all_woven B e n h less t there
