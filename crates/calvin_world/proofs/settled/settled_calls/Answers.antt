-- The cases of a call.
use Rattle.calvin_world.proofs.SettledCalls.{act_called, delivery_called}
use Rattle.calvin_world.proofs.settled.settled_calls.Goals as goal

pub returns-clause-acts : goal.returns-clause-acts
returns-clause-acts g c = λ m v still me x there act result new all did. act_called m v still me x there act result new all did

pub returns-clause-packets : goal.returns-clause-packets
returns-clause-packets g c = λ m v still me x there number p sent to result new all did. delivery_called m v still me x there number p sent to result new all did
