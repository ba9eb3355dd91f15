-- From the lemmas.
use Rattle.calvin_world.proofs.Records.{has_data, as_restarted, opens, refused_as, opens_as_restart}
use Rattle.calvin_world.proofs.opening.opening_is_restart.Goals as goal

pub returns-clause-data : goal.returns-clause-data
returns-clause-data g c = λ k id d next e. has_data k id d next e

pub returns-clause-restarts : goal.returns-clause-restarts
returns-clause-restarts g c = λ k id d next e x named same. as_restarted k id d next e x named same

pub returns-clause-succeeds : goal.returns-clause-succeeds
returns-clause-succeeds g c = λ k id d same. opens k id d same

pub returns-clause-only : goal.returns-clause-only
returns-clause-only g c = λ k id d f e. refused_as k id d f e

pub returns-clause-own : goal.returns-clause-own
returns-clause-own g c = λ k x. opens_as_restart k x
