-- The theorem of the world, at the application's law.
use Rattle.calvin_world.proofs.EveryEvent.{all_locks_refuse}
use Rattle.calvin_world.proofs.steps.pending_can_be_locked.Goals as goal

pub returns : goal.returns
returns g c = λ config events outcomes w leads. all_locks_refuse _ g.met.A.App.lawful.writes_within_the_sets config events outcomes w leads
