-- The theorem of the world, at the application's law.
use Rattle.calvin_world.proofs.EveryEvent.{all_replicas_serial}
use Rattle.calvin_world.proofs.serial.replicas_are_serial.Goals as goal

pub returns : goal.returns
returns g c = λ config events outcomes w leads. all_replicas_serial _ g.met.A.App.lawful.writes_within_the_sets config events outcomes w leads
