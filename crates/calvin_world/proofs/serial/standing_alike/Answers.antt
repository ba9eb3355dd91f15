-- The theorem of the world, at the application's law.
use Rattle.calvin_world.proofs.EveryEvent.{all_stand_alike}
use Rattle.calvin_world.proofs.serial.standing_alike.Goals as goal

pub returns : goal.returns
returns g c = λ config events outcomes w leads. all_stand_alike _ g.met.A.App.lawful.writes_within_the_sets config events outcomes w leads
