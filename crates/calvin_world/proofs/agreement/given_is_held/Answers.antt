-- The theorem of the world, at the application's law.
use Rattle.calvin_world.proofs.EveryEvent.{all_given_held}
use Rattle.calvin_world.proofs.agreement.given_is_held.Goals as goal

pub returns : goal.returns
returns g c = λ config events outcomes w leads. all_given_held _ g.met.A.App.lawful.writes_within_the_sets config events outcomes w leads
