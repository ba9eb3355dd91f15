-- The theorem of the world, at the application's law.
use Rattle.calvin_world.proofs.EveryEvent.{all_nodes_agree}
use Rattle.calvin_world.proofs.agreement.nodes_agree.Goals as goal

pub returns : goal.returns
returns g c = λ config events outcomes w leads. all_nodes_agree _ g.met.A.App.lawful.writes_within_the_sets config events outcomes w leads
