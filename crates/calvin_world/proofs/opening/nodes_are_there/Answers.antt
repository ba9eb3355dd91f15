-- The theorem of the world, at the application's law.
use Rattle.calvin_world.proofs.Submissions.{all_there, all_named, same_config}
use Rattle.calvin_world.proofs.opening.nodes_are_there.Goals as goal

pub returns-clause-config : goal.returns-clause-config
returns-clause-config g c = λ config events outcomes w leads. same_config _ g.met.A.App.lawful.writes_within_the_sets config events outcomes w leads

pub returns-clause-there : goal.returns-clause-there
returns-clause-there g c = λ config events outcomes w leads. all_there _ g.met.A.App.lawful.writes_within_the_sets config events outcomes w leads

pub returns-clause-named : goal.returns-clause-named
returns-clause-named g c = λ config events outcomes w leads. all_named _ g.met.A.App.lawful.writes_within_the_sets config events outcomes w leads
