-- The theorem of the world, at the application's law, and the law of settled worlds.
use Rattle.calvin_world.proofs.SettledLaws.{config_in_code, there_in_code, named_in_code, given_in_code, locks_in_code}
use Rattle.calvin_world.proofs.settled.settled_nodes_are_there.Goals as goal

pub returns-clause-config : goal.returns-clause-config
returns-clause-config g c = λ config events outcomes v leads. config_in_code _ g.met.A.App.lawful.writes_within_the_sets config events outcomes v leads

pub returns-clause-there : goal.returns-clause-there
returns-clause-there g c = λ config events outcomes v leads. there_in_code _ g.met.A.App.lawful.writes_within_the_sets config events outcomes v leads

pub returns-clause-named : goal.returns-clause-named
returns-clause-named g c = λ config events outcomes v leads. named_in_code _ g.met.A.App.lawful.writes_within_the_sets config events outcomes v leads

pub returns-clause-given : goal.returns-clause-given
returns-clause-given g c = λ config events outcomes v leads. given_in_code _ g.met.A.App.lawful.writes_within_the_sets config events outcomes v leads

pub returns-clause-locks : goal.returns-clause-locks
returns-clause-locks g c = λ config events outcomes v leads. locks_in_code _ g.met.A.App.lawful.writes_within_the_sets config events outcomes v leads
