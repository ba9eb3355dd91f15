-- The theorem of the world, at the application's law, and the law of settled worlds.
use Rattle.calvin_world.proofs.SettledLaws.{chosen_in_code, held_in_code}
use Rattle.calvin_world.proofs.settled.settled_chosen_stays.Goals as goal

pub returns-clause-chosen : goal.returns-clause-chosen
returns-clause-chosen g c = λ config events outcomes v leads. chosen_in_code _ g.met.A.App.lawful.writes_within_the_sets config events outcomes v leads

pub returns-clause-held : goal.returns-clause-held
returns-clause-held g c = λ config events outcomes v leads. held_in_code _ g.met.A.App.lawful.writes_within_the_sets config events outcomes v leads
