-- The theorem of the world, at the application's law, and the law of settled worlds.
use Rattle.calvin_world.proofs.SettledLaws.{submitted_in_code, before_in_code, later_in_code}
use Rattle.calvin_world.proofs.settled.settled_was_submitted.Goals as goal

pub returns-clause-submitted : goal.returns-clause-submitted
returns-clause-submitted g c = λ config events outcomes v leads. submitted_in_code _ g.met.A.App.lawful.writes_within_the_sets config events outcomes v leads

pub returns-clause-before : goal.returns-clause-before
returns-clause-before g c = λ config events outcomes v leads. before_in_code _ g.met.A.App.lawful.writes_within_the_sets config events outcomes v leads

pub returns-clause-later : goal.returns-clause-later
returns-clause-later g c = λ config events outcomes v leads. later_in_code _ g.met.A.App.lawful.writes_within_the_sets config events outcomes v leads
