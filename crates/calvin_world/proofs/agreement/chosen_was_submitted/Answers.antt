-- The theorem of the world, at the application's law.
use Rattle.calvin_world.proofs.Submissions.{was_submitted, submitted_before}
use Rattle.calvin_world.proofs.agreement.chosen_was_submitted.Goals as goal

pub returns-clause-submitted : goal.returns-clause-submitted
returns-clause-submitted g c = λ config events outcomes w leads. was_submitted _ g.met.A.App.lawful.writes_within_the_sets config events outcomes w leads

pub returns-clause-before : goal.returns-clause-before
returns-clause-before g c = λ config events outcomes w leads. submitted_before _ g.met.A.App.lawful.writes_within_the_sets config events outcomes w leads
