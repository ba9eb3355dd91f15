-- The theorem of the world, at the application's law.
use Rattle.calvin_world.proofs.Submissions.{chosen_stays as stays_so, held_stays}
use Rattle.calvin_world.proofs.agreement.chosen_stays.Goals as goal

pub returns-clause-chosen : goal.returns-clause-chosen
returns-clause-chosen g c = λ config earlier outcomes w leads later more v on. stays_so _ g.met.A.App.lawful.writes_within_the_sets config earlier outcomes w leads later more v on

pub returns-clause-held : goal.returns-clause-held
returns-clause-held g c = λ config earlier outcomes w leads later more v on. held_stays _ g.met.A.App.lawful.writes_within_the_sets config earlier outcomes w leads later more v on
