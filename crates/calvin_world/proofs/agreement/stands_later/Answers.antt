-- The theorem of the world, at the application's law.
use Rattle.calvin_world.proofs.Submissions.{stands_later as later_so}
use Rattle.calvin_world.proofs.agreement.stands_later.Goals as goal

pub returns : goal.returns
returns g c = λ config earlier outcomes w leads later more v on. later_so _ g.met.A.App.lawful.writes_within_the_sets config earlier outcomes w leads later more v on
