-- The theorem of the world, at the application's law, and the law of settled worlds.
use Rattle.calvin_world.proofs.SettledLaws.{agrees_in_code, serial_in_code, points_in_code, alike_in_code}
use Rattle.calvin_world.proofs.settled.settled_is_serial.Goals as goal

pub returns-clause-agrees : goal.returns-clause-agrees
returns-clause-agrees g c = λ config events outcomes v leads. agrees_in_code _ g.met.A.App.lawful.writes_within_the_sets config events outcomes v leads

pub returns-clause-serial : goal.returns-clause-serial
returns-clause-serial g c = λ config events outcomes v leads. serial_in_code _ g.met.A.App.lawful.writes_within_the_sets config events outcomes v leads

pub returns-clause-points : goal.returns-clause-points
returns-clause-points g c = λ config events outcomes v leads. points_in_code _ g.met.A.App.lawful.writes_within_the_sets config events outcomes v leads

pub returns-clause-alike : goal.returns-clause-alike
returns-clause-alike g c = λ config events outcomes v leads. alike_in_code _ g.met.A.App.lawful.writes_within_the_sets config events outcomes v leads
