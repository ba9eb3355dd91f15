use Rattle.calvin_sim.proofs.Taken.{from_taken}
use Rattle.calvin_sim.proofs.fitting.read_is_taken.Goals as goal

pub returns : goal.returns
returns g c = from_taken
