-- Such a list leads on in the definitions, and there its events end as their cases say.
use Rattle.calvin_world.proofs.Led.{settled_led}
use Rattle.calvin_world.proofs.settled.settled_through.Goals as goal

pub returns : goal.returns
returns g c = λ m k events outcomes v leads well. settled_led m k events outcomes v leads well
