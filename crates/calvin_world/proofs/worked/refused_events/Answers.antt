-- As it is computed, event by event.
use Rattle.calvin_world.proofs.Alone.{new_node_refuses}
use Rattle.calvin_world.proofs.worked.refused_events.Goals as goal

pub returns : goal.returns
returns g c = λ m. new_node_refuses m
