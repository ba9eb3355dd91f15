-- So many packets of the sender were passed, and none of the packets so far has the name.
use Rattle.calvin_world.proofs.Named.{Counted}
use Rattle.calvin_world.proofs.naming.number_of.Given as goal

abbrev pub invariant-loop-at : goal.invariant-loop-at
invariant-loop-at g l = Counted l.packets.packets l.name l.at l.before
