-- Found by its sender's list.
use Rattle.std.proofs.Common.{refl}
use Rattle.calvin_histories.specs.Positions.{senders_of}
use Rattle.calvin_histories.proofs.Events.{found_name}
use Rattle.calvin_histories.proofs.fitting.number_of.Goals as goal

pub returns-then-lists : goal.returns-then-lists
returns-then-lists g c = found_name c.args.world.now.packets c.args.name c.find.result (c.find.ensures (c.if-lists.ensures refl) (senders_of c.args.world.now.packets) c.requires.listed)
