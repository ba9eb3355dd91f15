-- An own event, or a delivery.
use Rattle.calvin_histories.specs.declared.entry.Entry.TheVariants.{Came}
use Rattle.calvin_histories.proofs.Events.{own_event, came_event}
use Rattle.calvin_histories.proofs.fitting.event_of.Goals as goal

pub returns-in-Own : goal.returns-in-Own
returns-in-Own g c = own_event c.args.world.now c.args.id c.in-Own.act c.args.entry.now c.in-Own.is

pub returns-in-Came : goal.returns-in-Came
returns-in-Came g c = came_event c.args.world.now c.args.id (Came c.in-Came.name c.in-Came.packet) c.args.entry.now c.in-Came.is c.delivery_of.result c.delivery_of.ensures
