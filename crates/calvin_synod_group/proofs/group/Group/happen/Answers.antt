-- It stays a group, reached by one event more.
use Rattle.calvin_synod_group.specs.declared.event.GroupEvent.TheVariants.{Propose, Deliver, Restart}
use Rattle.calvin_synod_group.proofs.Reached.{stays_reached, steps}
use Rattle.calvin_synod_group.proofs.group.Group.happen.Goals as goal

pub invariant_of-self : goal.invariant_of-self
invariant_of-self g c = stays_reached _ _ _ _ _ c.self.inside.packets.items _ c.deref_mut.ensures.len c.deref_mut.ensures.value c.self.invariant c.propose.ensures.same (Propose c.in-Propose.replica c.in-Propose.slot c.in-Propose.batch) _ c.propose.ensures.step

pub invariant_of-self-in-Deliver : goal.invariant_of-self-in-Deliver
invariant_of-self-in-Deliver g c = stays_reached _ _ _ _ _ c.self.inside.packets.items _ c.deref_mut-in-Deliver.ensures.len c.deref_mut-in-Deliver.ensures.value c.self.invariant c.deliver.ensures.same (Deliver c.in-Deliver.number) _ c.deliver.ensures.step

pub invariant_of-self-in-Restart : goal.invariant_of-self-in-Restart
invariant_of-self-in-Restart g c = stays_reached _ _ _ _ _ c.self.inside.packets.items _ c.deref_mut-in-Restart.ensures.len c.deref_mut-in-Restart.ensures.value c.self.invariant c.restart.ensures.same (Restart c.in-Restart.replica) _ (c.restart.ensures.step c.self.inside.packets.items)

pub returns-in-Restart : goal.returns-in-Restart
returns-in-Restart g c = steps _ _ _ _ _ c.self.inside.packets.items _ c.deref_mut-in-Restart.ensures.len c.deref_mut-in-Restart.ensures.value c.self.invariant c.restart.ensures.same _ c.self.view_is (Restart c.in-Restart.replica) _ c.in-Restart.is _ (c.restart.ensures.step c.self.inside.packets.items)
