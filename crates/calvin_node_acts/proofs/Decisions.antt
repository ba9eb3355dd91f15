-- What a batch that is decided, and a vote with which a majority has voted, make of a node.
use Rattle.std.proofs.Common.{◌≡◌, ℕ, ◌-◌, true, false, cond, List, Option, Some, None, Ok, Err, refl, sym, ap, subst, ◌∙◌}
use Rattle.std.specs.FinMap.{contains_key, insert}
use Rattle.calvin_types.specs.declared.fault.Fault.{Fault}
use Rattle.calvin_types.specs.declared.fault.Fault.TheVariants.{OutOfMemory, Known}
use Rattle.calvin_types.specs.declared.place.Ballot.{Ballot}
use Rattle.calvin_types.specs.declared.place.Slot.{Slot}
use Rattle.calvin_synod.specs.Cases as synod
use Rattle.calvin_synod.specs.Deeds.{MemberState}
use Rattle.calvin_synod.specs.Roles.{knows, completes, learned}
use Rattle.calvin_order.specs.Configs.{Config}
use Rattle.calvin_order.specs.Merged.{Batch}
use Rattle.calvin_order.specs.Merging.{Merging, with_batch}
use Rattle.calvin_node_packets.specs.declared.packet.Packet.{Packet}
use Rattle.calvin_node_packets.specs.Letters.{MemberSent}
use Rattle.calvin_node_acts.specs.NodeStates.{NodeState, with_synod, holding}
use Rattle.calvin_node_acts.specs.Handling.{by_synod}
use Rattle.calvin_node_acts.specs.Running.{NodeDid, settled}
use Rattle.calvin_node_acts.proofs.Settling.{running}

-- a merge that made room, and then holds one more batch
pub now_held : {Args : Type 0} (m ready held : Merging Args) (slot : Slot) (batch : Batch Args) → ready ≡ record m { room = ready.room } → held ≡ with_batch slot batch ready → contains_key m.held slot ≡ false
    → (held.held ≡ insert m.held slot batch) × (held.next ≡ m.next) × (held.config ≡ m.config)
now_held m ready held slot batch made is free =
    let whole : held ≡ record m { held = insert m.held slot batch; room = ready.room - 1 } =
    is
    ∙ (λ i. with_batch slot batch (made i))
    ∙ (λ i. cond (free i) (record m { room = ready.room }) (record m { held = insert m.held slot batch; room = ready.room - 1 })) in
    (ap (λ k. k.held) whole, ap (λ k. k.next) whole, ap (λ k. k.config) whole)

module _ {Args Row : Type 0} (Reply : Type 0) (c : Config) (x : NodeState Args Row) (me : ℕ) (from : ℕ) (slot : Slot) (ballot : Ballot) (batch : Batch Args)
    (new_vote : knows x.synod.learner from slot ballot ≡ false) (full : completes c.replicas x.synod.learner slot ballot ≡ true) (sent : List (Packet Args Row Reply)) where
  abbrev own : MemberState (Batch Args)
  own = record { size = c.replicas; me = me; replica = x.synod }

  abbrev deed : synod.Deed (Batch Args)
  deed = synod.accepted c.replicas from x.synod slot ballot batch

  abbrev pub counting : synod.Replica (Batch Args)
  counting = record x.synod { learner = learned c.replicas x.synod.learner from slot ballot }

  -- it gives the batch
  gives : deed ≡ synod.Does counting synod.Silent (Some (slot, batch))
  gives =
      (λ i. cond (new_vote i) (synod.Refuses Known) (synod.Does counting synod.Silent (cond (completes c.replicas x.synod.learner slot ballot) (Some (slot, batch)) None)))
      ∙ (λ i. synod.Does counting synod.Silent (cond (full i) (Some (slot, batch)) None))

  pub wanting : (e : Fault) → e ≡ OutOfMemory → NodeDid true (Err e) (by_synod c x deed) (running c x) (running c x) sent sent
  wanting e is = subst (λ d. NodeDid true (Err e) (by_synod c x d) (running c x) (running c x) sent sent) (sym gives) (refl, is, refl, refl)

  -- it isn't counted, for want of memory
  pub not_counted : (f : Fault) (after : MemberState (Batch Args)) (all : List (Packet Args Row Reply)) → MemberSent true (Err f) deed c.replicas c.partitions x.id own after sent all → (f ≡ OutOfMemory) × (after ≡ own) × (all ≡ sent)
  not_counted f after all did = let done = subst (λ d. MemberSent true (Err f) d c.replicas c.partitions x.id own after sent all) gives did in (done.1, done.2, done.3)

  pub decided : (gave : Option (Slot × Batch Args)) (after : MemberState (Batch Args)) (all : List (Packet Args Row Reply)) → MemberSent true (Ok gave) deed c.replicas c.partitions x.id own after sent all → (y : NodeState Args Row) → y ≡ settled (holding (with_synod x after.replica) slot batch)
      → NodeDid true (Ok tt) (by_synod c x deed) (running c x) (running c y) sent all
  decided gave after all did y is =
      let done = subst (λ d. MemberSent true (Ok gave) d c.replicas c.partitions x.id own after sent all) gives did in
      subst (λ d. NodeDid true (Ok tt) (by_synod c x d) (running c x) (running c y) sent all) (sym gives) ((λ i. running c (is i)) ∙ (λ i. running c (settled (holding (with_synod x (done.1 i).replica) slot batch))), done.2)
