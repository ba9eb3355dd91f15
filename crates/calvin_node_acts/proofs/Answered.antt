-- What a step of the own replica in the group's synods, with which no batch is decided, makes of a node.
use Rattle.std.proofs.Common.{◌≡◌, ℕ, Bool, List, Option, None, Result, Ok, Err, sym, ap, subst, ◌∙◌}
use Rattle.calvin_types.specs.declared.fault.Fault.{Fault}
use Rattle.calvin_types.specs.declared.place.NodeId.{NodeId}
use Rattle.calvin_types.specs.declared.place.Slot.{Slot}
use Rattle.calvin_synod.specs.declared.message.Message.{Message}
use Rattle.calvin_synod.specs.Cases as synod
use Rattle.calvin_synod.specs.Deeds.{MemberState}
use Rattle.calvin_order.specs.Configs.{Config}
use Rattle.calvin_order.specs.Merged.{Batch}
use Rattle.calvin_sched.specs.Progress.{left}
use Rattle.calvin_node_packets.specs.declared.packet.Packet.{Packet}
use Rattle.calvin_node_packets.specs.Letters.{MemberSent, given_by}
use Rattle.calvin_node_acts.specs.NodeStates.{NodeState, with_synod}
use Rattle.calvin_node_acts.specs.Handling.{NodeDeed, by_synod, on_synod, counted}
use Rattle.calvin_node_acts.specs.Running.{NodeDid, settled}
use Rattle.calvin_node_acts.proofs.Settling.{running, ended}

module _ {Args Row : Type 0} (Reply : Type 0) (c : Config) (x : NodeState Args Row) (is : left x.scheduler x.due ≡ x.due) (sent : List (Packet Args Row Reply)) (grows : Bool) (size me : ℕ) where
  abbrev own : MemberState (Batch Args)
  own = record { size = size; me = me; replica = x.synod }

  pub by_member : (d : synod.Deed (Batch Args)) (r : Result (Option (Slot × Batch Args)) Fault) (after : MemberState (Batch Args)) (all : List (Packet Args Row Reply)) → given_by d ≡ None → MemberSent grows r d c.replicas c.partitions x.id own after sent all
      → NodeDid grows (ended r) (by_synod c x d) (running c x) (running c (record x { synod = after.replica })) sent all
  by_member (synod.Refuses f) (Ok gave) after all none h = h
  by_member (synod.Does s letters given) (Ok gave) after all none h = (
    (λ i. running c (record x { synod = (h.1 i).replica; due = (sym is) i })) ∙ (λ i. running c (settled (counted (with_synod x s) (sym none i)))),
    h.2,
  )
  by_member (synod.Refuses f) (Err e) after all none h = (h.0, (λ i. running c (record x { synod = (h.1 i).replica })), h.2)
  by_member (synod.Does s letters given) (Err e) after all none h = (h.0, h.1, (λ i. running c (record x { synod = (h.2 i).replica })), h.3)

-- a member stays of its group, and that replica
pub names_kept : {Args Row Reply : Type 0} (grows : Bool) (r : Result (Option (Slot × Batch Args)) Fault) (d : synod.Deed (Batch Args)) (replicas parts : ℕ) (id : NodeId) (m after : MemberState (Batch Args)) (sent all : List (Packet Args Row Reply)) → MemberSent grows r d replicas parts id m after sent all
    → (after.size ≡ m.size) × (after.me ≡ m.me)
names_kept grows (Ok gave) (synod.Refuses f) replicas parts id m after sent all h = absurd h
names_kept grows (Ok gave) (synod.Does s letters given) replicas parts id m after sent all h = (ap (λ n. n.size) h.1, ap (λ n. n.me) h.1)
names_kept grows (Err e) (synod.Refuses f) replicas parts id m after sent all h = (ap (λ n. n.size) h.1, ap (λ n. n.me) h.1)
names_kept grows (Err e) (synod.Does s letters given) replicas parts id m after sent all h = (ap (λ n. n.size) h.2, ap (λ n. n.me) h.2)

-- a message of the own group's synods that is no vote
pub same_on : {Args Row Reply : Type 0} (c : Config) (from : ℕ) (x : NodeState Args Row) (m n : Message (Batch Args)) → m ≡ n
    → ◌≡◌ {A = NodeDeed Args Row Reply} (by_synod c x (synod.handle c.replicas from n x.synod)) (on_synod c from n x) → ◌≡◌ {A = NodeDeed Args Row Reply} (by_synod c x (synod.handle c.replicas from m x.synod)) (on_synod c from m x)
same_on {Args} {Row} {Reply} c from x m n e same = subst (λ k. ◌≡◌ {A = NodeDeed Args Row Reply} (by_synod c x (synod.handle c.replicas from k x.synod)) (on_synod c from k x)) (sym e) same
