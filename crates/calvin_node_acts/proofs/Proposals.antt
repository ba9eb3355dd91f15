-- What a new ballot makes of a node.
use Rattle.std.proofs.Common.{◌≡◌, ℕ, Bool, true, false, cond, List, [], Option, Some, None, Result, Ok, Err, refl, sym, subst}
use Rattle.std.proofs.lemmas.Bool.{false≢true}
use Rattle.std.specs.FinMap.{contains_key}
use Rattle.calvin_types.specs.declared.fault.Fault.{Fault}
use Rattle.calvin_types.specs.declared.fault.Fault.TheVariants.{RoundsSpent, NotClosed, Decided}
use Rattle.calvin_types.specs.declared.place.Slot.{Slot}
use Rattle.calvin_types.specs.Deeds.{Refuses}
use Rattle.calvin_synod.specs.declared.mail.Mail.{Mail}
use Rattle.calvin_synod.specs.declared.message.Message.TheVariants.{Prepare}
use Rattle.calvin_synod.specs.Cases as synod
use Rattle.calvin_synod.specs.Deeds.{MemberState, Sends}
use Rattle.calvin_synod.specs.Roles.{started, next_ballot}
use Rattle.calvin_order.specs.Configs.{Config}
use Rattle.calvin_order.specs.Merged.{Batch}
use Rattle.calvin_order.specs.Sequencing.{closed_in}
use Rattle.calvin_sched.specs.Progress.{left}
use Rattle.calvin_node_packets.specs.declared.packet.Packet.{Packet}
use Rattle.calvin_node_packets.specs.Letters.{MemberSent, given_by}
use Rattle.calvin_node_acts.specs.NodeStates.{NodeState, own_slot}
use Rattle.calvin_node_acts.specs.Handling.{by_synod}
use Rattle.calvin_node_acts.specs.Acting as acting
use Rattle.calvin_node_acts.specs.Running.{Running, NodeDid}
use Rattle.calvin_node_acts.proofs.Answered.{by_member}
use Rattle.calvin_node_acts.proofs.Settling.{running, ended}

module _ {Args Row : Type 0} (Reply : Type 0) (c : Config) (x : NodeState Args Row) (is : left x.scheduler x.due ≡ x.due) (e : ℕ) (sent : List (Packet Args Row Reply)) where
  abbrev ballot : Batch Args → synod.Deed (Batch Args)
  ballot batch = synod.propose x.id.replica (own_slot x e) batch x.synod

  abbrev begun : Batch Args → synod.Deed (Batch Args)
  begun batch = synod.Does (record x.synod { proposer = started x.id.replica x.synod.proposer (own_slot x e) batch }) (synod.ToAll (Prepare (own_slot x e) (next_ballot x.id.replica x.synod.proposer))) None

  has_round : (mail : Mail (Batch Args)) → ((batch : Batch Args) → Sends false (Ok mail) (ballot batch)) → synod.has_round x.synod ≡ true
  has_round mail sends = go (synod.has_round x.synod) refl
    where
      go : (b : Bool) → synod.has_round x.synod ≡ b → synod.has_round x.synod ≡ true
      go true round = round
      go false round = absurd (subst (λ b. Sends false (Ok mail) (cond b (begun []) (synod.Refuses RoundsSpent))) round (sends []))

  by_round : (r : Result (Unit {0}) Fault) (new : Running Args Row) (all : List (Packet Args Row Reply)) → synod.has_round x.synod ≡ true → NodeDid true r (acting.propose_closed c e x (closed_in x.sequencer.closed e)) (running c x) new sent all
      → NodeDid true r (acting.propose c e x) (running c x) new sent all
  by_round r new all round did = subst (λ b. NodeDid true r (cond b (acting.propose_closed c e x (closed_in x.sequencer.closed e)) (Refuses RoundsSpent)) (running c x) new sent all) (sym round) did

  -- a new ballot gives no batch
  none_begun : (batch : Batch Args) → given_by (ballot batch) ≡ None
  none_begun batch = go (synod.has_round x.synod)
    where
      go : (b : Bool) → given_by {B = Batch Args} (cond b (begun batch) (synod.Refuses RoundsSpent)) ≡ None
      go true = refl
      go false = refl

  -- no round is left
  pub spent : (f : Fault) → ((batch : Batch Args) → Sends false (Err f) (ballot batch)) → NodeDid true (Err f) (acting.propose c e x) (running c x) (running c x) sent sent
  spent f sends = go (synod.has_round x.synod) refl
    where
      go : (b : Bool) → synod.has_round x.synod ≡ b → NodeDid true (Err f) (acting.propose c e x) (running c x) (running c x) sent sent
      go true round = absurd (false≢true (subst (λ b. Sends false (Err f) (cond b (begun []) (synod.Refuses RoundsSpent))) round (sends [])).0)
      go false round = subst (λ b. NodeDid true (Err f) (cond b (acting.propose_closed c e x (closed_in x.sequencer.closed e)) (Refuses RoundsSpent)) (running c x) (running c x) sent sent) (sym round)
          (subst (λ b. Sends false (Err f) (cond b (begun []) (synod.Refuses RoundsSpent))) round (sends []), refl, refl)

  module _ (mail : Mail (Batch Args)) (sends : (batch : Batch Args) → Sends false (Ok mail) (ballot batch)) where
    pub not_closed : closed_in x.sequencer.closed e ≡ None → NodeDid true (Err NotClosed) (acting.propose c e x) (running c x) (running c x) sent sent
    not_closed none = by_round (Err NotClosed) (running c x) sent (has_round mail sends) (subst (λ o. NodeDid true (Err NotClosed) (acting.propose_closed c e x o) (running c x) (running c x) sent sent) (sym none) (refl, refl, refl))

    module _ (batch : Batch Args) (closed : closed_in x.sequencer.closed e ≡ Some batch) where
      pub held_already : contains_key x.held (own_slot x e) ≡ true → NodeDid true (Err Decided) (acting.propose c e x) (running c x) (running c x) sent sent
      held_already held = by_round (Err Decided) (running c x) sent (has_round mail sends) (subst (λ o. NodeDid true (Err Decided) (acting.propose_closed c e x o) (running c x) (running c x) sent sent) (sym closed)
          (subst (λ b. NodeDid true (Err Decided) (cond b (Refuses Decided) (by_synod c x (ballot batch))) (running c x) (running c x) sent sent) (sym held) (refl, refl, refl)))

      pub proposed : contains_key x.held (own_slot x e) ≡ false → (size me : ℕ) (r : Result (Option (Slot × Batch Args)) Fault) (after : MemberState (Batch Args)) (all : List (Packet Args Row Reply))
          → MemberSent true r (ballot batch) c.replicas c.partitions x.id (record { size = size; me = me; replica = x.synod }) after sent all
          → NodeDid true (ended r) (acting.propose c e x) (running c x) (running c (record x { synod = after.replica })) sent all
      proposed free size me r after all did = by_round (ended r) (running c (record x { synod = after.replica })) all (has_round mail sends)
          (subst (λ o. NodeDid true (ended r) (acting.propose_closed c e x o) (running c x) (running c (record x { synod = after.replica })) sent all) (sym closed)
          (subst (λ b. NodeDid true (ended r) (cond b (Refuses Decided) (by_synod c x (ballot batch))) (running c x) (running c (record x { synod = after.replica })) sent all) (sym free)
          (by_member Reply c x is sent true size me (ballot batch) r after all (none_begun batch) did)))
