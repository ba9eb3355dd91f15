-- The synod of a world of one node, for one slot: a proposal, and the four packets by which its batch is held.
use Rattle.std.proofs.Common.{◌≡◌, ℕ, length, ◌+◌, Bool, true, false, cond, ◌&&◌, ◌||◌, List, [], ◌∷◌, ◌++◌, Option, Some, None, inl, refl, ap, ◌∙◌}
use Rattle.std.specs.Prelude.{is_some, nat_eq, nat_le, slice_get}
use Rattle.std.specs.Option.{unwrap_or}
use Rattle.std.specs.List.{list_any}
use Rattle.std.specs.Ordering.{eq_by_cmp, is_lt}
use Rattle.std.specs.FinMap.{get, insert, remove}
use Rattle.calvin_types.specs.declared.fault.Fault.TheVariants as fault
use Rattle.calvin_types.specs.declared.place.Ballot.{Ballot}
use Rattle.calvin_types.specs.declared.place.Slot.{Slot}
use Rattle.calvin_types.specs.Deeds.{Refuses, Does}
use Rattle.calvin_types.specs.Places.{ballot_cmp}
use Rattle.calvin_types.proofs.SlotMaps.{get_here}
use Rattle.calvin_app.specs.declared.kv.KvRequest.{KvRequest}
use Rattle.calvin_app.specs.declared.kv.KvReply.{KvReply}
use Rattle.calvin_synod.specs.Cases as synod
use Rattle.calvin_synod.specs.Cases.{Replica, Silent, ToOne}
use Rattle.calvin_synod.specs.declared.vote.Vote.{Vote}
use Rattle.calvin_synod.specs.declared.vote.Recorded.{Recorded}
use Rattle.calvin_synod.specs.declared.attempt.Attempt.{Attempt}
use Rattle.calvin_synod.specs.declared.tallies.Proposal.{Proposal}
use Rattle.calvin_synod.specs.declared.message.Message.TheVariants.{Prepare, Promise, Accept, Accepted}
use Rattle.calvin_synod.specs.Quorums.{majority}
use Rattle.calvin_synod.specs.Roles.{promise_in, vote_in, bars_prepare, bars_accept, if_counts, sending, voted, started, next_ballot}
use Rattle.calvin_order.specs.Configs.{Config}
use Rattle.calvin_order.specs.Merged.{Batch}
use Rattle.calvin_order.specs.Sequencing.{closed_in}
use Rattle.calvin_node_packets.specs.declared.packet.Packet.{Packet}
use Rattle.calvin_node_packets.specs.declared.packet.Address.TheVariants.{AtNode}
use Rattle.calvin_node_packets.specs.declared.packet.Content.{Content}
use Rattle.calvin_node_packets.specs.declared.packet.Content.TheVariants.{Synod}
use Rattle.calvin_node_acts.specs.NodeStates.{NodeState, holding}
use Rattle.calvin_node_acts.specs.Handling.{NodeDeed, handle, by_synod, on_vote}
use Rattle.calvin_node_acts.specs.Acting as node
use Rattle.calvin_app.specs.Kv.{kv}
use Rattle.calvin_world.specs.declared.event.Outcome.TheVariants.{Done}
use Rattle.calvin_world.specs.WorkedCases.{alone_with, own_id, deciding}
use Rattle.calvin_world.specs.Worlds.{Leads}
use Rattle.calvin_world.proofs.Alone.{one, done_at, delivered_at}

abbrev pub Node : Type 0
Node = NodeState KvRequest ℕ

abbrev pub Sent : Type 0
Sent = Packet KvRequest ℕ KvReply

abbrev pub KvDeed : Type 0
KvDeed = NodeDeed KvRequest ℕ KvReply

abbrev pub own : Content KvRequest ℕ KvReply → Sent
own content = record { from = own_id; to = AtNode own_id; content = content }

abbrev pub slot_of : ℕ → Slot
slot_of e = record { epoch = e; group = 0 }

-- the packets, whatever the node
abbrev pub asks : ℕ → Ballot → Sent
asks e ballot = own (Synod (Prepare (slot_of e) ballot))

abbrev pub promises : ℕ → Ballot → Sent
promises e ballot = own (Synod (Promise (slot_of e) ballot None))

abbrev pub proposes : ℕ → Ballot → Batch KvRequest → Sent
proposes e ballot batch = own (Synod (Accept (slot_of e) ballot batch))

abbrev pub votes : ℕ → Ballot → Batch KvRequest → Sent
votes e ballot batch = own (Synod (Accepted (slot_of e) ballot batch))

-- the node that has closed this batch for epoch e
module _ (points cold : Bool) (before : Node) (e : ℕ) (batch : Batch KvRequest) where
  abbrev c : Config
  c = alone_with points cold

  abbrev slot : Slot
  slot = slot_of e

  abbrev x : Node
  x = record before { id = own_id }

  abbrev ballot : Ballot
  ballot = next_ballot 0 x.synod.proposer

  abbrev attempt : Attempt (Batch KvRequest)
  attempt = record { ballot = ballot; own = batch; counted = [] }

  abbrev vote : Vote (Batch KvRequest)
  vote = record { ballot = ballot; batch = batch }

  abbrev proposal : Proposal
  proposal = record { slot = slot; ballot = ballot }

  abbrev promise_made : Recorded (Batch KvRequest)
  promise_made = record { promise = ballot; vote = None }

  -- after each event
  abbrev s_1 : Replica (Batch KvRequest)
  s_1 = record x.synod { proposer = started 0 x.synod.proposer slot batch }

  abbrev pub proposing : Node
  proposing = record x { synod = s_1 }

  abbrev s_2 : Replica (Batch KvRequest)
  s_2 = record s_1 { acceptor = insert x.synod.acceptor slot promise_made }

  abbrev pub promising : Node
  promising = record x { synod = s_2 }

  abbrev s_3 : Replica (Batch KvRequest)
  s_3 = record s_2 { proposer = sending s_2.proposer slot }

  abbrev pub accepting : Node
  accepting = record x { synod = s_3 }

  abbrev s_4 : Replica (Batch KvRequest)
  s_4 = record s_3 { acceptor = voted s_3.acceptor slot vote }

  abbrev pub voting : Node
  voting = record x { synod = s_4 }

  abbrev s_5 : Replica (Batch KvRequest)
  s_5 = record s_4 { learner = record { counted = remove x.synod.learner.counted proposal; given = insert x.synod.learner.given slot ballot } }

  abbrev pub agreed : Node
  agreed = holding (record x { synod = s_5 }) slot batch

  -- a vote, by what is given and counted
  abbrev counted_with : Option Ballot → List ℕ → synod.Deed (Batch KvRequest)
  counted_with given voters =
      cond (is_some given || list_any (nat_eq 0) voters) (synod.Refuses fault.Known)
      (synod.Does
      (record s_4 {
        learner = cond (nat_le (majority 1) (length voters + 1))
            (record { counted = remove x.synod.learner.counted proposal; given = insert x.synod.learner.given slot ballot })
            (record { counted = insert x.synod.learner.counted proposal (voters ++ 0 ∷ []); given = x.synod.learner.given });
      })
      Silent (cond (nat_le (majority 1) (length voters + 1)) (Some (slot, batch)) None))

  pub proposed : synod.has_round x.synod ≡ true → closed_in x.sequencer.closed e ≡ Some batch → get x.held slot ≡ None → ◌≡◌ {A = KvDeed} (node.propose c e x) (Does proposing (asks e ballot ∷ []))
  proposed round closed unheld =
      ap (λ (b : Bool). cond b (node.propose_closed {Reply = KvReply} c e x (closed_in x.sequencer.closed e)) (Refuses fault.RoundsSpent)) round
      ∙ ap (node.propose_closed {Reply = KvReply} c e x) closed
      ∙ ap (λ (o : Option (Batch KvRequest)). cond (is_some o) (Refuses fault.Decided) (by_synod {Reply = KvReply} c x (synod.propose 0 slot batch x.synod))) unheld
      ∙ ap (λ (b : Bool). by_synod {Reply = KvReply} c x (cond b (synod.Does s_1 (synod.ToAll (Prepare slot ballot)) None) (synod.Refuses fault.RoundsSpent))) round

  pub promised_then : get x.synod.acceptor slot ≡ None → ◌≡◌ {A = KvDeed} (handle c (asks e ballot) proposing) (Does promising (promises e ballot ∷ []))
  promised_then unrecorded =
      ap (λ (r : Option (Recorded (Batch KvRequest))). by_synod {Reply = KvReply} c proposing (synod.prepare 0 s_1 slot ballot (bars_prepare (promise_in r) ballot))) unrecorded
      ∙ ap (λ (v : Option (Vote (Batch KvRequest))). by_synod {Reply = KvReply} c proposing (synod.Does (record s_1 { acceptor = insert x.synod.acceptor slot (record { promise = ballot; vote = v }) }) (ToOne 0 (Promise slot ballot v)) None)) (ap vote_in unrecorded)

  pub accept_asked : eq_by_cmp ballot_cmp ballot ballot ≡ true → ◌≡◌ {A = KvDeed} (handle c (promises e ballot) promising) (Does accepting (proposes e ballot batch ∷ []))
  accept_asked alike =
      ap (λ (a : Option (Attempt (Batch KvRequest))). by_synod {Reply = KvReply} c promising (synod.promise 1 0 s_2 slot ballot None (if_counts a 0 ballot))) (get_here x.synod.proposer.attempts slot attempt)
      ∙ ap (λ (b : Bool). by_synod {Reply = KvReply} c promising (synod.promise 1 0 s_2 slot ballot None (cond (b && true) (Some attempt) None))) alike

  pub accepted_then : is_lt (ballot_cmp ballot ballot) ≡ false → ◌≡◌ {A = KvDeed} (handle c (proposes e ballot batch) accepting) (Does voting (votes e ballot batch ∷ []))
  accepted_then alike =
      ap (λ (r : Option (Recorded (Batch KvRequest))). by_synod {Reply = KvReply} c accepting (synod.accept 0 s_3 slot ballot batch (bars_accept (promise_in r) ballot))) (get_here x.synod.acceptor slot promise_made)
      ∙ ap (λ (b : Bool). by_synod {Reply = KvReply} c accepting (synod.accept 0 s_3 slot ballot batch (cond b (Some ballot) None))) alike

  pub held_then : get x.held slot ≡ None → get x.synod.learner.given slot ≡ None → get x.synod.learner.counted proposal ≡ None → ◌≡◌ {A = KvDeed} (handle c (votes e ballot batch) voting) (Does agreed [])
  held_then unheld ungiven uncounted =
      ap (λ (o : Option (Batch KvRequest)). on_vote {Reply = KvReply} c 0 (Accepted slot ballot batch) voting o) unheld
      ∙ (λ i. by_synod {Reply = KvReply} c voting (counted_with (ungiven i) (ap (λ o. unwrap_or o []) uncounted i)))

  -- nothing is known of the slot, and the epoch's batch is closed
  pub record IsFree : Type 0 where
    pub round : synod.has_round x.synod ≡ true
    pub closed : closed_in x.sequencer.closed e ≡ Some batch
    pub unheld : get x.held slot ≡ None
    pub unrecorded : get x.synod.acceptor slot ≡ None
    pub ungiven : get x.synod.learner.given slot ≡ None
    pub uncounted : get x.synod.learner.counted proposal ≡ None
    pub alike : eq_by_cmp ballot_cmp ballot ballot ≡ true
    pub not_less : is_lt (ballot_cmp ballot ballot) ≡ false

  -- the packets, after those that were sent before
  module _ (ps : List Sent) (n : ℕ) where
    abbrev with_ask : List Sent
    with_ask = ps ++ asks e ballot ∷ []

    abbrev with_promise : List Sent
    with_promise = with_ask ++ promises e ballot ∷ []

    abbrev with_proposal : List Sent
    with_proposal = with_promise ++ proposes e ballot batch ∷ []

    abbrev pub with_all : List Sent
    with_all = with_proposal ++ votes e ballot batch ∷ []

    pub decides : IsFree → slice_get with_ask n ≡ Some (asks e ballot) → slice_get with_promise (n + 1) ≡ Some (promises e ballot) → slice_get with_proposal (n + 2) ≡ Some (proposes e ballot batch) → slice_get with_all (n + 3) ≡ Some (votes e ballot batch)
        → Leads kv (one points cold x ps) (deciding e n) (Done ∷ Done ∷ Done ∷ Done ∷ Done ∷ []) (one points cold agreed (with_all ++ []))
    decides free a b d f = (
      one points cold proposing with_ask,
      inl (done_at points cold x proposing ps (asks e ballot ∷ []) (node.propose c e x) (proposed free.round free.closed free.unheld)),
      (
        one points cold promising with_promise,
        inl (delivered_at points cold kv proposing promising with_ask (promises e ballot ∷ []) (asks e ballot) n a refl (promised_then free.unrecorded)),
        (
          one points cold accepting with_proposal,
          inl (delivered_at points cold kv promising accepting with_promise (proposes e ballot batch ∷ []) (promises e ballot) (n + 1) b refl (accept_asked free.alike)),
          (
            one points cold voting with_all,
            inl (delivered_at points cold kv accepting voting with_proposal (votes e ballot batch ∷ []) (proposes e ballot batch) (n + 2) d refl (accepted_then free.not_less)),
            (one points cold agreed (with_all ++ []), inl (delivered_at points cold kv voting agreed with_all [] (votes e ballot batch) (n + 3) f refl (held_then free.unheld free.ungiven free.uncounted)), refl),
          ),
        ),
      ),
    )
