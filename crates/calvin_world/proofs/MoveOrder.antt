-- Two partitions of one replica, event by event: two requests from their submission up to the merged epoch.
use Rattle.std.proofs.Common.{◌≡◌, ◌≢◌, ℕ, suc, true, cond, ◌&&◌, List, [], ◌∷◌, ◌++◌, inl, Option, Some, None, refl, sym, ap, ◌∙◌, subst, arith}
use Rattle.std.specs.Prelude.{is_some}
use Rattle.std.specs.Option.{unwrap_or}
use Rattle.std.specs.FinMap.{get, insert, remove, empty, get-empty}
use Rattle.calvin_types.specs.declared.fault.Fault.TheVariants as fault
use Rattle.calvin_types.specs.declared.place.Slot.{Slot}
use Rattle.calvin_types.specs.Deeds.{Refuses, Does}
use Rattle.calvin_types.specs.Participants.{site}
use Rattle.calvin_types.specs.Places.{slot_cmp}
use Rattle.calvin_types.proofs.SlotMaps.{get_here, get_other}
use Rattle.calvin_app.specs.Kv.{kv}
use Rattle.calvin_app.specs.declared.kv.KvRequest.{KvRequest}
use Rattle.calvin_app.specs.declared.kv.KvReply.{KvReply}
use Rattle.calvin_synod.specs.Cases as synod
use Rattle.calvin_synod.specs.Cases.{Replica}
use Rattle.calvin_synod.specs.declared.vote.Recorded.{Recorded}
use Rattle.calvin_synod.specs.declared.attempt.Attempt.{Attempt}
use Rattle.calvin_synod.specs.declared.tallies.Proposal.{Proposal}
use Rattle.calvin_synod.specs.declared.message.Message.TheVariants as message
use Rattle.calvin_synod.specs.Roles.{sending, voted, voters_of, proposal_cmp}
use Rattle.calvin_order.specs.Merged.{Batch, numbered}
use Rattle.calvin_order.specs.Merging.{Batches}
use Rattle.calvin_order.specs.Sequencing.{Sequencing, sequencing_from}
use Rattle.calvin_sched.specs.Standing.{local_places}
use Rattle.calvin_node_acts.specs.declared.act.Act.TheVariants.{Submit, Close, Propose, Merge}
use Rattle.calvin_node_packets.specs.declared.packet.Content.TheVariants.{Synod, Decided}
use Rattle.calvin_node_acts.specs.Acting as node
use Rattle.calvin_node_acts.specs.Handling.{handle, by_synod, on_vote, on_decided}
use Rattle.calvin_node_acts.specs.NodeStates.{new_node}
use Rattle.calvin_world.specs.declared.event.Event.TheVariants.{At, Deliver}
use Rattle.calvin_world.specs.declared.event.Outcome.TheVariants.{Done}
use Rattle.calvin_world.specs.WorkedCases.{done_times, first_place}
use Rattle.calvin_world.specs.WorkedMove.{two, part_id, group_slot, put_ten, move_four, next_place, deciding_in, move_ordering, told, only_ballot}
use Rattle.calvin_world.specs.Worlds.{Step, Leads, opening}
use Rattle.calvin_world.proofs.Alone.{new_synod, first_node, is_new, joined}
use Rattle.calvin_world.proofs.OneSlot.{Node, KvDeed}
use Rattle.calvin_world.proofs.KnownWorlds.{World, after, ends, prepares, promises, accepts, learns}

-- ---- the synod of a group of one replica, after each message

module _ (g : ℕ) (batch : Batch KvRequest) where
  abbrev slot : Slot
  slot = group_slot g

  abbrev attempt : Attempt (Batch KvRequest)
  attempt = record { ballot = only_ballot; own = batch; counted = [] }

  abbrev promise_made : Recorded (Batch KvRequest)
  promise_made = record { promise = only_ballot; vote = None }

  abbrev proposal : Proposal
  proposal = record { slot = slot; ballot = only_ballot }

  abbrev s_1 : Replica (Batch KvRequest)
  s_1 = record new_synod { proposer = record { used = 1; seen = 0; attempts = insert empty slot attempt } }

  abbrev s_2 : Replica (Batch KvRequest)
  s_2 = record s_1 { acceptor = insert empty slot promise_made }

  abbrev s_3 : Replica (Batch KvRequest)
  s_3 = record s_2 { proposer = sending s_2.proposer slot }

  abbrev s_4 : Replica (Batch KvRequest)
  s_4 = record s_3 { acceptor = voted s_3.acceptor slot (record { ballot = only_ballot; batch = batch }) }

  abbrev s_5 : Replica (Batch KvRequest)
  s_5 = record s_4 { learner = record { counted = remove empty proposal; given = insert empty slot only_ballot } }

  to_2 : synod.handle 1 0 (message.Prepare slot only_ballot) s_1 ≡ synod.Does s_2 (synod.ToOne 0 (message.Promise slot only_ballot None)) None
  to_2 = prepares 1 s_1 slot only_ballot 0 None (get-empty slot_cmp slot) refl

  to_3 : synod.handle 1 0 (message.Promise slot only_ballot None) s_2 ≡ synod.Does s_3 (synod.ToAll (message.Accept slot only_ballot batch)) None
  to_3 = promises 1 s_2 slot only_ballot 0 None attempt (get_here empty slot attempt)

  to_4 : synod.handle 1 0 (message.Accept slot only_ballot batch) s_3 ≡ synod.Does s_4 (synod.ToAll (message.Accepted slot only_ballot batch)) None
  to_4 = accepts 1 s_3 slot only_ballot 0 batch promise_made (get_here empty slot promise_made)

  uncounted : voters_of (new_synod {Args = KvRequest}).learner slot only_ballot ≡ []
  uncounted = ap (λ (o : Option (List ℕ)). unwrap_or o []) (get-empty proposal_cmp proposal)

  to_5 : synod.handle 1 0 (message.Accepted slot only_ballot batch) s_4 ≡ synod.Does s_5 synod.Silent (Some (slot, batch))
  to_5 = learns 1 s_4 slot only_ballot 0 batch [] (get-empty slot_cmp slot) uncounted

-- ---- a node, by its sequencer, synod and batches held

abbrev both : Batch KvRequest
both = put_ten ∷ move_four ∷ []

abbrev in_queue : Batch KvRequest → Sequencing KvRequest
in_queue batch = record { opening = 0; queue = batch; closed = []; decided = []; held_back = [] }

abbrev closed : Batch KvRequest → List ℕ → Sequencing KvRequest
closed batch decided = record { opening = 0; queue = []; closed = (0, batch) ∷ []; decided = decided; held_back = [] }

abbrev part_node : ℕ → Sequencing KvRequest → Replica (Batch KvRequest) → Batches KvRequest → Node
part_node p q s h = record first_node { id = part_id p; sequencer = q; synod = s; held = h }

abbrev held_1 : Batches KvRequest
held_1 = insert empty (group_slot 0) both

abbrev pub held_2 : Batches KvRequest
held_2 = insert held_1 (group_slot 1) []

other_slot : group_slot 1 ≢ group_slot 0
other_slot e = let one : ◌≡◌ {A = ℕ} 1 0 = ap (λ (s : Slot). s.group) e in absurd (omega (arith, one))

holds_none : get (empty {X = Batch KvRequest} {R = slot_cmp}) (group_slot 0) ≡ None
holds_none = get-empty slot_cmp (group_slot 0)

holds_one : get held_1 (group_slot 1) ≡ None
holds_one = get_other empty (group_slot 0) both (group_slot 1) other_slot ∙ get-empty slot_cmp (group_slot 1)

holds_first : get held_2 (group_slot 0) ≡ Some both
holds_first = get_other held_1 (group_slot 1) [] (group_slot 0) (λ e. other_slot (sym e)) ∙ get_here empty (group_slot 0) both

holds_second : get held_2 (group_slot 1) ≡ Some []
holds_second = get_here held_1 (group_slot 1) []

-- the closed batch is proposed, where its slot isn't held
proposes : (x : Node) (slot : Slot) (batch : Batch KvRequest) → get x.held slot ≡ None
    → cond (is_some (get x.held slot)) (Refuses fault.Decided) (by_synod {Reply = KvReply} two x (synod.propose 0 slot batch x.synod)) ≡ by_synod two x (synod.propose 0 slot batch x.synod)
proposes x slot batch unheld = ap (λ (o : Option (Batch KvRequest)). cond (is_some o) (Refuses fault.Decided) (by_synod {Reply = KvReply} two x (synod.propose 0 slot batch x.synod))) unheld

-- a merge of the first epoch, by what is held
abbrev merge_with : Node → Option (Batch KvRequest) → Option (Batch KvRequest) → KvDeed
merge_with x a b = cond (is_some a && (is_some b && true)) (Does (record x {
  merged_epochs = suc 0;
  due = x.due ++ local_places (site 2 x.id.partition) (numbered 0 0 (([] ++ unwrap_or a []) ++ unwrap_or b []));
  pending = x.pending ++ numbered 0 0 (([] ++ unwrap_or a []) ++ unwrap_or b []);
}) []) (Refuses fault.NotComplete)

-- ---- the world, after each event

abbrev w_0 : World
w_0 = record { config = two; nodes = part_node 0 (sequencing_from 0) new_synod empty ∷ part_node 1 (sequencing_from 0) new_synod empty ∷ []; packets = [] }

abbrev w_1 : World
w_1 = after w_0 (part_id 0) (Does (part_node 0 (in_queue (put_ten ∷ [])) new_synod empty) [])

abbrev w_2 : World
w_2 = after w_1 (part_id 0) (Does (part_node 0 (in_queue both) new_synod empty) [])

abbrev left : Replica (Batch KvRequest) → Node
left s = part_node 0 (closed both []) s empty

abbrev w_3 : World
w_3 = after w_2 (part_id 0) (Does (left new_synod) [])

abbrev right : Replica (Batch KvRequest) → Batches KvRequest → Node
right s h = part_node 1 (closed [] []) s h

abbrev w_4 : World
w_4 = after w_3 (part_id 1) (Does (right new_synod empty) [])

abbrev w_5 : World
w_5 = after w_4 (part_id 0) (Does (left (s_1 0 both)) (told 0 0 (Synod (message.Prepare (group_slot 0) only_ballot)) ∷ []))

abbrev w_6 : World
w_6 = after w_5 (part_id 0) (Does (left (s_2 0 both)) (told 0 0 (Synod (message.Promise (group_slot 0) only_ballot None)) ∷ []))

abbrev w_7 : World
w_7 = after w_6 (part_id 0) (Does (left (s_3 0 both)) (told 0 0 (Synod (message.Accept (group_slot 0) only_ballot both)) ∷ []))

abbrev w_8 : World
w_8 = after w_7 (part_id 0) (Does (left (s_4 0 both)) (told 0 0 (Synod (message.Accepted (group_slot 0) only_ballot both)) ∷ []))

abbrev agreed_left : Batches KvRequest → Node
agreed_left h = part_node 0 (closed both (0 ∷ [])) (s_5 0 both) h

abbrev w_9 : World
w_9 = after w_8 (part_id 0) (Does (agreed_left held_1) (told 0 1 (Decided (group_slot 0) both) ∷ []))

abbrev w_10 : World
w_10 = after w_9 (part_id 1) (Does (right new_synod held_1) [])

abbrev w_11 : World
w_11 = after w_10 (part_id 1) (Does (right (s_1 1 []) held_1) (told 1 1 (Synod (message.Prepare (group_slot 1) only_ballot)) ∷ []))

abbrev w_12 : World
w_12 = after w_11 (part_id 1) (Does (right (s_2 1 []) held_1) (told 1 1 (Synod (message.Promise (group_slot 1) only_ballot None)) ∷ []))

abbrev w_13 : World
w_13 = after w_12 (part_id 1) (Does (right (s_3 1 []) held_1) (told 1 1 (Synod (message.Accept (group_slot 1) only_ballot [])) ∷ []))

abbrev w_14 : World
w_14 = after w_13 (part_id 1) (Does (right (s_4 1 []) held_1) (told 1 1 (Synod (message.Accepted (group_slot 1) only_ballot [])) ∷ []))

abbrev agreed_right : Node
agreed_right = part_node 1 (closed [] (0 ∷ [])) (s_5 1 []) held_2

abbrev w_15 : World
w_15 = after w_14 (part_id 1) (Does agreed_right (told 1 0 (Decided (group_slot 1) []) ∷ []))

abbrev w_16 : World
w_16 = after w_15 (part_id 0) (Does (agreed_left held_2) [])

abbrev pub left_merged : Node
left_merged = record (agreed_left held_2) { merged_epochs = 1; due = next_place ∷ []; pending = (first_place, put_ten) ∷ (next_place, move_four) ∷ [] }

abbrev w_17 : World
w_17 = after w_16 (part_id 0) (Does left_merged [])

abbrev pub right_merged : Node
right_merged = record agreed_right { merged_epochs = 1; due = first_place ∷ next_place ∷ []; pending = (first_place, put_ten) ∷ (next_place, move_four) ∷ [] }

abbrev pub w_18 : World
w_18 = after w_17 (part_id 1) (Does right_merged [])

-- ---- the events

event_1 : Step kv w_0 (At (part_id 0) (Submit put_ten)) Done w_1
event_1 = inl refl

event_2 : Step kv w_1 (At (part_id 0) (Submit move_four)) Done w_2
event_2 = inl refl

event_3 : Step kv w_2 (At (part_id 0) Close) Done w_3
event_3 = inl refl

event_4 : Step kv w_3 (At (part_id 1) Close) Done w_4
event_4 = inl refl

event_5 : Step kv w_4 (At (part_id 0) (Propose 0)) Done w_5
event_5 = inl (ends w_4 (part_id 0) (node.propose two 0 (left new_synod)) (Does (left (s_1 0 both)) (told 0 0 (Synod (message.Prepare (group_slot 0) only_ballot)) ∷ [])) (proposes (left new_synod) (group_slot 0) both holds_none))

event_6 : Step kv w_5 (Deliver 0) Done w_6
event_6 = inl (ends w_5 (part_id 0) (handle two (told 0 0 (Synod (message.Prepare (group_slot 0) only_ballot))) (left (s_1 0 both))) (Does (left (s_2 0 both)) (told 0 0 (Synod (message.Promise (group_slot 0) only_ballot None)) ∷ [])) (ap (by_synod {Reply = KvReply} two (left (s_1 0 both))) (to_2 0 both)))

event_7 : Step kv w_6 (Deliver 1) Done w_7
event_7 = inl (ends w_6 (part_id 0) (handle two (told 0 0 (Synod (message.Promise (group_slot 0) only_ballot None))) (left (s_2 0 both))) (Does (left (s_3 0 both)) (told 0 0 (Synod (message.Accept (group_slot 0) only_ballot both)) ∷ [])) (ap (by_synod {Reply = KvReply} two (left (s_2 0 both))) (to_3 0 both)))

event_8 : Step kv w_7 (Deliver 2) Done w_8
event_8 = inl (ends w_7 (part_id 0) (handle two (told 0 0 (Synod (message.Accept (group_slot 0) only_ballot both))) (left (s_3 0 both))) (Does (left (s_4 0 both)) (told 0 0 (Synod (message.Accepted (group_slot 0) only_ballot both)) ∷ [])) (ap (by_synod {Reply = KvReply} two (left (s_3 0 both))) (to_4 0 both)))

event_9 : Step kv w_8 (Deliver 3) Done w_9
event_9 = inl (ends w_8 (part_id 0) (handle two (told 0 0 (Synod (message.Accepted (group_slot 0) only_ballot both))) (left (s_4 0 both))) (Does (agreed_left held_1) (told 0 1 (Decided (group_slot 0) both) ∷ [])) (ap (on_vote {Reply = KvReply} two 0 (message.Accepted (group_slot 0) only_ballot both) (left (s_4 0 both))) holds_none ∙ ap (by_synod {Reply = KvReply} two (left (s_4 0 both))) (to_5 0 both)))

event_10 : Step kv w_9 (Deliver 4) Done w_10
event_10 = inl (ends w_9 (part_id 1) (handle two (told 0 1 (Decided (group_slot 0) both)) (right new_synod empty)) (Does (right new_synod held_1) []) (ap (on_decided {Reply = KvReply} (group_slot 0) both (right new_synod empty)) holds_none))

event_11 : Step kv w_10 (At (part_id 1) (Propose 0)) Done w_11
event_11 = inl (ends w_10 (part_id 1) (node.propose two 0 (right new_synod held_1)) (Does (right (s_1 1 []) held_1) (told 1 1 (Synod (message.Prepare (group_slot 1) only_ballot)) ∷ [])) (proposes (right new_synod held_1) (group_slot 1) [] holds_one))

event_12 : Step kv w_11 (Deliver 5) Done w_12
event_12 = inl (ends w_11 (part_id 1) (handle two (told 1 1 (Synod (message.Prepare (group_slot 1) only_ballot))) (right (s_1 1 []) held_1)) (Does (right (s_2 1 []) held_1) (told 1 1 (Synod (message.Promise (group_slot 1) only_ballot None)) ∷ [])) (ap (by_synod {Reply = KvReply} two (right (s_1 1 []) held_1)) (to_2 1 [])))

event_13 : Step kv w_12 (Deliver 6) Done w_13
event_13 = inl (ends w_12 (part_id 1) (handle two (told 1 1 (Synod (message.Promise (group_slot 1) only_ballot None))) (right (s_2 1 []) held_1)) (Does (right (s_3 1 []) held_1) (told 1 1 (Synod (message.Accept (group_slot 1) only_ballot [])) ∷ [])) (ap (by_synod {Reply = KvReply} two (right (s_2 1 []) held_1)) (to_3 1 [])))

event_14 : Step kv w_13 (Deliver 7) Done w_14
event_14 = inl (ends w_13 (part_id 1) (handle two (told 1 1 (Synod (message.Accept (group_slot 1) only_ballot []))) (right (s_3 1 []) held_1)) (Does (right (s_4 1 []) held_1) (told 1 1 (Synod (message.Accepted (group_slot 1) only_ballot [])) ∷ [])) (ap (by_synod {Reply = KvReply} two (right (s_3 1 []) held_1)) (to_4 1 [])))

event_15 : Step kv w_14 (Deliver 8) Done w_15
event_15 = inl (ends w_14 (part_id 1) (handle two (told 1 1 (Synod (message.Accepted (group_slot 1) only_ballot []))) (right (s_4 1 []) held_1)) (Does agreed_right (told 1 0 (Decided (group_slot 1) []) ∷ [])) (ap (on_vote {Reply = KvReply} two 0 (message.Accepted (group_slot 1) only_ballot []) (right (s_4 1 []) held_1)) holds_one ∙ ap (by_synod {Reply = KvReply} two (right (s_4 1 []) held_1)) (to_5 1 [])))

event_16 : Step kv w_15 (Deliver 9) Done w_16
event_16 = inl (ends w_15 (part_id 0) (handle two (told 1 0 (Decided (group_slot 1) [])) (agreed_left held_1)) (Does (agreed_left held_2) []) (ap (on_decided {Reply = KvReply} (group_slot 1) [] (agreed_left held_1)) holds_one))

event_17 : Step kv w_16 (At (part_id 0) Merge) Done w_17
event_17 = inl (ends w_16 (part_id 0) (node.merge two (agreed_left held_2)) (Does left_merged []) (λ i. merge_with (agreed_left held_2) (holds_first i) (holds_second i)))

event_18 : Step kv w_17 (At (part_id 1) Merge) Done w_18
event_18 = inl (ends w_17 (part_id 1) (node.merge two agreed_right) (Does right_merged []) (λ i. merge_with agreed_right (holds_first i) (holds_second i)))

-- ---- all of them

submitting : Leads kv w_0 (At (part_id 0) (Submit put_ten) ∷ At (part_id 0) (Submit move_four) ∷ At (part_id 0) Close ∷ At (part_id 1) Close ∷ []) (done_times 4) w_4
submitting = (w_1, event_1, (w_2, event_2, (w_3, event_3, (w_4, event_4, refl))))

deciding_left : Leads kv w_4 (deciding_in 0 0) (done_times 6) w_10
deciding_left = (w_5, event_5, (w_6, event_6, (w_7, event_7, (w_8, event_8, (w_9, event_9, (w_10, event_10, refl))))))

deciding_right : Leads kv w_10 (deciding_in 1 5) (done_times 6) w_16
deciding_right = (w_11, event_11, (w_12, event_12, (w_13, event_13, (w_14, event_14, (w_15, event_15, (w_16, event_16, refl))))))

merging : Leads kv w_16 (At (part_id 0) Merge ∷ At (part_id 1) Merge ∷ []) (done_times 2) w_18
merging = (w_17, event_17, (w_18, event_18, refl))

opening_is : w_0 ≡ opening two
opening_is = λ i. record { config = two; nodes = fresh_at 0 i ∷ fresh_at 1 i ∷ []; packets = [] }
  where
    fresh_at : (p : ℕ) → part_node p (sequencing_from 0) new_synod empty ≡ new_node (part_id p)
    fresh_at p = λ i. record first_node { id = part_id p; synod = sym (is_new {Args = KvRequest}) i }

pub to_merged : Leads kv (opening two) move_ordering (done_times 18) w_18
to_merged = subst (λ (w : World). Leads kv w move_ordering (done_times 18) w_18) opening_is
    (joined kv w_0 (At (part_id 0) (Submit put_ten) ∷ At (part_id 0) (Submit move_four) ∷ At (part_id 0) Close ∷ At (part_id 1) Close ∷ []) (done_times 4) w_4 submitting
    (deciding_in 0 0 ++ deciding_in 1 5 ++ (At (part_id 0) Merge ∷ At (part_id 1) Merge ∷ [])) (done_times 14) w_18
    (joined kv w_4 (deciding_in 0 0) (done_times 6) w_10 deciding_left (deciding_in 1 5 ++ (At (part_id 0) Merge ∷ At (part_id 1) Merge ∷ [])) (done_times 8) w_18
    (joined kv w_10 (deciding_in 1 5) (done_times 6) w_16 deciding_right (At (part_id 0) Merge ∷ At (part_id 1) Merge ∷ []) (done_times 2) w_18 merging)))
