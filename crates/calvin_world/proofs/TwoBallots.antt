-- Three replicas and two ballots for one slot, event by event: the second ballot keeps the vote that it is told of, and the first is refused.
use Rattle.std.proofs.Common.{◌≡◌, ℕ, cond, [], ◌∷◌, ◌++◌, inl, Option, Some, None, refl, sym, ap, subst}
use Rattle.std.specs.Prelude.{is_some}
use Rattle.std.specs.FinMap.{get, insert, empty, get-empty}
use Rattle.calvin_types.specs.declared.fault.Fault.TheVariants as fault
use Rattle.calvin_types.specs.declared.place.NodeId.{NodeId}
use Rattle.calvin_types.specs.declared.place.Slot.{Slot}
use Rattle.calvin_types.specs.Deeds.{Refuses, Does}
use Rattle.calvin_types.specs.Places.{slot_cmp}
use Rattle.calvin_types.proofs.SlotMaps.{get_here}
use Rattle.calvin_app.specs.Kv.{kv}
use Rattle.calvin_app.specs.declared.kv.KvRequest.{KvRequest}
use Rattle.calvin_app.specs.declared.kv.KvReply.{KvReply}
use Rattle.calvin_synod.specs.Cases as synod
use Rattle.calvin_synod.specs.Cases.{Replica}
use Rattle.calvin_synod.specs.declared.vote.Vote.{Vote}
use Rattle.calvin_synod.specs.declared.vote.Recorded.{Recorded}
use Rattle.calvin_synod.specs.declared.attempt.Attempt.{Attempt}
use Rattle.calvin_synod.specs.declared.message.Message.TheVariants as message
use Rattle.calvin_synod.specs.Roles.{counting, sending, voted}
use Rattle.calvin_order.specs.Merged.{Batch}
use Rattle.calvin_order.specs.Sequencing.{Sequencing}
use Rattle.calvin_node_acts.specs.declared.act.Act.TheVariants.{Submit, Close, Propose}
use Rattle.calvin_node_acts.specs.Acting as node
use Rattle.calvin_node_acts.specs.Handling.{handle, by_synod}
use Rattle.calvin_node_acts.specs.NodeStates.{new_node}
use Rattle.calvin_world.specs.declared.event.Event.TheVariants.{At, Deliver}
use Rattle.calvin_world.specs.declared.event.Outcome.TheVariants.{Done, Refused}
use Rattle.calvin_world.specs.WorkedCases.{first_slot, put, done_times}
use Rattle.calvin_world.specs.WorkedBallots.{three, replica_id, ballot_of, rival, letter, letters_to_all, first_ballot, sent_first, second_ballot, sent_second, late_accept, late_refused, with_refusal}
use Rattle.calvin_world.specs.Worlds.{Step, Leads, opening}
use Rattle.calvin_world.proofs.Alone.{new_synod, first_node, is_new, joined}
use Rattle.calvin_world.proofs.OneSlot.{Node, Sent}
use Rattle.calvin_world.proofs.KnownWorlds.{World, after, ends, prepares, promises, accepts}

-- a batch that was closed is proposed, where its slot isn't held
proposes : (me : NodeId) (x : Node) (batch : Batch KvRequest) → get x.held first_slot ≡ None
    → cond (is_some (get x.held first_slot)) (Refuses fault.Decided) (by_synod {Reply = KvReply} three x (synod.propose me.replica first_slot batch x.synod)) ≡ by_synod three x (synod.propose me.replica first_slot batch x.synod)
proposes me x batch unheld = ap (λ (o : Option (Batch KvRequest)). cond (is_some o) (Refuses fault.Decided) (by_synod {Reply = KvReply} three x (synod.propose me.replica first_slot batch x.synod))) unheld

-- ---- the replicas, after each of their events

abbrev mine : Batch KvRequest
mine = put ∷ []

abbrev theirs : Batch KvRequest
theirs = rival ∷ []

abbrev slot : Slot
slot = first_slot

abbrev at_first : ℕ → Node
at_first r = record first_node { id = replica_id r }

abbrev queued : ℕ → Batch KvRequest → Node
queued r batch = record (at_first r) { sequencer = record { opening = 0; queue = batch; closed = []; decided = []; held_back = [] } }

abbrev closed : Batch KvRequest → Sequencing KvRequest
closed batch = record { opening = 0; queue = []; closed = (0, batch) ∷ []; decided = []; held_back = [] }

abbrev vote : Vote (Batch KvRequest)
vote = record { ballot = ballot_of 0; batch = mine }

abbrev promised_to : ℕ → Option (Vote (Batch KvRequest)) → Recorded (Batch KvRequest)
promised_to r v = record { promise = ballot_of r; vote = v }

abbrev attempt : ℕ → Batch KvRequest → Attempt (Batch KvRequest)
attempt r batch = record { ballot = ballot_of r; own = batch; counted = [] }

abbrev counted_own : ℕ → Batch KvRequest → Attempt (Batch KvRequest)
counted_own r batch = record { ballot = ballot_of r; own = batch; counted = record { from = r; vote = None } ∷ [] }

-- replica 0
abbrev s_1 : Replica (Batch KvRequest)
s_1 = record new_synod { proposer = record { used = 1; seen = 0; attempts = insert empty slot (attempt 0 mine) } }

abbrev s_2 : Replica (Batch KvRequest)
s_2 = record s_1 { acceptor = insert s_1.acceptor slot (promised_to 0 None) }

abbrev s_3 : Replica (Batch KvRequest)
s_3 = record s_2 { proposer = counting s_2.proposer slot (attempt 0 mine) 0 None }

abbrev s_4 : Replica (Batch KvRequest)
s_4 = record s_3 { proposer = sending s_3.proposer slot }

abbrev s_5 : Replica (Batch KvRequest)
s_5 = record s_4 { acceptor = voted s_4.acceptor slot vote }

abbrev s_6 : Replica (Batch KvRequest)
s_6 = record s_5 { acceptor = insert s_5.acceptor slot (promised_to 1 (Some vote)) }

abbrev first : Replica (Batch KvRequest) → Node
first s = record (at_first 0) { sequencer = closed mine; synod = s }

-- replica 1
abbrev t_1 : Replica (Batch KvRequest)
t_1 = record new_synod { acceptor = insert empty slot (promised_to 0 None) }

abbrev t_2 : Replica (Batch KvRequest)
t_2 = record t_1 { proposer = record { used = 1; seen = 0; attempts = insert empty slot (attempt 1 theirs) } }

abbrev t_3 : Replica (Batch KvRequest)
t_3 = record t_2 { acceptor = insert t_2.acceptor slot (promised_to 1 None) }

abbrev t_4 : Replica (Batch KvRequest)
t_4 = record t_3 { proposer = counting t_3.proposer slot (attempt 1 theirs) 1 None }

abbrev t_5 : Replica (Batch KvRequest)
t_5 = record t_4 { proposer = sending t_4.proposer slot }

abbrev promising : Node
promising = record (at_first 1) { synod = t_1 }

abbrev queuing : Node
queuing = record (queued 1 theirs) { synod = t_1 }

abbrev second : Replica (Batch KvRequest) → Node
second t = record (at_first 1) { sequencer = closed theirs; synod = t }

-- ---- the world, after each event

abbrev w_0 : World
w_0 = record { config = three; nodes = at_first 0 ∷ at_first 1 ∷ at_first 2 ∷ []; packets = [] }

abbrev w_1 : World
w_1 = after w_0 (replica_id 0) (Does (queued 0 mine) [])

abbrev w_2 : World
w_2 = after w_1 (replica_id 0) (Does (first new_synod) [])

abbrev w_3 : World
w_3 = after w_2 (replica_id 0) (Does (first s_1) (letters_to_all 0 (message.Prepare slot (ballot_of 0))))

abbrev w_4 : World
w_4 = after w_3 (replica_id 0) (Does (first s_2) (letter 0 0 (message.Promise slot (ballot_of 0) None) ∷ []))

abbrev w_5 : World
w_5 = after w_4 (replica_id 1) (Does promising (letter 1 0 (message.Promise slot (ballot_of 0) None) ∷ []))

abbrev w_6 : World
w_6 = after w_5 (replica_id 0) (Does (first s_3) [])

abbrev w_7 : World
w_7 = after w_6 (replica_id 0) (Does (first s_4) (letters_to_all 0 (message.Accept slot (ballot_of 0) mine)))

abbrev w_8 : World
w_8 = after w_7 (replica_id 0) (Does (first s_5) (letters_to_all 0 (message.Accepted slot (ballot_of 0) mine)))

abbrev w_9 : World
w_9 = after w_8 (replica_id 1) (Does queuing [])

abbrev w_10 : World
w_10 = after w_9 (replica_id 1) (Does (second t_1) [])

abbrev w_11 : World
w_11 = after w_10 (replica_id 1) (Does (second t_2) (letters_to_all 1 (message.Prepare slot (ballot_of 1))))

abbrev w_12 : World
w_12 = after w_11 (replica_id 0) (Does (first s_6) (letter 0 1 (message.Promise slot (ballot_of 1) (Some vote)) ∷ []))

abbrev w_13 : World
w_13 = after w_12 (replica_id 1) (Does (second t_3) (letter 1 1 (message.Promise slot (ballot_of 1) None) ∷ []))

abbrev w_14 : World
w_14 = after w_13 (replica_id 1) (Does (second t_4) [])

abbrev w_15 : World
w_15 = after w_14 (replica_id 1) (Does (second t_5) (letters_to_all 1 (message.Accept slot (ballot_of 1) mine)))

unheld : get (empty {X = Batch KvRequest} {R = slot_cmp}) slot ≡ None
unheld = get-empty slot_cmp slot

unrecorded : get (empty {X = Recorded (Batch KvRequest)} {R = slot_cmp}) slot ≡ None
unrecorded = get-empty slot_cmp slot

-- ---- the first ballot

event_1 : Step kv w_0 (At (replica_id 0) (Submit put)) Done w_1
event_1 = inl refl

event_2 : Step kv w_1 (At (replica_id 0) Close) Done w_2
event_2 = inl refl

event_3 : Step kv w_2 (At (replica_id 0) (Propose 0)) Done w_3
event_3 = inl (ends w_2 (replica_id 0) (node.propose three 0 (first new_synod)) (Does (first s_1) (letters_to_all 0 (message.Prepare slot (ballot_of 0)))) (proposes (replica_id 0) (first new_synod) mine unheld))

event_4 : Step kv w_3 (Deliver 0) Done w_4
event_4 = inl (ends w_3 (replica_id 0) (handle three (letter 0 0 (message.Prepare slot (ballot_of 0))) (first s_1)) (Does (first s_2) (letter 0 0 (message.Promise slot (ballot_of 0) None) ∷ [])) (ap (by_synod {Reply = KvReply} three (first s_1)) (prepares 3 s_1 slot (ballot_of 0) 0 None unrecorded refl)))

event_5 : Step kv w_4 (Deliver 1) Done w_5
event_5 = inl (ends w_4 (replica_id 1) (handle three (letter 0 1 (message.Prepare slot (ballot_of 0))) (at_first 1)) (Does promising (letter 1 0 (message.Promise slot (ballot_of 0) None) ∷ [])) (ap (by_synod {Reply = KvReply} three (at_first 1)) (prepares 3 new_synod slot (ballot_of 0) 0 None unrecorded refl)))

event_6 : Step kv w_5 (Deliver 3) Done w_6
event_6 = inl (ends w_5 (replica_id 0) (handle three (letter 0 0 (message.Promise slot (ballot_of 0) None)) (first s_2)) (Does (first s_3) []) (ap (by_synod {Reply = KvReply} three (first s_2)) (promises 3 s_2 slot (ballot_of 0) 0 None (attempt 0 mine) (get_here empty slot (attempt 0 mine)))))

event_7 : Step kv w_6 (Deliver 4) Done w_7
event_7 = inl (ends w_6 (replica_id 0) (handle three (letter 1 0 (message.Promise slot (ballot_of 0) None)) (first s_3)) (Does (first s_4) (letters_to_all 0 (message.Accept slot (ballot_of 0) mine))) (ap (by_synod {Reply = KvReply} three (first s_3)) (promises 3 s_3 slot (ballot_of 0) 1 None (counted_own 0 mine) (get_here s_2.proposer.attempts slot (counted_own 0 mine)))))

event_8 : Step kv w_7 (Deliver 5) Done w_8
event_8 = inl (ends w_7 (replica_id 0) (handle three (letter 0 0 (message.Accept slot (ballot_of 0) mine)) (first s_4)) (Does (first s_5) (letters_to_all 0 (message.Accepted slot (ballot_of 0) mine))) (ap (by_synod {Reply = KvReply} three (first s_4)) (accepts 3 s_4 slot (ballot_of 0) 0 mine (promised_to 0 None) (get_here s_1.acceptor slot (promised_to 0 None)))))

first_leads : Leads kv w_0 first_ballot (done_times 8) w_8
first_leads = (w_1, event_1, (w_2, event_2, (w_3, event_3, (w_4, event_4, (w_5, event_5, (w_6, event_6, (w_7, event_7, (w_8, event_8, refl))))))))

-- ---- the second ballot

event_9 : Step kv w_8 (At (replica_id 1) (Submit rival)) Done w_9
event_9 = inl refl

event_10 : Step kv w_9 (At (replica_id 1) Close) Done w_10
event_10 = inl refl

event_11 : Step kv w_10 (At (replica_id 1) (Propose 0)) Done w_11
event_11 = inl (ends w_10 (replica_id 1) (node.propose three 0 (second t_1)) (Does (second t_2) (letters_to_all 1 (message.Prepare slot (ballot_of 1)))) (proposes (replica_id 1) (second t_1) theirs unheld))

event_12 : Step kv w_11 (Deliver 11) Done w_12
event_12 = inl (ends w_11 (replica_id 0) (handle three (letter 1 0 (message.Prepare slot (ballot_of 1))) (first s_5)) (Does (first s_6) (letter 0 1 (message.Promise slot (ballot_of 1) (Some vote)) ∷ [])) (ap (by_synod {Reply = KvReply} three (first s_5)) (prepares 3 s_5 slot (ballot_of 1) 1 (Some (promised_to 0 (Some vote))) (get_here s_4.acceptor slot (promised_to 0 (Some vote))) refl)))

event_13 : Step kv w_12 (Deliver 12) Done w_13
event_13 = inl (ends w_12 (replica_id 1) (handle three (letter 1 1 (message.Prepare slot (ballot_of 1))) (second t_2)) (Does (second t_3) (letter 1 1 (message.Promise slot (ballot_of 1) None) ∷ [])) (ap (by_synod {Reply = KvReply} three (second t_2)) (prepares 3 t_2 slot (ballot_of 1) 1 (Some (promised_to 0 None)) (get_here empty slot (promised_to 0 None)) refl)))

event_14 : Step kv w_13 (Deliver 15) Done w_14
event_14 = inl (ends w_13 (replica_id 1) (handle three (letter 1 1 (message.Promise slot (ballot_of 1) None)) (second t_3)) (Does (second t_4) []) (ap (by_synod {Reply = KvReply} three (second t_3)) (promises 3 t_3 slot (ballot_of 1) 1 None (attempt 1 theirs) (get_here empty slot (attempt 1 theirs)))))

event_15 : Step kv w_14 (Deliver 14) Done w_15
event_15 = inl (ends w_14 (replica_id 1) (handle three (letter 0 1 (message.Promise slot (ballot_of 1) (Some vote))) (second t_4)) (Does (second t_5) (letters_to_all 1 (message.Accept slot (ballot_of 1) mine))) (ap (by_synod {Reply = KvReply} three (second t_4)) (promises 3 t_4 slot (ballot_of 1) 0 (Some vote) (counted_own 1 theirs) (get_here t_3.proposer.attempts slot (counted_own 1 theirs)))))

second_leads : Leads kv w_8 second_ballot (done_times 7) w_15
second_leads = (w_9, event_9, (w_10, event_10, (w_11, event_11, (w_12, event_12, (w_13, event_13, (w_14, event_14, (w_15, event_15, refl)))))))

opening_is : w_0 ≡ opening three
opening_is = λ i. record { config = three; nodes = fresh_at 0 i ∷ fresh_at 1 i ∷ fresh_at 2 i ∷ []; packets = [] }
  where
    fresh_at : (r : ℕ) → at_first r ≡ new_node (replica_id r)
    fresh_at r = λ i. record (at_first r) { synod = sym (is_new {Args = KvRequest}) i }

both_lead : Leads kv (opening three) (first_ballot ++ second_ballot) (done_times 15) w_15
both_lead = subst (λ (w : World). Leads kv w (first_ballot ++ second_ballot) (done_times 15) w_15) opening_is (joined kv w_0 first_ballot (done_times 8) w_8 first_leads second_ballot (done_times 7) w_15 second_leads)

pub two_ballots_run : (w : World) × Leads kv (opening three) (first_ballot ++ second_ballot) (done_times 15) w × (w.packets ≡ sent_first ++ sent_second)
two_ballots_run = (w_15, both_lead, refl)

-- ---- the late accept

abbrev refusal : Sent
refusal = letter 1 0 (message.Refused slot (ballot_of 0) (ballot_of 1))

event_16 : Step kv w_15 (Deliver 6) Done (with_refusal w_15)
event_16 = inl (ends w_15 (replica_id 1) (handle three (letter 0 1 (message.Accept slot (ballot_of 0) mine)) (second t_5)) (Does (second t_5) (refusal ∷ [])) (ap (by_synod {Reply = KvReply} three (second t_5)) (accepts 3 t_5 slot (ballot_of 0) 0 mine (promised_to 1 None) (get_here t_2.acceptor slot (promised_to 1 None)))))

event_17 : Step kv (with_refusal w_15) (Deliver 19) (Refused fault.NotCurrent) (with_refusal w_15)
event_17 = inl refl

pub late_accept_run : (w : World) × Leads kv (opening three) (first_ballot ++ second_ballot) (done_times 15) w × Leads kv w late_accept late_refused (with_refusal w)
late_accept_run = (w_15, both_lead, (with_refusal w_15, event_16, (with_refusal w_15, event_17, refl)))
