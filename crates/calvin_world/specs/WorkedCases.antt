-- Worked cases of a world of one replica and one partition, over numbers by key: lists of events, with the outcome of each.
-- The cases are of this project.
use Rattle.std.specs.Prelude.{◌≡◌, ℕ, ◌+◌, Bool, true, List, [], ◌∷◌, ◌++◌, replicate, length, Some, None, Ok, Err, slice_get}
use Rattle.std.specs.FinMap.{empty, get, insert}
use Rattle.calvin_types.specs.declared.fault.Fault.TheVariants as fault
use Rattle.calvin_types.specs.declared.key.Key.{Key}
use Rattle.calvin_types.specs.declared.place.NodeId.{NodeId}
use Rattle.calvin_types.specs.declared.place.Place.{Place}
use Rattle.calvin_types.specs.declared.place.Slot.{Slot}
use Rattle.calvin_types.specs.declared.txn.Txn.{Txn}
use Rattle.calvin_app.specs.declared.answer.Answer.TheVariants as answer
use Rattle.calvin_app.specs.declared.kv.KvRequest.{KvRequest}
use Rattle.calvin_app.specs.declared.kv.KvRequest.TheVariants.{Put}
use Rattle.calvin_app.specs.declared.kv.KvReply.{KvReply}
use Rattle.calvin_app.specs.declared.kv.KvReply.TheVariants as kv_reply
use Rattle.calvin_app.specs.Stores.{loaded}
use Rattle.calvin_sched.specs.Standing.{stands_at}
use Rattle.calvin_synod.specs.Roles.{promise_at}
use Rattle.calvin_synod.specs.declared.message.Message.TheVariants as message
use Rattle.calvin_order.specs.Configs.{Config}
use Rattle.calvin_node_acts.specs.declared.act.Act.TheVariants.{Submit, SubmitCold, Close, Merge, Lock, Restart, Propose, Snapshot, Mark, Cool, Begin, Finish}
use Rattle.calvin_node_packets.specs.declared.packet.Address.TheVariants.{AtNode, AtClient}
use Rattle.calvin_node_packets.specs.declared.packet.Content.TheVariants.{Synod, Warm, Replies}
use Rattle.calvin_node_acts.specs.NodeStates.{NodeState}
use Rattle.calvin_node_acts.specs.Durables.{durable_of, opened_by, from_durable}
use Rattle.calvin_world.specs.declared.event.Event.{Event}
use Rattle.calvin_world.specs.declared.event.Outcome.{Outcome}
use Rattle.calvin_world.specs.declared.event.Event.TheVariants.{At, Deliver}
use Rattle.calvin_world.specs.declared.event.Outcome.TheVariants.{Done, Refused}
use Rattle.calvin_world.specs.Worlds.{WorldState}

-- its configuration, by whether its keeper of rows has points and a cold table; its one node; and the first place of the order
abbrev pub alone_with : Bool → Bool → Config
alone_with points cold = record { replicas = 1; partitions = 1; points = points; cold = cold; delay = 1; woven_from = None }

abbrev pub alone : Config
alone = alone_with true true

abbrev pub own_id : NodeId
own_id = record { replica = 0; partition = 0 }

abbrev pub first_place : Place
first_place = record { epoch = 0; n = 0 }

abbrev pub second_place : Place
second_place = record { epoch = 1; n = 0 }

abbrev pub first_slot : Slot
first_slot = record { epoch = 0; group = 0 }

abbrev pub put_key : Key
put_key = record { table = 0; id = 1 }

-- attempt 1 of a request of client 7, which puts a number under the key 1
abbrev pub putting : ℕ → ℕ → Txn KvRequest
putting number v = record { id = record { client = 7; number = number }; attempt = 1; args = Put 1 v; sets = record { reads = []; writes = put_key ∷ [] } }

-- request 1, which puts 5
abbrev pub put : Txn KvRequest
put = putting 1 5

-- a proposal for epoch e; its four packets, from number n on, are delivered in turn
abbrev pub deciding : {Args : Type 0} → ℕ → ℕ → List (Event Args)
deciding e n = At own_id (Propose e) ∷ Deliver n ∷ Deliver (n + 1) ∷ Deliver (n + 2) ∷ Deliver (n + 3) ∷ []

-- so many events take effect
abbrev pub done_times : ℕ → List Outcome
done_times n = replicate n Done

-- a request is submitted and closed in epoch e, and its batch decided and merged
abbrev pub ordering : Txn KvRequest → ℕ → ℕ → List (Event KvRequest)
ordering t e n = (At own_id (Submit t) ∷ At own_id Close ∷ []) ++ deciding e n ++ (At own_id Merge ∷ [])

-- the next merged request, at the place q, is run
abbrev pub running : Place → List (Event KvRequest)
running q = At own_id Lock ∷ At own_id (Begin q) ∷ At own_id (Finish q) ∷ []

-- that request from its submission to its reply
abbrev pub one_run : List (Event KvRequest)
one_run = ordering put 0 0 ++ running first_place

abbrev pub one_done : List Outcome
one_done = done_times 11

-- the node stands at epoch 0 with one row, and packet 4 is the reply
pub record RanOne (w : WorldState KvRequest ℕ KvReply) : Type 0 where
  pub node : NodeState KvRequest ℕ
  pub there : w.nodes ≡ node ∷ []
  pub stands : stands_at node.scheduler node.merged_epochs node.due ≡ Some 0
  pub rows : node.scheduler.store.map ≡ insert empty put_key 5
  pub packets : length w.packets ≡ 5
  pub reply : slice_get w.packets 4 ≡ Some (record { from = own_id; to = AtClient 7; content = Replies first_place put.id 1 (answer.Reply kv_reply.Done) })

-- the same request over a point, a snapshot of the marked epoch, and a restart
abbrev pub marked_run : List (Event KvRequest)
marked_run = ordering put 0 0 ++ (At own_id (Mark 0) ∷ []) ++ running first_place ++ (At own_id (Snapshot 0) ∷ At own_id Restart ∷ [])

abbrev pub marked_done : List Outcome
marked_done = done_times 14

-- the record has the row that was put after the mark, and the node is opened with it, without a point
pub record RanMarked (w : WorldState KvRequest ℕ KvReply) : Type 0 where
  pub node : NodeState KvRequest ℕ
  pub there : w.nodes ≡ node ∷ []
  pub epochs : node.kept_epochs ≡ 1
  pub rows : node.kept_rows ≡ insert empty put_key 5
  pub store : node.scheduler.store ≡ loaded node.kept_rows

-- a second mark and a cooling over an open point, which a restart forgets
abbrev pub over_a_point : List (Event KvRequest)
over_a_point = At own_id (Mark 0) ∷ At own_id (Mark 1) ∷ At own_id (Cool put_key) ∷ At own_id Restart ∷ At own_id (Cool put_key) ∷ []

abbrev pub point_refusals : List Outcome
point_refusals = Done ∷ Refused fault.PointOpen ∷ Refused fault.PointOpen ∷ Done ∷ Refused fault.NoRow ∷ []

-- what a new node refuses
abbrev pub no_start : {Args : Type 0} → List (Event Args)
no_start = At own_id (Propose 0) ∷ At own_id Merge ∷ At own_id Lock ∷ Deliver 0 ∷ At own_id (Begin first_place) ∷ At (record { replica = 0; partition = 1 }) Close ∷ []

abbrev pub refusals : List Outcome
refusals = Refused fault.NotClosed ∷ Refused fault.NotComplete ∷ Refused fault.NothingToLock ∷ Refused fault.NoPacket ∷ Refused fault.NotReady ∷ Refused fault.NoNode ∷ []

-- a restart between the two phases of the synod
abbrev pub restarting : List (Event KvRequest)
restarting =
    (At own_id (Submit put) ∷ At own_id Close ∷ At own_id (Propose 0) ∷ Deliver 0 ∷ [])
    ++ (At own_id Restart ∷ Deliver 1 ∷ At own_id (Propose 0) ∷ At own_id (Submit put) ∷ At own_id Close ∷ At own_id (Propose 0) ∷ [])

abbrev pub after_restart : List Outcome
after_restart = done_times 5 ++ Refused fault.NotCurrent ∷ Refused fault.NotClosed ∷ done_times 3

-- the new ballot is of a greater round, and asks for a promise
pub record RanRestart (w : WorldState KvRequest ℕ KvReply) : Type 0 where
  pub node : NodeState KvRequest ℕ
  pub there : w.nodes ≡ node ∷ []
  pub used : node.synod.proposer.used ≡ 2
  pub asks : slice_get w.packets 2 ≡ Some (record { from = own_id; to = AtNode own_id; content = Synod (message.Prepare first_slot (record { round = 2; replica = 0 })) })

-- the same request is proposed twice, and the first ballot's prepare comes after the second one's
abbrev pub outbid : List (Event KvRequest)
outbid = At own_id (Submit put) ∷ At own_id Close ∷ At own_id (Propose 0) ∷ At own_id (Propose 0) ∷ Deliver 1 ∷ Deliver 0 ∷ Deliver 3 ∷ []

abbrev pub outbid_done : List Outcome
outbid_done = done_times 6 ++ Refused fault.NotCurrent ∷ []

-- the old ballot is refused with the promise, which stays
pub record RanOutbid (w : WorldState KvRequest ℕ KvReply) : Type 0 where
  pub node : NodeState KvRequest ℕ
  pub there : w.nodes ≡ node ∷ []
  pub promise : promise_at node.synod.acceptor first_slot ≡ Some (record { round = 2; replica = 0 })
  pub refusal : slice_get w.packets 3 ≡ Some
      (record {
        from = own_id;
        to = AtNode own_id;
        content = Synod (message.Refused first_slot (record { round = 1; replica = 0 })
            (record { round = 2; replica = 0 }));
      })

-- an epoch without requests
abbrev pub empty_run : List (Event KvRequest)
empty_run = (At own_id Close ∷ []) ++ deciding 0 0 ++ (At own_id Merge ∷ At own_id Lock ∷ [])

abbrev pub empty_done : List Outcome
empty_done = done_times 7 ++ Refused fault.NothingToLock ∷ []

-- the node stands at its end, without rows
pub record RanEmpty (w : WorldState KvRequest ℕ KvReply) : Type 0 where
  pub node : NodeState KvRequest ℕ
  pub there : w.nodes ≡ node ∷ []
  pub stands : stands_at node.scheduler node.merged_epochs node.due ≡ Some 0
  pub rows : node.scheduler.store.map ≡ empty

-- a reply that a delivery would hand to a node
abbrev pub reply_delivered : List (Event KvRequest)
reply_delivered = one_run ++ Deliver 4 ∷ []

abbrev pub reply_refused : List Outcome
reply_refused = one_done ++ Refused fault.NotMine ∷ []

-- a snapshot of the first epoch, a second one, a restart, and the request once more
abbrev pub kept_run : List (Event KvRequest)
kept_run = one_run ++ At own_id (Snapshot 0) ∷ At own_id (Snapshot 0) ∷ At own_id Restart ∷ At own_id (Begin first_place) ∷ []

abbrev pub kept_done : List Outcome
kept_done = one_done ++ Done ∷ Refused fault.Older ∷ Done ∷ Refused fault.NotReady ∷ []

-- the node is back at the end of the epoch with its row; from its record it is opened under the same order, and not where the epoch is woven
pub record RanKept (w : WorldState KvRequest ℕ KvReply) : Type 0 where
  pub node : NodeState KvRequest ℕ
  pub there : w.nodes ≡ node ∷ []
  pub stands : stands_at node.scheduler node.merged_epochs node.due ≡ Some 0
  pub rows : node.scheduler.store.map ≡ insert empty put_key 5
  pub same_order : from_durable alone own_id (durable_of alone node) ≡ Ok (opened_by own_id (durable_of alone node))
  pub other_order : from_durable (record alone { woven_from = Some 0 }) own_id (durable_of alone node) ≡ Err fault.OrderChanged

-- a mark and a row for the cold table, where the keeper of rows has neither points nor such a table
abbrev pub plain_run : List (Event KvRequest)
plain_run = one_run ++ At own_id (Mark 0) ∷ At own_id (Cool put_key) ∷ []

abbrev pub plain_done : List Outcome
plain_done = one_done ++ Refused fault.NoPoints ∷ Refused fault.NoColdTable ∷ []

-- a request that may touch cold rows
abbrev pub cold_run : List (Event KvRequest)
cold_run = At own_id (SubmitCold put) ∷ Deliver 0 ∷ At own_id Close ∷ At own_id Close ∷ []

abbrev pub cold_done : List Outcome
cold_done = done_times 4

-- it missed the first batch, and stands in the second; its keys were warmed
pub record RanCold (w : WorldState KvRequest ℕ KvReply) : Type 0 where
  pub node : NodeState KvRequest ℕ
  pub there : w.nodes ≡ node ∷ []
  pub closed : node.sequencer.closed ≡ (0, []) ∷ (1, put ∷ []) ∷ []
  pub warms : w.packets ≡ record { from = own_id; to = AtNode own_id; content = Warm put.sets } ∷ []

-- a request in each of two epochs: the second one puts 6
abbrev pub first_of_two : List (Event KvRequest)
first_of_two = ordering put 0 0 ++ ordering (putting 2 6) 1 4 ++ running first_place

-- a point at the end of the first epoch; the second request is run; and then a snapshot of the first epoch
abbrev pub marked_in_time : List (Event KvRequest)
marked_in_time = first_of_two ++ At own_id (Mark 0) ∷ running second_place ++ At own_id (Snapshot 0) ∷ []

abbrev pub marked_in_time_done : List Outcome
marked_in_time_done = done_times 24

-- the snapshot has the row of the first epoch, and the node that of the second
pub record RanInTime (w : WorldState KvRequest ℕ KvReply) : Type 0 where
  pub node : NodeState KvRequest ℕ
  pub there : w.nodes ≡ node ∷ []
  pub epochs : node.kept_epochs ≡ 1
  pub kept : node.kept_rows ≡ insert empty put_key 5
  pub now : get node.scheduler.store.map put_key ≡ Some 6

-- the same without a point: the snapshot is refused, and it is too late for a point
abbrev pub unmarked : List (Event KvRequest)
unmarked = first_of_two ++ running second_place ++ At own_id (Snapshot 0) ∷ At own_id (Mark 0) ∷ []

abbrev pub unmarked_done : List Outcome
unmarked_done = done_times 22 ++ Refused fault.NotAtEnd ∷ Refused fault.PointTooLate ∷ []
