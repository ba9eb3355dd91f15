-- Worked case of a world of one replica and two partitions, over numbers by key: a number is moved from a key of one partition to
-- a key of the other (Thomson et al. 2012, section 3.2: each participant sends the rows that it reads to those that run the
-- request, and writes what it stores). The numbers are of this project.
use Rattle.std.specs.Prelude.{◌≡◌, ℕ, ◌+◌, List, [], ◌∷◌, ◌++◌, Some, None}
use Rattle.std.specs.FinMap.{empty, insert}
use Rattle.calvin_types.specs.declared.key.Key.{Key}
use Rattle.calvin_types.specs.declared.place.Ballot.{Ballot}
use Rattle.calvin_types.specs.declared.place.NodeId.{NodeId}
use Rattle.calvin_types.specs.declared.place.Place.{Place}
use Rattle.calvin_types.specs.declared.place.Slot.{Slot}
use Rattle.calvin_types.specs.declared.txn.Txn.{Txn}
use Rattle.calvin_app.specs.declared.answer.Answer.TheVariants as answer
use Rattle.calvin_app.specs.declared.kv.KvRequest.{KvRequest}
use Rattle.calvin_app.specs.declared.kv.KvRequest.TheVariants.{Put, Move}
use Rattle.calvin_app.specs.declared.kv.KvReply.{KvReply}
use Rattle.calvin_app.specs.declared.kv.KvReply.TheVariants as kv_reply
use Rattle.calvin_synod.specs.declared.message.Message.TheVariants as message
use Rattle.calvin_order.specs.Configs.{Config}
use Rattle.calvin_order.specs.Merged.{Batch}
use Rattle.calvin_sched.specs.Standing.{stands_at}
use Rattle.calvin_node_acts.specs.declared.act.Act.TheVariants.{Submit, Close, Merge, Lock, Propose, Begin, Finish}
use Rattle.calvin_node_packets.specs.declared.packet.Packet.{Packet}
use Rattle.calvin_node_packets.specs.declared.packet.Address.TheVariants.{AtNode, AtClient}
use Rattle.calvin_node_packets.specs.declared.packet.Content.{Content}
use Rattle.calvin_node_packets.specs.declared.packet.Content.TheVariants.{Synod, Decided, Reads, Replies}
use Rattle.calvin_node_acts.specs.NodeStates.{NodeState}
use Rattle.calvin_world.specs.declared.event.Event.{Event}
use Rattle.calvin_world.specs.declared.event.Event.TheVariants.{At, Deliver}
use Rattle.calvin_world.specs.WorkedCases.{alone, put_key, put, first_place}
use Rattle.calvin_world.specs.Worlds.{WorldState}

-- two partitions of one replica, by their numbers
abbrev pub two : Config
two = record alone { partitions = 2 }

abbrev pub part_id : ℕ → NodeId
part_id p = record { replica = 0; partition = p }

abbrev pub group_slot : ℕ → Slot
group_slot g = record { epoch = 0; group = g }

-- the key 1 is stored at partition 1, and the key 2 at partition 0
abbrev pub move_key : Key
move_key = record { table = 0; id = 2 }

-- request 1 puts 10 under the key 1, and request 2 moves 4 of it to the key 2
abbrev pub put_ten : Txn KvRequest
put_ten = record put { args = Put 1 10 }

abbrev pub move_four : Txn KvRequest
move_four = record { id = record { client = 7; number = 2 }; attempt = 1; args = Move 1 2 4; sets = record { reads = put_key ∷ move_key ∷ []; writes = put_key ∷ move_key ∷ [] } }

abbrev pub next_place : Place
next_place = record { epoch = 0; n = 1 }

-- ---- the order

-- the batch of a group is proposed, decided, and told to the other partition; its five packets have the numbers from n on
abbrev pub deciding_in : ℕ → ℕ → List (Event KvRequest)
deciding_in g n = At (part_id g) (Propose 0) ∷ Deliver n ∷ Deliver (n + 1) ∷ Deliver (n + 2) ∷ Deliver (n + 3) ∷ Deliver (n + 4) ∷ []

-- both requests are submitted at partition 0; the batch of partition 1 is empty; the epoch is merged at both
abbrev pub move_ordering : List (Event KvRequest)
move_ordering =
    (At (part_id 0) (Submit put_ten) ∷ At (part_id 0) (Submit move_four) ∷ At (part_id 0) Close ∷ At (part_id 1) Close ∷ [])
    ++ deciding_in 0 0 ++ deciding_in 1 5 ++ (At (part_id 0) Merge ∷ At (part_id 1) Merge ∷ [])

abbrev pub told : ℕ → ℕ → Content KvRequest ℕ KvReply → Packet KvRequest ℕ KvReply
told from to content = record { from = part_id from; to = AtNode (part_id to); content = content }

abbrev pub only_ballot : Ballot
only_ballot = record { round = 1; replica = 0 }

-- the five packets of a group
abbrev pub sent_deciding : ℕ → ℕ → Batch KvRequest → List (Packet KvRequest ℕ KvReply)
sent_deciding g other batch =
    told g g (Synod (message.Prepare (group_slot g) only_ballot))
    ∷ told g g (Synod (message.Promise (group_slot g) only_ballot None))
    ∷ told g g (Synod (message.Accept (group_slot g) only_ballot batch))
    ∷ told g g (Synod (message.Accepted (group_slot g) only_ballot batch))
    ∷ told g other (Decided (group_slot g) batch) ∷ []

-- ---- the run

-- partition 0 passes over request 1, which partition 1 runs; request 2 is run at both, once each has the other's rows
abbrev pub move_running : List (Event KvRequest)
move_running =
    (At (part_id 0) Lock ∷ At (part_id 0) Lock ∷ At (part_id 1) Lock ∷ At (part_id 1) Lock ∷ [])
    ++ (At (part_id 1) (Begin first_place) ∷ At (part_id 1) (Finish first_place) ∷ [])
    ++ (At (part_id 1) (Begin next_place) ∷ At (part_id 0) (Begin next_place) ∷ Deliver 11 ∷ Deliver 12 ∷ [])
    ++ (At (part_id 0) (Finish next_place) ∷ At (part_id 1) (Finish next_place) ∷ [])

abbrev pub done_reply : ℕ → Place → Txn KvRequest → Packet KvRequest ℕ KvReply
done_reply p q t = record { from = part_id p; to = AtClient 7; content = Replies q t.id 1 (answer.Reply kv_reply.Done) }

-- packets 10 to 14
abbrev pub sent_running : List (Packet KvRequest ℕ KvReply)
sent_running =
    done_reply 1 first_place put_ten
    ∷ told 1 0 (Reads next_place (insert empty put_key 10)) ∷ told 0 1 (Reads next_place empty)
    ∷ done_reply 0 next_place move_four ∷ done_reply 1 next_place move_four ∷ []

-- both partitions stand at epoch 0, one with the row 4 of the key 2, and the other with the row 6 of the key 1
pub record RanMove (w : WorldState KvRequest ℕ KvReply) : Type 0 where
  pub left : NodeState KvRequest ℕ
  pub right : NodeState KvRequest ℕ
  pub there : w.nodes ≡ left ∷ right ∷ []
  pub left_stands : stands_at left.scheduler left.merged_epochs left.due ≡ Some 0
  pub right_stands : stands_at right.scheduler right.merged_epochs right.due ≡ Some 0
  pub left_rows : left.scheduler.store.map ≡ insert empty move_key 4
  pub right_rows : right.scheduler.store.map ≡ insert empty put_key 6
  pub packets : w.packets ≡ sent_deciding 0 1 (put_ten ∷ move_four ∷ []) ++ sent_deciding 1 0 [] ++ sent_running
