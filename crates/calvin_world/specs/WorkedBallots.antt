-- Worked cases of a world of three replicas and one partition, over numbers by key: a second ballot for a slot keeps the vote that
-- it is told of, and the first ballot is refused from then on ("Paxos Made Simple", section 2.2: a proposal has the value of
-- the greatest one reported; an acceptor accepts no proposal below its promise). The numbers are of this project.
use Rattle.std.specs.Prelude.{ℕ, List, [], ◌∷◌, ◌++◌, Some, None}
use Rattle.calvin_types.specs.declared.fault.Fault.TheVariants as fault
use Rattle.calvin_types.specs.declared.place.Ballot.{Ballot}
use Rattle.calvin_types.specs.declared.place.NodeId.{NodeId}
use Rattle.calvin_types.specs.declared.txn.Txn.{Txn}
use Rattle.calvin_app.specs.declared.kv.KvRequest.{KvRequest}
use Rattle.calvin_app.specs.declared.kv.KvRequest.TheVariants.{Put}
use Rattle.calvin_app.specs.declared.kv.KvReply.{KvReply}
use Rattle.calvin_synod.specs.declared.message.Message.{Message}
use Rattle.calvin_synod.specs.declared.message.Message.TheVariants as message
use Rattle.calvin_order.specs.Configs.{Config}
use Rattle.calvin_order.specs.Merged.{Batch}
use Rattle.calvin_node_acts.specs.declared.act.Act.TheVariants.{Submit, Close, Propose}
use Rattle.calvin_node_packets.specs.declared.packet.Packet.{Packet}
use Rattle.calvin_node_packets.specs.declared.packet.Address.TheVariants.{AtNode}
use Rattle.calvin_node_packets.specs.declared.packet.Content.TheVariants.{Synod}
use Rattle.calvin_world.specs.declared.event.Event.{Event}
use Rattle.calvin_world.specs.declared.event.Outcome.{Outcome}
use Rattle.calvin_world.specs.declared.event.Event.TheVariants.{At, Deliver}
use Rattle.calvin_world.specs.declared.event.Outcome.TheVariants.{Done, Refused}
use Rattle.calvin_world.specs.WorkedCases.{alone, first_slot, put}
use Rattle.calvin_world.specs.Worlds.{WorldState}

-- three replicas of one partition, by their numbers
abbrev pub three : Config
three = record alone { replicas = 3 }

abbrev pub replica_id : ℕ → NodeId
replica_id r = record { replica = r; partition = 0 }

-- the first ballot of a replica
abbrev pub ballot_of : ℕ → Ballot
ballot_of r = record { round = 1; replica = r }

-- request 1 of client 8, which puts 6 where `put` puts 5
abbrev pub rival : Txn KvRequest
rival = record put { id = record { client = 8; number = 1 }; args = Put 1 6 }

-- ---- what is sent

-- a message of the synods, from one replica to another, or to all
abbrev pub letter : ℕ → ℕ → Message (Batch KvRequest) → Packet KvRequest ℕ KvReply
letter from to m = record { from = replica_id from; to = AtNode (replica_id to); content = Synod m }

abbrev pub letters_to_all : ℕ → Message (Batch KvRequest) → List (Packet KvRequest ℕ KvReply)
letters_to_all from m = letter from 0 m ∷ letter from 1 m ∷ letter from 2 m ∷ []

-- ---- the first ballot, and the second

-- replica 0 proposes `put`; itself and replica 1 promise, and itself votes
abbrev pub first_ballot : List (Event KvRequest)
first_ballot =
    At (replica_id 0) (Submit put) ∷ At (replica_id 0) Close ∷ At (replica_id 0) (Propose 0)
    ∷ Deliver 0 ∷ Deliver 1 ∷ Deliver 3 ∷ Deliver 4 ∷ Deliver 5 ∷ []

-- packets 0 to 10
abbrev pub sent_first : List (Packet KvRequest ℕ KvReply)
sent_first =
    letters_to_all 0 (message.Prepare first_slot (ballot_of 0))
    ++ (letter 0 0 (message.Promise first_slot (ballot_of 0) None) ∷ letter 1 0 (message.Promise first_slot (ballot_of 0) None) ∷ [])
    ++ letters_to_all 0 (message.Accept first_slot (ballot_of 0) (put ∷ []))
    ++ letters_to_all 0 (message.Accepted first_slot (ballot_of 0) (put ∷ []))

-- replica 1 proposes `rival` for the same slot; replica 0 and itself promise
abbrev pub second_ballot : List (Event KvRequest)
second_ballot =
    At (replica_id 1) (Submit rival) ∷ At (replica_id 1) Close ∷ At (replica_id 1) (Propose 0)
    ∷ Deliver 11 ∷ Deliver 12 ∷ Deliver 15 ∷ Deliver 14 ∷ []

-- packets 11 to 18: the vote for `put` is told with a promise, and `put` is what is to be accepted
abbrev pub sent_second : List (Packet KvRequest ℕ KvReply)
sent_second =
    letters_to_all 1 (message.Prepare first_slot (ballot_of 1))
    ++ (letter 0 1 (message.Promise first_slot (ballot_of 1) (Some (record { ballot = ballot_of 0; batch = put ∷ [] }))) ∷ letter 1 1 (message.Promise first_slot (ballot_of 1) None) ∷ [])
    ++ letters_to_all 1 (message.Accept first_slot (ballot_of 1) (put ∷ []))

-- ---- the first ballot's accept comes to replica 1, and its refusal to replica 0

abbrev pub late_accept : List (Event KvRequest)
late_accept = Deliver 6 ∷ Deliver 19 ∷ []

-- it is refused with the promise, which tells the proposer of no greater round
abbrev pub late_refused : List Outcome
late_refused = Done ∷ Refused fault.NotCurrent ∷ []

-- packet 19 was sent, and nothing else changed
abbrev pub with_refusal : WorldState KvRequest ℕ KvReply → WorldState KvRequest ℕ KvReply
with_refusal w = record w { packets = w.packets ++ letter 1 0 (message.Refused first_slot (ballot_of 0) (ballot_of 1)) ∷ [] }
