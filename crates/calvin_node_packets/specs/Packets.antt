-- What nodes send each other and clients (Thomson et al. 2012, section 3.1: batches; section 3.2: rows that are read;
-- section 4: rows that are to be in memory. "Paxos Made Simple", section 2: the synod's messages).
use Rattle.std.specs.Prelude.{◌≡◌, ℕ, Bool, true, false, ◌&&◌, not, ◌==◌, List, [], ◌∷◌, map, Option, Some, None, slice_get, slice_set}
use Rattle.std.specs.List.{filter, range_with_len}
use Rattle.calvin_types.specs.declared.place.NodeId.{NodeId}
use Rattle.calvin_types.specs.declared.place.Slot.{Slot}
use Rattle.calvin_types.specs.declared.place.Place.{Place}
use Rattle.calvin_types.specs.declared.place.RequestId.{RequestId}
use Rattle.calvin_types.specs.declared.txn.Txn.{Txn}
use Rattle.calvin_types.specs.Participants.{site, has_local_key}
use Rattle.calvin_app.specs.declared.answer.Answer.{Answer}
use Rattle.calvin_lock.specs.Local.{local_sets}
use Rattle.calvin_synod.specs.Cases.{Letters, Silent, ToOne, ToAll, has_batch}
use Rattle.calvin_order.specs.Merged.{Batch}
use Rattle.calvin_node_packets.specs.declared.packet.Address.{Address}
use Rattle.calvin_node_packets.specs.declared.packet.Address.TheVariants.{AtNode, AtClient}
use Rattle.calvin_node_packets.specs.declared.packet.Content.{Content}
use Rattle.calvin_node_packets.specs.declared.packet.Content.TheVariants.{Synod, Decided, Reads, Warm, Replies}
use Rattle.calvin_node_packets.specs.declared.packet.Packet.{Packet}

-- what is sent, and how many more packets are sure to find room
pub record Outgoing (Args Row Reply : Type 0) : Type 0 where
  pub packets : List (Packet Args Row Reply)
  pub room : ℕ

-- whether two names are of one node
abbrev pub same_node : NodeId → NodeId → Bool
same_node a b = (a.replica == b.replica) && (a.partition == b.partition)

-- whether a packet is for a node
abbrev pub is_for : Address → NodeId → Bool
is_for (AtNode id) me = same_node id me
is_for (AtClient client) me = false

-- the other partitions, ascending
abbrev pub others : ℕ → ℕ → List ℕ
others parts p = filter (λ q. not (q == p)) (range_with_len 0 parts)

module _ {Args : Type 0} where
  -- the partitions that store a declared key
  abbrev pub participants : ℕ → Txn Args → List ℕ
  participants parts t = filter (λ p. has_local_key (site parts p) t) (range_with_len 0 parts)

module _ {Args Row Reply : Type 0} where
  -- a batch is told with it
  abbrev pub tells_batch : Content Args Row Reply → Bool
  tells_batch (Synod message) = has_batch message
  tells_batch (Decided slot batch) = true
  tells_batch _ = false

  -- each of these partitions of the own replica is to have the rows of its declared keys in memory
  abbrev pub warm_packets : ℕ → NodeId → Txn Args → List ℕ → List (Packet Args Row Reply)
  warm_packets parts me t ps = map (λ p. record { from = me; to = AtNode (record { replica = me.replica; partition = p }); content = Warm (local_sets (site parts p) t.sets) }) ps

  -- the same to each of these partitions of a replica
  abbrev pub to_each : NodeId → ℕ → Content Args Row Reply → List ℕ → List (Packet Args Row Reply)
  to_each me replica content ps = map (λ p. record { from = me; to = AtNode (record { replica = replica; partition = p }); content = content }) ps

  -- the same to each replica of the own group, ascending
  abbrev pub to_replicas : ℕ → NodeId → Content Args Row Reply → List (Packet Args Row Reply)
  to_replicas size me content = map (λ r. record { from = me; to = AtNode (record { replica = r; partition = me.partition }); content = content }) (range_with_len 0 size)

  -- what a synod sends: to one or all replicas of its own group
  abbrev pub synod_packets : ℕ → NodeId → Letters (Batch Args) → List (Packet Args Row Reply)
  synod_packets size me Silent = []
  synod_packets size me (ToOne r m) = record { from = me; to = AtNode (record { replica = r; partition = me.partition }); content = Synod m } ∷ []
  synod_packets size me (ToAll m) = to_replicas size me (Synod m)

  -- a batch that is decided here is told to the other nodes of the own replica
  abbrev pub telling : ℕ → NodeId → Option (Slot × Batch Args) → List (Packet Args Row Reply)
  telling parts me None = []
  telling parts me (Some given) = to_each me me.replica (Decided given.0 given.1) (others parts me.partition)

  -- it has neither rows nor sets nor an answer
  abbrev pub is_light : Content Args Row Reply → Bool
  is_light (Reads place rows) = false
  is_light (Warm sets) = false
  is_light (Replies place id attempt answer) = false
  is_light _ = true

  -- a packet is taken out, and another stands in its place: the same one, if it isn't light
  pub record IsLent (before after : List (Packet Args Row Reply)) (number : ℕ) (packet : Packet Args Row Reply) : Type 0 where
    pub there : slice_get before number ≡ Some packet
    pub other : Packet Args Row Reply
    pub after_is : after ≡ slice_set before number other
    pub alike : is_light other.content ≡ is_light packet.content
    pub same : is_light packet.content ≡ false → other ≡ packet

  -- a packet can be put into this place: where it isn't light it stands there
  pub record CanBePut (packets : List (Packet Args Row Reply)) (number : ℕ) (packet : Packet Args Row Reply) : Type 0 where
    pub other : Packet Args Row Reply
    pub there : slice_get packets number ≡ Some other
    pub alike : is_light other.content ≡ is_light packet.content
    pub same : is_light packet.content ≡ false → other ≡ packet

  -- the place, the name and the attempt of the request that it replies to
  abbrev pub replied : Content Args Row Reply → Option (Place × RequestId × ℕ)
  replied (Replies place id attempt answer) = Some (place, id, attempt)
  replied _ = None

  -- the answer of a reply
  abbrev pub answered : Content Args Row Reply → Option (Answer Reply)
  answered (Replies place id attempt answer) = Some answer
  answered _ = None
