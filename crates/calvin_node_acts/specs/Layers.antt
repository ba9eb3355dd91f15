-- The layers of a node (Thomson et al. 2012, section 3: a sequencing layer, and below it a scheduling and a storage layer).
-- What a group agrees on stands in the first one; what that layer does is said of every node that has it.
--     Layer Args      a sequencing layer: what it is opened with, the node's name, and its data
--     Rest Args Row      what else a node has: what its rows can do, the requests to admit, its scheduler and its last snapshot
--     opened_layer config id synod epochs      a layer that is opened with a synod, after so many epochs
--     layer_of config id member sequencer merge      a layer with these parts, opened with this in code
--     rest_of points cold pending scheduler kept      the rest of a node with these parts
--     state_of l r      the data of the node that has both; of the places that are due, those that aren't done
--     node_of l r      the node: these data, and what its store is opened with
--     IsLayer config id member merge      the parts of a layer are of its store and its name
--     IsOf old new      a layer is of the same node as another, in a store of as many partitions, and has merged as many epochs
--     IsNode l scheduler      the scheduler of a node is of its layer
--     LayerDid grows result deed old new sent all      what a call made of each node with the layer, and of what it sent, by the deed
use Rattle.std.specs.Prelude.{◌≡◌, ℕ, Bool, List, Option, Result}
use Rattle.std.specs.FinMap.{empty}
use Rattle.calvin_types.specs.declared.fault.Fault.{Fault}
use Rattle.calvin_types.specs.declared.config.Config.{Config as TheConfig}
use Rattle.calvin_types.specs.declared.place.NodeId.{NodeId}
use Rattle.calvin_types.specs.Orders.{Order}
use Rattle.calvin_types.specs.Participants.{site}
use Rattle.calvin_app.specs.Rows.{Rows}
use Rattle.calvin_synod.specs.Cases.{Replica}
use Rattle.calvin_synod.specs.Deeds.{MemberState}
use Rattle.calvin_order.specs.Configs.{Config, order_config, over}
use Rattle.calvin_order.specs.Keeping.{Sequenced}
use Rattle.calvin_order.specs.Merged.{Batch}
use Rattle.calvin_order.specs.Merging.{Batches, Merging}
use Rattle.calvin_order.specs.Sequencing.{Sequencing, sequencing_from}
use Rattle.calvin_sched.specs.Keeping.{Scheduled}
use Rattle.calvin_sched.specs.Progress.{left}
use Rattle.calvin_node_packets.specs.declared.packet.Packet.{Packet}
use Rattle.calvin_node_acts.specs.NodeStates.{NodeState}
use Rattle.calvin_node_acts.specs.Handling.{NodeDeed}
use Rattle.calvin_node_acts.specs.Running.{Running, NodeDid, kept_epochs, kept_rows}

pub record Layer (Args : Type 0) : Type 0 where
  -- of the rows it says nothing
  pub config : Config
  pub id : NodeId
  pub synod : Replica (Batch Args)
  pub sequencer : Sequencing Args
  -- the batches held, by slot
  pub held : Batches Args
  -- how many epochs are merged, those of a loaded snapshot among them
  pub merged_epochs : ℕ

pub record Rest (Args Row : Type 0) : Type 0 where
  pub points : Bool
  pub cold : Bool
  pub pending : Order Args
  pub scheduler : Scheduled Args Row
  pub kept : Option (ℕ × Rows Row)

module _ {Args : Type 0} where
  abbrev pub opened_layer : Config → NodeId → Replica (Batch Args) → ℕ → Layer Args
  opened_layer config id synod epochs = record {
    config = config;
    id = id;
    synod = synod;
    sequencer = sequencing_from epochs;
    held = empty;
    merged_epochs = epochs;
  }

  abbrev pub layer_of : TheConfig → NodeId → MemberState (Batch Args) → Sequenced Args → Merging Args → Layer Args
  layer_of config id member sequencer merge = record {
    config = record (order_config config) { delay = sequencer.delay };
    id = id;
    synod = member.replica;
    sequencer = sequencer.sequencing;
    held = merge.held;
    merged_epochs = merge.next;
  }

  pub record IsOf (old new : Layer Args) : Type 0 where
    pub partitions : new.config.partitions ≡ old.config.partitions
    pub id : new.id ≡ old.id
    pub merged : new.merged_epochs ≡ old.merged_epochs

  pub record IsLayer (config : TheConfig) (id : NodeId) (member : MemberState (Batch Args)) (merge : Merging Args) : Type 0 where
    pub group_size : member.size ≡ config.replicas
    pub replica : member.me ≡ id.replica
    pub groups : merge.config ≡ order_config config

module _ {Args Row : Type 0} where
  abbrev pub rest_of : Bool → Bool → Order Args → Scheduled Args Row → Option (ℕ × Rows Row) → Rest Args Row
  rest_of points cold pending scheduler kept = record { points = points; cold = cold; pending = pending; scheduler = scheduler; kept = kept }

  abbrev pub state_of : Layer Args → Rest Args Row → NodeState Args Row
  state_of l r = record {
    id = l.id;
    synod = l.synod;
    sequencer = l.sequencer;
    held = l.held;
    merged_epochs = l.merged_epochs;
    due = left r.scheduler.scheduling r.scheduler.due;
    pending = r.pending;
    scheduler = r.scheduler.scheduling;
    kept_epochs = kept_epochs r.kept;
    kept_rows = kept_rows r.kept;
  }

  abbrev pub node_of : Layer Args → Rest Args Row → Running Args Row
  node_of l r = record { config = over l.config r.points r.cold; state = state_of l r }

  pub record IsNode (l : Layer Args) (scheduler : Scheduled Args Row) : Type 0 where
    pub here : scheduler.here ≡ site l.config.partitions l.id.partition
    -- the scheduler was told of each epoch that is merged
    pub merged : scheduler.merged ≡ l.merged_epochs

module _ {Args Row Reply : Type 0} where
  abbrev pub LayerDid : Bool → Result (Unit {0}) Fault → (Running Args Row → NodeDeed Args Row Reply) → Layer Args → Layer Args → List (Packet Args Row Reply) → List (Packet Args Row Reply) → Type 0
  LayerDid grows result deed old new sent all = (rest : Rest Args Row) → NodeDid grows result (deed (node_of old rest)) (node_of old rest) (node_of new rest) sent all
