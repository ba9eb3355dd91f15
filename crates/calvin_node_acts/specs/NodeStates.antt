-- The data of a node: partition p of replica r (Thomson et al. 2012, section 3: nodes are arranged as replicas, and each
-- replica is divided into partitions).
use Rattle.std.specs.Prelude.{ℕ, ◌==◌, if◌then◌else◌, List, []}
use Rattle.std.specs.FinMap.{empty, insert}
use Rattle.calvin_types.specs.declared.place.NodeId.{NodeId}
use Rattle.calvin_types.specs.declared.place.Place.{Place}
use Rattle.calvin_types.specs.declared.place.Slot.{Slot}
use Rattle.calvin_types.specs.Orders.{Order}
use Rattle.calvin_types.specs.Participants.{Site, site}
use Rattle.calvin_app.specs.Rows.{Rows}
use Rattle.calvin_synod.specs.Cases.{Replica, fresh}
use Rattle.calvin_order.specs.Merged.{Batch, end_of}
use Rattle.calvin_order.specs.Merging.{Batches}
use Rattle.calvin_order.specs.Sequencing.{Sequencing, sequencing_from, decide}
use Rattle.calvin_sched.specs.Scheduling.{Scheduling, opened}

-- all that a node knows. The last snapshot counts its epochs: none is a snapshot of no epochs, without rows
pub record NodeState (Args Row : Type 0) : Type 0 where
  pub id : NodeId
  pub synod : Replica (Batch Args)
  pub sequencer : Sequencing Args
  -- the batches held, by slot
  pub held : Batches Args
  -- how many epochs are merged, those of a loaded snapshot among them
  pub merged_epochs : ℕ
  -- the places of requests with a key here that were merged since the last restart
  pub due : List Place
  -- the merged requests that are still to be admitted
  pub pending : Order Args
  pub scheduler : Scheduling Args Row
  -- the last snapshot: of how many epochs, and its rows
  pub kept_epochs : ℕ
  pub kept_rows : Rows Row

module _ {Args Row : Type 0} where
  -- a node that is opened with a synod, and with a snapshot of so many epochs
  abbrev pub node_from : NodeId → Replica (Batch Args) → ℕ → Rows Row → NodeState Args Row
  node_from id synod epochs rows = record {
    id = id;
    synod = synod;
    sequencer = sequencing_from epochs;
    held = empty;
    merged_epochs = epochs;
    due = [];
    pending = [];
    scheduler = opened (end_of epochs) rows;
    kept_epochs = epochs;
    kept_rows = rows;
  }

  -- a node at first
  abbrev pub new_node : NodeId → NodeState Args Row
  new_node id = node_from id fresh 0 empty

  abbrev pub site_of : ℕ → NodeState Args Row → Site
  site_of parts x = site parts x.id.partition

  -- the slot of an epoch and the own group
  abbrev pub own_slot : NodeState Args Row → ℕ → Slot
  own_slot x e = record { epoch = e; group = x.id.partition }

  abbrev pub with_synod : NodeState Args Row → Replica (Batch Args) → NodeState Args Row
  with_synod x s = record x { synod = s }

  abbrev pub with_sequencer : NodeState Args Row → Sequencing Args → NodeState Args Row
  with_sequencer x s = record x { sequencer = s }

  abbrev pub with_scheduler : NodeState Args Row → Scheduling Args Row → Order Args → NodeState Args Row
  with_scheduler x s pending = record x { scheduler = s; pending = pending }

  -- the batch of a slot is held, and told to the sequencer where the group is the own one
  abbrev pub holding : NodeState Args Row → Slot → Batch Args → NodeState Args Row
  holding x slot batch = record x {
    sequencer = if slot.group == x.id.partition then decide slot.epoch batch x.sequencer else x.sequencer;
    held = insert x.held slot batch;
  }

  -- what a restart leaves: the synod's durable part, here as it is after one, and the last snapshot
  abbrev pub restarted : NodeState Args Row → Replica (Batch Args) → NodeState Args Row
  restarted x s = node_from x.id s x.kept_epochs x.kept_rows
