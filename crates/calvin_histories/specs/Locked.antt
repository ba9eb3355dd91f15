-- A node under its lock: what its own history makes of it. The notions are of this project.
--     Lived Args Row Reply      what its store was opened with, its name, and its history
--     IsLife m lived state sent      the history gives these data, and has sent these packets
--     HasLived m lived state      the history gives these data
--     IsNoEntry m lived entry fault      why an event is no entry that comes next
--     IsNoFinish m lived j fault      why what came of a job isn't taken
--     lived_at m log i, AreLockedOf m log nodes      the nodes of a store, each with the part of its list of events at it
use Rattle.std.specs.Prelude.{◌≡◌, ◌⊎◌, ℕ, ◌*◌, List, length, Some, slice_get}
use Rattle.calvin_types.specs.declared.fault.Fault.{Fault}
use Rattle.calvin_types.specs.declared.fault.Fault.TheVariants.{OutOfMemory}
use Rattle.calvin_types.specs.declared.place.NodeId.{NodeId}
use Rattle.calvin_types.specs.Deeds.{Refuses}
use Rattle.calvin_app.specs.declared.job.Job.{Job}
use Rattle.calvin_app.specs.Meaning.{Meaning}
use Rattle.calvin_order.specs.Configs.{Config}
use Rattle.calvin_sched.specs.Keeping.{IsNotDue}
use Rattle.calvin_sched.specs.Steps.{job}
use Rattle.calvin_node_packets.specs.declared.packet.Packet.{Packet}
use Rattle.calvin_node_acts.specs.NodeStates.{NodeState, site_of}
use Rattle.calvin_node_acts.specs.Handling.{NodeDeed}
use Rattle.calvin_world.specs.Worlds.{opening}
use Rattle.calvin_book.specs.Books.{Log}
use Rattle.calvin_histories.specs.declared.entry.Entry.{Entry}
use Rattle.calvin_histories.specs.Histories.{id_of, new_life, deed_in, life_of, part_at}

pub record Lived (Args Row Reply : Type 0) : Type 0 where
  pub config : Config
  pub id : NodeId
  pub history : List (Entry Args Row Reply)

module _ {Args Row Reply : Type 0} (m : Meaning Args Row Reply) where
  abbrev pub IsLife : Lived Args Row Reply → NodeState Args Row → List (Packet Args Row Reply) → Type 0
  IsLife n state sent = life_of m n.config (new_life n.id) n.history ≡ Some (record { state = state; sent = sent })

  abbrev pub HasLived : Lived Args Row Reply → NodeState Args Row → Type 0
  HasLived n state = (sent : List (Packet Args Row Reply)) × IsLife n state sent

  -- its case says so, or memory ran out
  abbrev pub IsNoEntry : Lived Args Row Reply → Entry Args Row Reply → Fault → Type 0
  IsNoEntry n entry fault = ((state : NodeState Args Row) × HasLived n state × ◌≡◌ {A = NodeDeed Args Row Reply} (deed_in m n.config entry state) (Refuses fault)) ⊎ (fault ≡ OutOfMemory)

  -- no such job is due there, or memory ran out
  abbrev pub IsNoFinish : Lived Args Row Reply → Job Args Row → Fault → Type 0
  IsNoFinish n j fault = ((state : NodeState Args Row) × HasLived n state × IsNotDue j (job (site_of n.config.partitions state) j.place state.scheduler) fault) ⊎ (fault ≡ OutOfMemory)

  -- the node at a place, to which nothing happened but what the list says
  abbrev pub lived_at : Log Args → ℕ → Lived Args Row Reply
  lived_at log i = record { config = log.config; id = id_of log.config.partitions i; history = part_at m (opening log.config) log.events (id_of log.config.partitions i) }

  pub record AreLockedOf (log : Log Args) (nodes : List (Lived Args Row Reply)) : Type 0 where
    pub number : length nodes ≡ log.config.replicas * log.config.partitions
    pub each : (i : ℕ) (n : Lived Args Row Reply) → slice_get nodes i ≡ Some n → n ≡ lived_at log i
