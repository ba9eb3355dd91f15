-- A node in code: what it is opened with, and its data. Of the places that are due it keeps those that aren't done, which
-- says the same of where it stands.
--     Running Args Row      what its store is opened with, and its data
--     settled x      the data with those of the places that are due that aren't done
--     kept_epochs kept      how many epochs the last snapshot has
--     kept_rows kept      its rows
--     NodeFinished m job result old new sent all      what a job that was run made of a node, and of what it sent
--     NodeDid grows result deed old new sent all      what a call made of a node, and of what it sent, by the deed
use Rattle.std.specs.Prelude.{◌≡◌, ◌⊎◌, ℕ, suc, ◌++◌, Bool, true, List, Option, Some, None, Result, Ok, Err}
use Rattle.std.specs.FinMap.{empty}
use Rattle.calvin_types.specs.declared.fault.Fault.{Fault}
use Rattle.calvin_types.specs.declared.fault.Fault.TheVariants.{OutOfMemory}
use Rattle.calvin_types.specs.Deeds.{Refuses, Does}
use Rattle.calvin_app.specs.declared.job.Job.{Job}
use Rattle.calvin_app.specs.Meaning.{Meaning}
use Rattle.calvin_app.specs.Rows.{Rows}
use Rattle.calvin_order.specs.Configs.{Config}
use Rattle.calvin_sched.specs.Keeping.{IsNotDue}
use Rattle.calvin_sched.specs.Progress.{left}
use Rattle.calvin_sched.specs.Steps.{job}
use Rattle.calvin_node_packets.specs.declared.packet.Packet.{Packet}
use Rattle.calvin_node_acts.specs.NodeStates.{NodeState, site_of}
use Rattle.calvin_node_acts.specs.Handling.{NodeDeed}
use Rattle.calvin_node_acts.specs.Acting.{finish}

pub record Running (Args Row : Type 0) : Type 0 where
  pub config : Config
  pub state : NodeState Args Row

module _ {Args Row : Type 0} where
  abbrev pub settled : NodeState Args Row → NodeState Args Row
  settled x = record x { due = left x.scheduler x.due }

module _ {Row : Type 0} where
  abbrev pub kept_epochs : Option (ℕ × Rows Row) → ℕ
  kept_epochs None = 0
  kept_epochs (Some kept) = suc kept.0

  abbrev pub kept_rows : Option (ℕ × Rows Row) → Rows Row
  kept_rows None = empty
  kept_rows (Some kept) = kept.1

module _ {Args Row Reply : Type 0} where
  -- the deed takes effect: the node is what it leaves, settled, and its packets are sent after the others; or it is its refusal, and nothing changed; or memory ran out, where something grows, and nothing changed
  abbrev pub NodeDid : Bool → Result (Unit {0}) Fault → NodeDeed Args Row Reply → Running Args Row → Running Args Row → List (Packet Args Row Reply) → List (Packet Args Row Reply) → Type 0
  NodeDid grows (Ok out) (Refuses fault) old new sent all = ⊥
  NodeDid grows (Ok out) (Does next packets) old new sent all = (new ≡ record old { state = settled next }) × (all ≡ sent ++ packets)
  NodeDid grows (Err refusal) (Refuses fault) old new sent all = (refusal ≡ fault) × (new ≡ old) × (all ≡ sent)
  NodeDid grows (Err refusal) (Does next packets) old new sent all = (grows ≡ true) × (refusal ≡ OutOfMemory) × (new ≡ old) × (all ≡ sent)

  -- the job is the one that is due, and the finish of its place takes effect; or it isn't due, or memory ran out, and nothing changed
  abbrev pub NodeFinished : Meaning Args Row Reply → Job Args Row → Result (Unit {0}) Fault → Running Args Row → Running Args Row → List (Packet Args Row Reply) → List (Packet Args Row Reply) → Type 0
  NodeFinished m j (Ok out) old new sent all =
      (job (site_of old.config.partitions old.state) j.place old.state.scheduler ≡ Ok j) × NodeDid true (Ok out) (finish m old.config j.place old.state) old new sent all
  NodeFinished m j (Err fault) old new sent all =
      (new ≡ old) × (all ≡ sent) × (IsNotDue j (job (site_of old.config.partitions old.state) j.place old.state.scheduler) fault
      ⊎ ((fault ≡ OutOfMemory) × (job (site_of old.config.partitions old.state) j.place old.state.scheduler ≡ Ok j)))
