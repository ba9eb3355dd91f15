-- A request that is run away from its node: what is to be run, and what becomes of it when it comes back (Thomson et al. 2012,
-- section 3.2: a transaction is executed once its remote reads have come).
--     job_of w me q      what is to be run at a place of a node
--     IsNotFinished w j node fault      why what came of a job isn't taken
--     FinishedWith m w me j result after      what a job that was run makes of the world
use Rattle.std.specs.Prelude.{◌≡◌, ◌⊎◌, Option, Some, None, Result, Ok, Err}
use Rattle.calvin_types.specs.declared.fault.Fault.{Fault}
use Rattle.calvin_types.specs.declared.fault.Fault.TheVariants.{OutOfMemory, NoNode}
use Rattle.calvin_types.specs.declared.place.NodeId.{NodeId}
use Rattle.calvin_types.specs.declared.place.Place.{Place}
use Rattle.calvin_app.specs.declared.job.Job.{Job}
use Rattle.calvin_app.specs.Meaning.{Meaning}
use Rattle.calvin_order.specs.Configs.{Config}
use Rattle.calvin_sched.specs.Keeping.{IsNotDue}
use Rattle.calvin_sched.specs.Steps.{job}
use Rattle.calvin_node_acts.specs.NodeStates.{NodeState, site_of}
use Rattle.calvin_node_acts.specs.declared.act.Act.TheVariants.{Finish}
use Rattle.calvin_world.specs.declared.event.Event.TheVariants.{At}
use Rattle.calvin_world.specs.declared.event.Outcome.TheVariants.{Done}
use Rattle.calvin_world.specs.Worlds.{WorldState, node_at}
use Rattle.calvin_world.specs.SettledWorlds.{SettledStep}

module _ {Args Row : Type 0} (c : Config) where
  abbrev pub job_at : Option (NodeState Args Row) → Place → Result (Job Args Row) Fault
  job_at None q = Err NoNode
  job_at (Some x) q = job (site_of c.partitions x) q x.scheduler

  -- the node isn't there; or no job is due at the place, or another one is; or memory ran out
  abbrev pub IsNotFinished : Job Args Row → Option (NodeState Args Row) → Fault → Type 0
  IsNotFinished j None fault = fault ≡ NoNode
  IsNotFinished j (Some x) fault = IsNotDue j (job_at (Some x) j.place) fault ⊎ ((fault ≡ OutOfMemory) × (job_at (Some x) j.place ≡ Ok j))

module _ {Args Row Reply : Type 0} where
  abbrev pub job_of : WorldState Args Row Reply → NodeId → Place → Result (Job Args Row) Fault
  job_of w me q = job_at w.config (node_at w me) q

  -- the job is the one that is due, and its place is finished; or it isn't taken, and nothing changed
  abbrev pub FinishedWith : Meaning Args Row Reply → WorldState Args Row Reply → NodeId → Job Args Row → Result (Unit {0}) Fault → WorldState Args Row Reply → Type 0
  FinishedWith m w me j (Ok out) after = (job_of w me j.place ≡ Ok j) × SettledStep m w (At me (Finish j.place)) Done after
  FinishedWith m w me j (Err fault) after = (after ≡ w) × IsNotFinished w.config j (node_at w me) fault
