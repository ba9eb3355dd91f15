-- A world in code: what is to be run at a node, and what becomes of it.
--     job_is      what the node says is to be run is what the world says
--     no_job, not_there      of a node that isn't there nothing is
--     finished, finished_kept      what a node makes of what came of a job is a step of its world, which stays opened and reached
use Rattle.std.proofs.Common.{◌≡◌, ℕ, List, map, Some, None, Result, Ok, Err, refl, sym, ap, subst, ◌∙◌, slice_get, slice_set}
use Rattle.calvin_types.specs.declared.fault.Fault.{Fault}
use Rattle.calvin_types.specs.declared.fault.Fault.TheVariants.{NoNode}
use Rattle.calvin_types.specs.declared.place.NodeId.{NodeId}
use Rattle.calvin_types.specs.declared.place.Place.{Place}
use Rattle.calvin_app.specs.declared.job.Job.{Job}
use Rattle.calvin_app.specs.Meaning.{Meaning}
use Rattle.calvin_bench.proofs.Lists.{set_same, get_map}
use Rattle.calvin_order.specs.Configs.{Config}
use Rattle.calvin_sched.specs.Steps.{job}
use Rattle.calvin_node_acts.specs.NodeStates.{site_of}
use Rattle.calvin_node_acts.specs.Running.{Running, NodeFinished}
use Rattle.calvin_node_acts.specs.declared.act.Act.TheVariants.{Finish}
use Rattle.calvin_node_packets.specs.declared.packet.Packet.{Packet}
use Rattle.calvin_world.specs.Jobs.{job_at, job_of, IsNotFinished, FinishedWith}
use Rattle.calvin_world.specs.RunningWorlds.{world_of, IsOpened, IsReached}
use Rattle.calvin_world.specs.Worlds.{WorldState, index_of, node_at}
use Rattle.calvin_world.proofs.InCode.{acted, acted_kept}

module _ {Args Row Reply : Type 0} (w : WorldState Args Row Reply) (id : NodeId) (none : node_at w id ≡ None) where
  pub no_job : (q : Place) → Err NoNode ≡ job_of w id q
  no_job q = ap (λ o. job_at w.config o q) (sym none)

  pub not_there : (m : Meaning Args Row Reply) (j : Job Args Row) → FinishedWith m w id j (Err NoNode) w
  not_there m j = (refl, subst (λ o. IsNotFinished w.config j o NoNode) (sym none) refl)

module _ {Args Row Reply : Type 0} (c : Config) (nodes : List (Running Args Row)) (packets : List (Packet Args Row Reply)) (is : IsOpened c nodes)
    (id : NodeId) (at : ℕ) (found : node_at (world_of c nodes packets) id ≡ slice_get (map (λ n. n.state) nodes) at) (x : Running Args Row) (there : slice_get nodes at ≡ Some x) where
  node_there : node_at (world_of c nodes packets) id ≡ Some x.state
  node_there = found ∙ get_map (λ (n : Running Args Row). n.state) nodes at x there

  pub job_is : (q : Place) → job (site_of x.config.partitions x.state) q x.state.scheduler ≡ job_of (world_of c nodes packets) id q
  job_is q = (λ i. job_at (is.each at x there i) (Some x.state) q) ∙ ap (λ o. job_at c o q) (sym node_there)

  module _ (m : Meaning Args Row Reply) (reached : IsReached m (world_of c nodes packets)) (at_is : at ≡ index_of c.partitions id) (y : Running Args Row) (j : Job Args Row) where
    same : (all : List (Packet Args Row Reply)) → y ≡ x → all ≡ packets → slice_set nodes at y ≡ nodes
    same all now none = ap (slice_set nodes at) now ∙ set_same nodes at x there

    unchanged : (all : List (Packet Args Row Reply)) → y ≡ x → all ≡ packets → world_of c (slice_set nodes at y) all ≡ world_of c nodes packets
    unchanged all now none = λ i. world_of c (same all now none i) (none i)

    pub finished : (r : Result (Unit {0}) Fault) (all : List (Packet Args Row Reply)) → NodeFinished m j r x y packets all → FinishedWith m (world_of c nodes packets) id j r (world_of c (slice_set nodes at y) all)
    finished (Ok out) all did = (sym (job_is j.place) ∙ did.0, acted m c nodes packets is reached id at at_is found x y there (Finish j.place) (Ok out) all did.1)
    finished (Err fault) all did = (
      unchanged all did.0 did.1,
      subst (λ o. IsNotFinished c j o fault) (sym node_there) (subst (λ (k : Config). IsNotFinished k j (Some x.state) fault) (is.each at x there) did.2),
    )

    pub finished_kept : (r : Result (Unit {0}) Fault) (all : List (Packet Args Row Reply)) → NodeFinished m j r x y packets all → IsOpened c (slice_set nodes at y) × IsReached m (world_of c (slice_set nodes at y) all)
    finished_kept (Ok out) all did = acted_kept m c nodes packets is reached id at at_is found x y there (Finish j.place) (Ok out) all did.1
    finished_kept (Err fault) all did = (subst (IsOpened c) (sym (same all did.0 did.1)) is, subst (IsReached m) (sym (unchanged all did.0 did.1)) reached)
