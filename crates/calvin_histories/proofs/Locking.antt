-- A node under its lock, as its history goes on.
--     did_entry      an entry that took effect is the last one of the history that gives the node
--     still_life, config_kept      what stays
--     no_entry      one that was refused leaves the node as its history gives it, and why
--     no_finish      why what came of a job isn't taken
use Rattle.std.proofs.Common.{◌≡◌, ◌⊎◌, Bool, List, [], ◌∷◌, ◌++◌, Some, Result, Ok, Err, inl, inr, refl, sym, ap, subst, ◌∙◌}
use Rattle.calvin_types.specs.declared.fault.Fault.{Fault}
use Rattle.calvin_types.specs.declared.fault.Fault.TheVariants.{OutOfMemory}
use Rattle.calvin_types.specs.declared.place.NodeId.{NodeId}
use Rattle.calvin_types.specs.Deeds.{Refuses, Does}
use Rattle.calvin_app.specs.declared.job.Job.{Job}
use Rattle.calvin_app.specs.Meaning.{Meaning}
use Rattle.calvin_sched.specs.Keeping.{IsNotDue}
use Rattle.calvin_sched.specs.Steps.{job}
use Rattle.calvin_node_acts.specs.NodeStates.{site_of}
use Rattle.calvin_node_packets.specs.declared.packet.Packet.{Packet}
use Rattle.calvin_node_acts.specs.Handling.{NodeDeed}
use Rattle.calvin_node_acts.specs.Running.{Running, NodeDid}
use Rattle.calvin_histories.specs.declared.entry.Entry.{Entry}
use Rattle.calvin_histories.specs.Histories.{new_life, lives_on, deed_in, life_of}
use Rattle.calvin_histories.specs.Locked.{IsLife, IsNoEntry, IsNoFinish}
use Rattle.calvin_histories.proofs.Lives.{life_more}

module _ {Args Row Reply : Type 0} (m : Meaning Args Row Reply) (node : Running Args Row) (id : NodeId) (entries : List (Entry Args Row Reply)) (sent : List (Packet Args Row Reply)) (entry : Entry Args Row Reply)
    (lived : IsLife m (record { config = node.config; id = id; history = entries }) node.state sent) (grows : Bool) where
  -- what a node made of the entry
  abbrev pub Made : Result (Unit {0}) Fault → Running Args Row → List (Packet Args Row Reply) → Type 0
  Made result after all = NodeDid grows result (deed_in m node.config entry node.state) node after sent all

  pub config_kept : (result : Result (Unit {0}) Fault) (after : Running Args Row) (all : List (Packet Args Row Reply)) → Made result after all → after.config ≡ node.config
  config_kept result after all did = go result (deed_in m node.config entry node.state) did
    where
      go : (r : Result (Unit {0}) Fault) (d : NodeDeed Args Row Reply) → NodeDid grows r d node after sent all → after.config ≡ node.config
      go (Ok out) (Refuses f) did = absurd did
      go (Ok out) (Does next packets) did = ap (λ (n : Running Args Row). n.config) did.0
      go (Err e) (Refuses f) did = ap (λ (n : Running Args Row). n.config) did.1
      go (Err e) (Does next packets) did = ap (λ (n : Running Args Row). n.config) did.2

  pub did_entry : (out : Unit {0}) (after : Running Args Row) (all : List (Packet Args Row Reply)) → Made (Ok out) after all → (longer : List (Entry Args Row Reply)) → longer ≡ entries ++ entry ∷ []
      → IsLife m (record { config = after.config; id = id; history = longer }) after.state all
  did_entry out after all did longer more =
      (λ i. life_of m (config_kept (Ok out) after all did i) (new_life id) (more i))
      ∙ life_more m node.config (new_life id) entries entry (record { state = node.state; sent = sent }) lived
      ∙ go (deed_in m node.config entry node.state) did
    where
      go : (d : NodeDeed Args Row Reply) → NodeDid grows (Ok out) d node after sent all → lives_on (record { state = node.state; sent = sent }) d ≡ Some (record { state = after.state; sent = all })
      go (Refuses f) did = absurd did
      go (Does next packets) did = λ i. Some (record { state = (sym did.0 i).state; sent = sym did.1 i })

  pub no_entry : (fault : Fault) (after : Running Args Row) (all : List (Packet Args Row Reply)) → Made (Err fault) after all → (after ≡ node) × (all ≡ sent) × IsNoEntry m (record { config = node.config; id = id; history = entries }) entry fault
  no_entry fault after all did = go (deed_in m node.config entry node.state) refl did
    where
      go : (d : NodeDeed Args Row Reply) → deed_in m node.config entry node.state ≡ d → NodeDid grows (Err fault) d node after sent all → (after ≡ node) × (all ≡ sent) × IsNoEntry m (record { config = node.config; id = id; history = entries }) entry fault
      go (Refuses f) is did = (did.1, did.2, inl (node.state, (sent, lived), is ∙ ap Refuses (sym did.0)))
      go (Does next packets) is did = (did.2, did.3, inr did.1)

  -- where nothing changed the history gives the same
  pub still_life : (after : Running Args Row) (all : List (Packet Args Row Reply)) (items : List (Entry Args Row Reply)) → after ≡ node → all ≡ sent → items ≡ entries → IsLife m (record { config = after.config; id = id; history = items }) after.state all
  still_life after all items same none is = subst (λ (z : Running Args Row × (List (Packet Args Row Reply) × List (Entry Args Row Reply))). IsLife m (record { config = z.0.config; id = id; history = z.1.1 }) z.0.state z.1.0) (λ i. (sym same i, (sym none i, sym is i))) lived

  pub no_finish : (j : Job Args Row) (fault : Fault) → (IsNotDue j (job (site_of node.config.partitions node.state) j.place node.state.scheduler) fault ⊎ ((fault ≡ OutOfMemory) × (job (site_of node.config.partitions node.state) j.place node.state.scheduler ≡ Ok j)))
      → IsNoFinish m (record { config = node.config; id = id; history = entries }) j fault
  no_finish j fault (inl not) = inl (node.state, (sent, lived), not)
  no_finish j fault (inr want) = inr want.0
