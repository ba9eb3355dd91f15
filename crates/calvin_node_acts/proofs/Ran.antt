-- What running the request at a place makes of a node.
use Rattle.std.proofs.Common.{◌≡◌, ℕ, true, List, [], ◌∷◌, ◌++◌, Result, Ok, Err, refl, sym, subst, ◌∙◌}
use Rattle.calvin_types.specs.declared.fault.Fault.{Fault}
use Rattle.calvin_types.specs.declared.place.Place.{Place}
use Rattle.calvin_types.specs.declared.place.RequestId.{RequestId}
use Rattle.calvin_types.specs.Participants.{Site}
use Rattle.calvin_app.specs.declared.answer.Answer.{Answer}
use Rattle.calvin_app.specs.declared.job.Job.{Job}
use Rattle.calvin_app.specs.Meaning.{Meaning}
use Rattle.calvin_app.specs.Serial.{answer_on}
use Rattle.calvin_order.specs.Configs.{Config}
use Rattle.calvin_sched.specs.Keeping.{IsNotRun}
use Rattle.calvin_sched.specs.Scheduling.{Scheduling}
use Rattle.calvin_sched.specs.Steps.{job, after_job, finish_with}
use Rattle.calvin_node_packets.specs.declared.packet.Packet.{Packet}
use Rattle.calvin_node_packets.specs.declared.packet.Address.TheVariants.{AtClient}
use Rattle.calvin_node_packets.specs.declared.packet.Content.TheVariants.{Replies}
use Rattle.calvin_node_acts.specs.NodeStates.{NodeState, site_of}
use Rattle.calvin_node_acts.specs.Acting.{finish, finish_by}
use Rattle.calvin_node_acts.specs.Running.{NodeDid}
use Rattle.calvin_node_acts.proofs.Settling.{running, with_steps}

module _ {Args Row Reply : Type 0} (m : Meaning Args Row Reply) (c : Config) (x : NodeState Args Row) (q : Place) (sent : List (Packet Args Row Reply)) where
  abbrev here : Site
  here = site_of c.partitions x

  -- nothing is due there, or memory ran out
  pub not_run : (room : ℕ) (f : Fault) (due : Result (Job Args Row) Fault) → job here q x.scheduler ≡ due → IsNotRun m here room due f → NodeDid true (Err f) (finish m c q x) (running c x) (running c x) sent sent
  not_run room f (Err g) is why = subst (λ r. NodeDid true (Err f) (finish_by x q (finish_with m here x.scheduler r)) (running c x) (running c x) sent sent) (sym is) (why, refl, refl)
  not_run room f (Ok j) is why = subst (λ r. NodeDid true (Err f) (finish_by x q (finish_with m here x.scheduler r)) (running c x) (running c x) sent sent) (sym is) (refl, why.0, refl, refl)

  -- what is due is run, and its client answered
  pub ran : (j : Job Args Row) → job here q x.scheduler ≡ Ok j → (s : Scheduling Args Row) → s ≡ after_job m here j x.scheduler → (name : RequestId × ℕ) → name ≡ (j.txn.id, j.txn.attempt) → (answer : Answer Reply) → answer ≡ answer_on m j.txn j.view
      → (all : List (Packet Args Row Reply)) → all ≡ sent ++ record { from = x.id; to = AtClient name.0.client; content = Replies q name.0 name.1 answer } ∷ []
      → NodeDid true (Ok tt) (finish m c q x) (running c x) (running c (with_steps x s x.pending)) sent all
  ran j is s after name named answer told all sends =
      subst (λ r. NodeDid true (Ok tt) (finish_by x q (finish_with m here x.scheduler r)) (running c x) (running c (with_steps x s x.pending)) sent all) (sym is) (
        (λ i. running c (with_steps x (after i) x.pending)),
        sends ∙ (λ i. sent ++ record { from = x.id; to = AtClient (named i).0.client; content = Replies q (named i).0 (named i).1 (told i) } ∷ []),
      )
