-- An event that is refused changes nothing in a world in code.
--     refused_keeps, err_keeps      so it is by how the event ended, and by what its call answered
use Rattle.std.proofs.Common.{◌≡◌, inl, inr, Option, Some, None, Result, Ok, Err, refl, sym, ap, ◌∙◌, slice_get}
use Rattle.std.specs.Prelude.{OnErr}
use Rattle.calvin_types.specs.declared.fault.Fault.{Fault}
use Rattle.calvin_types.specs.declared.place.NodeId.{NodeId}
use Rattle.calvin_types.specs.Deeds.{Refuses, Does}
use Rattle.calvin_app.specs.Meaning.{Meaning}
use Rattle.calvin_node_acts.specs.NodeStates.{NodeState}
use Rattle.calvin_node_acts.specs.Handling.{NodeDeed, handle}
use Rattle.calvin_node_acts.specs.Acting.{deed_of}
use Rattle.calvin_node_packets.specs.declared.packet.Address.{Address}
use Rattle.calvin_node_packets.specs.declared.packet.Address.TheVariants.{AtNode, AtClient}
use Rattle.calvin_node_packets.specs.declared.packet.Packet.{Packet}
use Rattle.calvin_world.specs.declared.event.Event.{Event}
use Rattle.calvin_world.specs.declared.event.Event.TheVariants.{At, Deliver}
use Rattle.calvin_world.specs.declared.event.Outcome.{Outcome}
use Rattle.calvin_world.specs.declared.event.Outcome.TheVariants.{Done, Refused}
use Rattle.calvin_world.specs.RunningWorlds.{IsReached}
use Rattle.calvin_world.specs.SettledWorlds.{settled_world, outcome_of, SettledStep}
use Rattle.calvin_world.specs.Worlds.{WorldState, node_at, carry_out, at_node, deliver_to, deliver, happens}
use Rattle.calvin_world.proofs.InCode.{steady}

not_refused : {f : Fault} → Done ≡ Refused f → ⊥
not_refused e = cc

module _ {Args Row Reply : Type 0} (m : Meaning Args Row Reply) where
  kept_deed : (w : WorldState Args Row Reply) (me : NodeId) (d : NodeDeed Args Row Reply) (f : Fault) → (carry_out w me d).0 ≡ Refused f → (carry_out w me d).1 ≡ w
  kept_deed w me (Refuses g) f e = refl
  kept_deed w me (Does next sent) f e = absurd (not_refused e)

  kept_node : (w : WorldState Args Row Reply) (me : NodeId) (act : NodeState Args Row → NodeDeed Args Row Reply) (o : Option (NodeState Args Row)) (f : Fault) → (at_node w me act o).0 ≡ Refused f → (at_node w me act o).1 ≡ w
  kept_node w me act None f e = refl
  kept_node w me act (Some x) f e = kept_deed w me (act x) f e

  kept_packet : (w : WorldState Args Row Reply) (o : Option (Packet Args Row Reply)) (f : Fault) → (deliver w o).0 ≡ Refused f → (deliver w o).1 ≡ w
  kept_packet w None f e = refl
  kept_packet w (Some p) f e = go p.to e
    where
      go : (to : Address) → (deliver_to w p to).0 ≡ Refused f → (deliver_to w p to).1 ≡ w
      go (AtNode id) e = kept_node w id (handle w.config p) (node_at w id) f e
      go (AtClient client) e = refl

  kept_event : (w : WorldState Args Row Reply) (event : Event Args) (f : Fault) → (happens m w event).0 ≡ Refused f → (happens m w event).1 ≡ w
  kept_event w (At me act) f e = kept_node w me (deed_of m w.config act) (node_at w me) f e
  kept_event w (Deliver number) f e = kept_packet w (slice_get w.packets number) f e

  pub refused_keeps : (w : WorldState Args Row Reply) → IsReached m w → (event : Event Args) (f : Fault) (after : WorldState Args Row Reply) → SettledStep m w event (Refused f) after → after ≡ w
  refused_keeps w reached event f after (inl e) =
      ap (λ (y : Outcome × WorldState Args Row Reply). y.1) e
      ∙ ap settled_world (kept_event w event f (sym (ap (λ (y : Outcome × WorldState Args Row Reply). y.0) e)))
      ∙ steady m w reached
  refused_keeps w reached event f after (inr e) = e.3

  pub err_keeps : (w : WorldState Args Row Reply) → IsReached m w → (event : Event Args) (result : Result (Unit {0}) Fault) (after : WorldState Args Row Reply) → SettledStep m w event (outcome_of result) after → OnErr result (after ≡ w)
  err_keeps w reached event (Ok out) after step = tt
  err_keeps w reached event (Err fault) after step = refused_keeps w reached event fault after step
