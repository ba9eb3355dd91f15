-- A call of a node that did what its deed says is a step of a world in code.
--     act_called, delivery_called      a call for an act, and one for a packet
use Rattle.std.proofs.Common.{◌≡◌, ℕ, inl, inr, Bool, true, List, Some, Result, Ok, Err, sym, ap, subst, ◌∙◌}
use Rattle.std.specs.Prelude.{slice_get}
use Rattle.calvin_types.specs.declared.fault.Fault.{Fault}
use Rattle.calvin_types.specs.declared.place.NodeId.{NodeId}
use Rattle.calvin_types.specs.Deeds.{Refuses, Does}
use Rattle.calvin_app.specs.Meaning.{Meaning}
use Rattle.calvin_bench.proofs.Lists.{set_same}
use Rattle.calvin_node_acts.specs.NodeStates.{NodeState}
use Rattle.calvin_node_acts.specs.Handling.{NodeDeed, handle}
use Rattle.calvin_node_acts.specs.Acting.{deed_of}
use Rattle.calvin_node_acts.specs.Growing.{act_grows, content_grows}
use Rattle.calvin_node_acts.specs.Running.{Running, settled, NodeDid}
use Rattle.calvin_node_acts.specs.declared.act.Act.{Act}
use Rattle.calvin_node_packets.specs.declared.packet.Address.TheVariants.{AtNode}
use Rattle.calvin_node_packets.specs.declared.packet.Packet.{Packet}
use Rattle.calvin_world.specs.declared.event.Event.{Event}
use Rattle.calvin_world.specs.declared.event.Event.TheVariants.{At, Deliver}
use Rattle.calvin_world.specs.declared.event.Outcome.{Outcome}
use Rattle.calvin_world.specs.declared.event.Outcome.TheVariants.{Done, Refused}
use Rattle.calvin_world.specs.Worlds.{WorldState, TakesEffect, index_of, node_at, carry_out, at_node, deliver_to, deliver, grows_at, grows_to, grows_by, grows, happens}
use Rattle.calvin_world.specs.SettledWorlds.{settled_world, outcome_of, called, SettledStep}
use Rattle.calvin_world.proofs.SettledEvents.{ending, carried, node_is_there}

module _ {Args Row Reply : Type 0} (m : Meaning Args Row Reply) (v : WorldState Args Row Reply) (still : settled_world v ≡ v) (me : NodeId) (x : NodeState Args Row) (there : node_at v me ≡ Some x) where
  unchanged : (new : Running Args Row) (all : List (Packet Args Row Reply)) → new ≡ record { config = v.config; state = x } → all ≡ v.packets → called v me new.state all ≡ v
  unchanged new all same none = (λ i. called v me (same i).state (none i)) ∙ (λ i. record v { nodes = set_same v.nodes (index_of v.config.partitions me) x (node_is_there v me x there) i })

  did_step : (event : Event Args) (more : Bool) (result : Result (Unit {0}) Fault) (deed : NodeDeed Args Row Reply) (new : Running Args Row) (all : List (Packet Args Row Reply)) → happens m v event ≡ carry_out v me deed → (more ≡ true → grows v event ≡ true)
      → NodeDid more result deed (record { config = v.config; state = x }) new v.packets all → SettledStep m v event (outcome_of result) (called v me new.state all)
  did_step event more (Ok out) (Refuses f) new all is wide did = absurd did
  did_step event more (Ok out) (Does next packets) new all is wide (now, sent) =
      inl ((λ i. (Done, called v me (now i).state (sent i))) ∙ (λ i. carry_out (sym still i) me (Does (settled next) packets)) ∙ sym (carried v me (Does next packets)) ∙ (λ i. ending (sym is i)))
  did_step event more (Err e) (Refuses f) new all is wide (same, now, sent) =
      inl ((λ i. (Refused (same i), unchanged new all now sent i)) ∙ (λ i. (Refused f, sym still i)) ∙ (λ i. ending (sym is i)))
  did_step event more (Err e) (Does next packets) new all is wide (much, wanting, now, sent) =
      inr (subst (λ (o : Outcome × WorldState Args Row Reply). TakesEffect o.0) (sym is) tt, wide much, ap Refused wanting, unchanged new all now sent)

  -- an act
  pub act_called : (act : Act Args) (result : Result (Unit {0}) Fault) (new : Running Args Row) (all : List (Packet Args Row Reply)) → NodeDid (act_grows v.config act x) result (deed_of m v.config act x) (record { config = v.config; state = x }) new v.packets all
      → SettledStep m v (At me act) (outcome_of result) (called v me new.state all)
  act_called act result new all did =
      did_step (At me act) (act_grows v.config act x) result (deed_of m v.config act x) new all (ap (at_node v me (deed_of m v.config act)) there) (λ much. ap (grows_at (act_grows v.config act)) there ∙ much) did

  -- a packet that is for this node
  pub delivery_called : (number : ℕ) (p : Packet Args Row Reply) → slice_get v.packets number ≡ Some p → p.to ≡ AtNode me → (result : Result (Unit {0}) Fault) (new : Running Args Row) (all : List (Packet Args Row Reply))
      → NodeDid (content_grows v.config p.content x) result (handle v.config p x) (record { config = v.config; state = x }) new v.packets all → SettledStep m v (Deliver number) (outcome_of result) (called v me new.state all)
  delivery_called number p sent to result new all did =
      did_step (Deliver number) (content_grows v.config p.content x) result (handle v.config p x) new all (ap (deliver v) sent ∙ ap (deliver_to v p) to ∙ ap (at_node v me (handle v.config p)) there) (λ much. ap (grows_by v) sent ∙ ap (grows_to v p) to ∙ ap (grows_at (content_grows v.config p.content)) there ∙ much) did
