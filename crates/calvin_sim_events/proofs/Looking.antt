-- Whether the packet of a number is lost, by what an outbox tells of its sender.
use Rattle.std.proofs.Common.{◌≡◌, ℕ, Bool, Option, Some, None, sym, ap}
use Rattle.std.proofs.lemmas.Option.{same_Some}
use Rattle.std.specs.Option.{option_map}
use Rattle.calvin_types.specs.declared.place.NodeId.{NodeId}
use Rattle.calvin_node_packets.specs.declared.packet.Packet.{Packet}
use Rattle.calvin_sim_events.specs.Quiet.{is_of_lost}

module _ {Args Row Reply : Type 0} (lost : ℕ → Bool) where
  -- whether it is lost, by who sent it
  pub lost_by : (o : Option (Packet Args Row Reply)) (from : NodeId) → option_map (λ p. p.from) o ≡ Some from → lost from.replica ≡ is_of_lost lost o
  lost_by None from is = absurd (cc)
  lost_by (Some p) from is = ap (λ (id : NodeId). lost id.replica) (sym (same_Some p.from from is))
