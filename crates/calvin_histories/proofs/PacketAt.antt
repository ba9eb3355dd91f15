-- The packet of a number, as an outbox tells its parts.
--     is_from      its sender is one that doesn't differ
--     told_whole      it is the packet of these parts
--     same_as      it is another packet, where its parts are those of that
use Rattle.std.proofs.Common.{◌≡◌, Bool, true, false, Option, Some, None, refl, sym, ap, ◌∙◌}
use Rattle.std.specs.Option.{option_map}
use Rattle.std.specs.Prelude.{MatchBool, not}
use Rattle.std.proofs.lemmas.Bool.{false≢true}
use Rattle.std.proofs.lemmas.Option.{none-some, same_Some}
use Rattle.calvin_types.specs.declared.place.NodeId.{NodeId}
use Rattle.calvin_node_packets.specs.declared.packet.Address.{Address}
use Rattle.calvin_node_packets.specs.declared.packet.Content.{Content}
use Rattle.calvin_node_packets.specs.declared.packet.Packet.{Packet}
use Rattle.calvin_node_packets.specs.Packets.{same_node}
use Rattle.calvin_histories.proofs.Sent.{same_node_is}

pub is_from : (x y : NodeId) → false ≡ not (same_node x y) → x ≡ y
is_from x y is = same_node_is x y (go (same_node x y) is)
  where
    go : (b : Bool) → false ≡ not b → b ≡ true
    go true is = refl
    go false is = absurd (false≢true is)

module _ {Args Row Reply : Type 0} where
  pub told_whole : (o : Option (Packet Args Row Reply)) (from : NodeId) (to : Address) (content : Content Args Row Reply)
      → option_map (λ p. p.from) o ≡ Some from → Some to ≡ option_map (λ p. p.to) o → Some content ≡ option_map (λ p. p.content) o → o ≡ Some (record { from = from; to = to; content = content })
  told_whole None from to content is_from is_to is_content = absurd (none-some from is_from)
  told_whole (Some p) from to content is_from is_to is_content =
      let f = same_Some p.from from is_from in
      let t = same_Some to p.to is_to in
      let c = same_Some content p.content is_content in
      λ i. Some (record { from = f i; to = sym t i; content = sym c i })

  pub same_as : (r : Bool) (o : Option (Packet Args Row Reply)) (p : Packet Args Row Reply) (content : Content Args Row Reply)
      → o ≡ Some (record { from = p.from; to = p.to; content = content }) → MatchBool r (content ≡ p.content) (content ≡ p.content → ⊥) → MatchBool r (o ≡ Some p) (o ≡ Some p → ⊥)
  same_as true o p content there is = there ∙ (λ i. Some (record { from = p.from; to = p.to; content = is i }))
  same_as false o p content there never = λ same. never (ap (λ (q : Packet Args Row Reply). q.content) (same_Some (record { from = p.from; to = p.to; content = content }) p (sym there ∙ same)))
