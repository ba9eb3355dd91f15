-- Which event an entry is, and that it is no other one.
--     is_own      an own event of a node
--     Delivered, delivered      an event in which a packet came is the delivery of the one with its name
--     read_at, no_address      the packet of a number, and a number of none
--     none_named, other_address, other_packet      where there is none
--     is_delivery      where there is one
--     counts, at_from, from_at      the names of packets, by who sent them
use Rattle.std.proofs.Common.{◌≡◌, ◌<◌, ◌≤◌, ℕ, zero, suc, Bool, true, false, cond, List, [], ◌∷◌, length, take, Option, Some, None, MatchOption, refl, sym, ap, subst, ◌∙◌, arith}
use Rattle.std.specs.List.{filter}
use Rattle.std.specs.Option.{option_map}
use Rattle.std.specs.Prelude.{slice_get}
use Rattle.std.proofs.lemmas.Bool.{false≢true}
use lib.ListN.{get_or}
use Rattle.std.proofs.lemmas.Option.{none-some, slice_get-get_or, slice_get_within}
use Rattle.calvin_types.specs.declared.place.NodeId.{NodeId}
use Rattle.calvin_bench.proofs.Lists.{get_map, was_map}
use Rattle.calvin_node_packets.specs.declared.packet.Address.{Address}
use Rattle.calvin_node_packets.specs.declared.packet.Address.TheVariants.{AtNode, AtClient}
use Rattle.calvin_node_packets.specs.declared.packet.Packet.{Packet}
use Rattle.calvin_node_packets.specs.Packets.{same_node, is_for}
use Rattle.calvin_node_acts.specs.declared.act.Act.{Act}
use Rattle.calvin_world.specs.declared.event.Event.{Event}
use Rattle.calvin_world.specs.declared.event.Event.TheVariants.{At, Deliver}
use Rattle.calvin_world.specs.declared.naming.PacketName.{PacketName}
use Rattle.calvin_world.specs.Names.{sent_by, name_of, IsNamed}
use Rattle.calvin_world.specs.Worlds.{WorldState}
use Rattle.calvin_histories.specs.declared.entry.Entry.{Entry}
use Rattle.calvin_histories.specs.declared.entry.Entry.TheVariants.{Own, Came}
use Rattle.calvin_histories.specs.Histories.{came_to, coming, entry_of}
use Rattle.calvin_histories.specs.Positions.{senders_of, IsAt}
use Rattle.calvin_histories.proofs.Names.{named_once}
use Rattle.calvin_histories.proofs.Sent.{same_node_self, same_node_is}

some_is : {X : Type 0} {x y : X} → Some x ≡ Some y → x ≡ y
some_is e = cc

-- what was read at a number
pub read_at : {X : Type 0} (xs seen : List X) → seen ≡ xs → (n : ℕ) (x : X) → n < length seen → x ≡ get_or seen n x → slice_get xs n ≡ Some x
read_at xs seen same n x within is = ap (λ ys. slice_get ys n) (sym same) ∙ slice_get-get_or seen n x within ∙ ap Some (sym is)

-- an address that is for a node is the node's
pub for_node : (to : Address) (id : NodeId) → is_for to id ≡ true → to ≡ AtNode id
for_node (AtNode node) id e = ap AtNode (same_node_is node id e)
for_node (AtClient client) id e = absurd (false≢true e)

module _ {Args Row Reply : Type 0} where
  same_name : {a b : PacketName} {p q : Packet Args Row Reply} → ◌≡◌ {A = Entry Args Row Reply} (Came a p) (Came b q) → (a ≡ b) × (p ≡ q)
  same_name e = (cc, cc)

  same_act : {a b : Act Args} → ◌≡◌ {A = Entry Args Row Reply} (Own a) (Own b) → a ≡ b
  same_act e = cc

  not_came : {act : Act Args} {name : PacketName} {p : Packet Args Row Reply} → ◌≡◌ {A = Entry Args Row Reply} (Own act) (Came name p) → ⊥
  not_came e = cc

  -- what is delivered under a name to a node
  pub record Delivered (w : WorldState Args Row Reply) (id : NodeId) (name : PacketName) (p : Packet Args Row Reply) (event : Event Args) : Type 0 where
    pub number : ℕ
    pub is : event ≡ Deliver number
    pub there : slice_get w.packets number ≡ Some p
    pub named : name_of w.packets number p ≡ name
    pub to : p.to ≡ AtNode id

  pub delivered : (w : WorldState Args Row Reply) (id : NodeId) (name : PacketName) (p : Packet Args Row Reply) (event : Event Args) → entry_of w event ≡ Some (id, Came name p) → Delivered w id name p event
  delivered w id name p (At me act) e = absurd (not_came (ap (λ (z : NodeId × Entry Args Row Reply). z.1) (some_is e)))
  delivered w id name p (Deliver number) e = by_packet (slice_get w.packets number) refl e
    where
      by_to : (q : Packet Args Row Reply) → slice_get w.packets number ≡ Some q → (to : Address) → q.to ≡ to → came_to (name_of w.packets number q) q to ≡ Some (id, Came name p) → Delivered w id name p (Deliver number)
      by_to q there (AtClient client) to e = absurd (none-some (id, Came name p) e)
      by_to q there (AtNode me) to e =
          let both = some_is e in
          let same = same_name (ap (λ (z : NodeId × Entry Args Row Reply). z.1) both) in
          record {
            number = number;
            is = refl;
            there = there ∙ ap Some same.1;
            named = (λ i. name_of w.packets number (sym same.1 i)) ∙ same.0;
            to = ap (λ (p : Packet Args Row Reply). p.to) (sym same.1) ∙ to ∙ ap (λ (z : NodeId × Entry Args Row Reply). AtNode z.0) both;
          }

      by_packet : (o : Option (Packet Args Row Reply)) → slice_get w.packets number ≡ o → coming w.packets number o ≡ Some (id, Came name p) → Delivered w id name p (Deliver number)
      by_packet None there e = absurd (none-some (id, Came name p) e)
      by_packet (Some q) there e = by_to q there q.to refl e

  pub is_own : (w : WorldState Args Row Reply) (id : NodeId) (act : Act Args) (event : Event Args) → entry_of w event ≡ Some (id, Own act) → event ≡ At id act
  is_own w id act (At me other) e =
      let both = some_is e in
      λ i. At ((both i).0) (same_act (ap (λ (z : NodeId × Entry Args Row Reply). z.1) both) i)
  is_own w id act (Deliver number) e = absurd (by_packet (slice_get w.packets number) e)
    where
      by_to : (q : Packet Args Row Reply) (to : Address) → came_to (name_of w.packets number q) q to ≡ Some (id, Own act) → ⊥
      by_to q (AtClient client) e = none-some (id, Own act) e
      by_to q (AtNode me) e = not_came (sym (ap (λ (z : NodeId × Entry Args Row Reply). z.1) (some_is e)))

      by_packet : (o : Option (Packet Args Row Reply)) → coming w.packets number o ≡ Some (id, Own act) → ⊥
      by_packet None e = none-some (id, Own act) e
      by_packet (Some q) e = by_to q q.to e

  module _ (w : WorldState Args Row Reply) (id : NodeId) (name : PacketName) (p : Packet Args Row Reply) where
    pub none_named : ((number : ℕ) → IsNamed w.packets name number → ⊥) → (event : Event Args) → entry_of w event ≡ Some (id, Came name p) → ⊥
    none_named never event e = let d = delivered w id name p event e in never d.number (p, d.there, d.named)

    pub no_address : (seen : List (Packet Args Row Reply)) → seen ≡ w.packets → (number : ℕ) → IsNamed w.packets name number → None ≡ option_map (λ p. p.to) (slice_get seen number) → ⊥
    no_address seen same number named none =
        let there = ap (λ (ps : List (Packet Args Row Reply)). slice_get ps number) same ∙ named.1 in
        let to = ap (option_map (λ (p : Packet Args Row Reply). p.to)) there in
        none-some named.0.to (none ∙ to)

    module _ (number : ℕ) (named : IsNamed w.packets name number) (sent : Packet Args Row Reply) (there : slice_get w.packets number ≡ Some sent) where
      -- it is the one that is sent under the name
      is_sent : (event : Event Args) → Delivered w id name p event → (event ≡ Deliver number) × (p ≡ sent)
      is_sent event d =
          let same = named_once w.packets name d.number number (p, d.there, d.named) named in
          (d.is ∙ ap Deliver same, some_is (sym d.there ∙ ap (slice_get w.packets) same ∙ there))

      pub other_address : (is_for sent.to id ≡ false) → (event : Event Args) → entry_of w event ≡ Some (id, Came name p) → ⊥
      other_address other event e =
          let d = delivered w id name p event e in
          let same = (is_sent event d).1 in
          false≢true (sym other ∙ (λ i. is_for (sym same i).to id) ∙ (λ i. is_for (d.to i) id) ∙ self id)
        where
          self : (id : NodeId) → is_for (AtNode id) id ≡ true
          self id = same_node_self id

      pub other_packet : (sent ≡ p → ⊥) → (event : Event Args) → entry_of w event ≡ Some (id, Came name p) → ⊥
      other_packet apart event e = apart (sym (is_sent event (delivered w id name p event e)).1)

      pub is_delivery : sent ≡ p → is_for sent.to id ≡ true → (entry_of w (Deliver number) ≡ Some (id, Came name p)) × ((other : Event Args) → entry_of w other ≡ Some (id, Came name p) → other ≡ Deliver number)
      is_delivery same mine = (
        (λ i. coming w.packets number (there i))
            ∙ (λ i. came_to (name_of w.packets number sent) sent (for_node sent.to id mine i))
            ∙ (λ i. Some (id, Came (name_of w.packets number (same i)) (same i)))
            ∙ (λ i. Some (id, Came (its_name i) p)),
        λ other e. (is_sent other (delivered w id name p other e)).0,
      )
        where
          its_name : name_of w.packets number p ≡ name
          its_name = (λ i. name_of w.packets number (some_is (ap Some (sym same) ∙ sym there ∙ named.1) i)) ∙ named.2

  -- ---- names, by senders

  -- how many of the first ones a node sent
  pub counts : (packets : List (Packet Args Row Reply)) (id : NodeId) (n : ℕ) → length (filter (λ a. same_node a id) (take n (senders_of packets))) ≡ length (sent_by id (take n packets))
  counts [] id zero = refl
  counts [] id (suc n) = refl
  counts (p ∷ packets) id zero = refl
  counts (p ∷ packets) id (suc n) = go (same_node p.from id) (counts packets id n)
    where
      go : (b : Bool) → length (filter (λ a. same_node a id) (take n (senders_of packets))) ≡ length (sent_by id (take n packets))
          → length (cond b (p.from ∷ filter (λ a. same_node a id) (take n (senders_of packets))) (filter (λ a. same_node a id) (take n (senders_of packets)))) ≡ length (cond b (p ∷ sent_by id (take n packets)) (sent_by id (take n packets)))
      go true same = ap suc same
      go false same = same

  pub at_from : (packets : List (Packet Args Row Reply)) (name : PacketName) (number : ℕ) → IsNamed packets name number → IsAt (senders_of packets) name number
  at_from packets name number (p, there, named) = record {
    sender = get_map (λ (p : Packet Args Row Reply). p.from) packets number p there ∙ ap (λ (n : PacketName). Some n.sender) named;
    before = counts packets name.sender number ∙ (λ i. length (sent_by (sym named i).sender (take number packets))) ∙ ap (λ (n : PacketName). n.number) named;
  }

  pub from_at : (packets : List (Packet Args Row Reply)) (name : PacketName) (number : ℕ) → IsAt (senders_of packets) name number → IsNamed packets name number
  from_at packets name number at =
      let was = was_map (λ (p : Packet Args Row Reply). p.from) packets number name.sender at.sender in
      (was.0, was.1, λ i. record { sender = was.2 i; number = ((λ j. length (sent_by (was.2 j) (take number packets))) ∙ sym (counts packets name.sender number) ∙ at.before) i })

  pub found_name : (packets : List (Packet Args Row Reply)) (name : PacketName) (got : Option ℕ) → MatchOption got ((number : ℕ) → IsAt (senders_of packets) name number → ⊥) (IsAt (senders_of packets) name) → MatchOption got ((number : ℕ) → IsNamed packets name number → ⊥) (IsNamed packets name)
  found_name packets name None never = λ number is. never number (at_from packets name number is)
  found_name packets name (Some number) at = from_at packets name number at

  -- ---- which event an entry is

  pub own_event : (w : WorldState Args Row Reply) (id : NodeId) (act : Act Args) (entry : Entry Args Row Reply) → entry ≡ Own act → (entry_of w (At id act) ≡ Some (id, entry)) × ((other : Event Args) → entry_of w other ≡ Some (id, entry) → other ≡ At id act)
  own_event w id act entry same = (ap (λ (it : Entry Args Row Reply). Some (id, it)) (sym same), λ other e. is_own w id act other (e ∙ ap (λ (it : Entry Args Row Reply). Some (id, it)) same))

  abbrev IsEvent : WorldState Args Row Reply → NodeId → Entry Args Row Reply → Option (Event Args) → Type 0
  IsEvent w id entry got = MatchOption got ((event : Event Args) → entry_of w event ≡ Some (id, entry) → ⊥) (λ event. (entry_of w event ≡ Some (id, entry)) × ((other : Event Args) → entry_of w other ≡ Some (id, entry) → other ≡ event))

  pub came_event : (w : WorldState Args Row Reply) (id : NodeId) (came entry : Entry Args Row Reply) → entry ≡ came → (got : Option (Event Args)) → IsEvent w id came got → IsEvent w id entry got
  came_event w id came entry same got is = subst (λ (it : Entry Args Row Reply). IsEvent w id it got) (sym same) is
