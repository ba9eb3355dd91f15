-- The names of packets, as they are listed by who sent them.
--     is_listed      a node of the store has a list
--     next_of      the name of the packet that it sends next
--     named_more, named_all      the name of one packet more; in the end of all
--     nameless      where no name is, no packet is
--     for_nobody, for_client      where an outbox tells of no packet for a node, none comes to one
--     address_is      whom the packet of a number is for
--     for_node      what the packet of a number is, which comes under its name
use Rattle.std.proofs.Common.{◌≡◌, ◌⊎◌, ℕ, ◌+◌, ◌*◌, ◌<◌, ◌≤◌, List, [], ◌∷◌, ◌++◌, length, take, Option, Some, None, inl, inr, refl, sym, ap, ◌∙◌, arith}
use Rattle.std.specs.Prelude.{slice_get}
use Rattle.std.proofs.lemmas.Bool.{cases_lt}
use Rattle.std.specs.Option.{option_map}
use Rattle.std.proofs.lemmas.Option.{none-some, slice_get_within, same_Some}
use Rattle.calvin_types.specs.declared.place.NodeId.{NodeId}
use Rattle.calvin_bench.proofs.Lists.{get_left, last_of}
use Rattle.calvin_node_packets.specs.declared.packet.Address.{Address}
use Rattle.calvin_node_packets.specs.declared.packet.Address.TheVariants.{AtNode, AtClient}
use Rattle.calvin_node_packets.specs.declared.packet.Packet.{Packet}
use Rattle.calvin_world.specs.declared.naming.PacketName.{PacketName}
use Rattle.calvin_world.specs.Names.{name_of}
use Rattle.calvin_world.specs.Worlds.{index_of}
use Rattle.calvin_world.proofs.InCode.{index_within}
use Rattle.calvin_histories.specs.declared.entry.Entry.{Entry}
use Rattle.calvin_histories.specs.declared.entry.Entry.TheVariants.{Came}
use Rattle.calvin_histories.specs.Histories.{came_to, coming}
use Rattle.calvin_histories.specs.Positions.{senders_of, positions, AreListed, IsListed, AreNamed, next_name}
use Rattle.calvin_histories.proofs.Positions.{positions_count}
use Rattle.calvin_histories.proofs.Finding.{named_there}
use Rattle.calvin_histories.proofs.Events.{counts}

pub is_listed : (replicas parts : ℕ) (lists : List (List ℕ)) → length lists ≡ replicas * parts → (id : NodeId) → id.replica < replicas → id.partition < parts → IsListed parts lists id
is_listed replicas parts lists number id replica partition = (partition, let within = index_within parts replicas id replica partition in omega (arith, within, number))

pub next_of : (parts : ℕ) (lists : List (List ℕ)) (senders : List NodeId) → AreListed parts lists senders → (id : NodeId) → id.partition < parts → (numbers : List ℕ) → slice_get lists (index_of parts id) ≡ Some numbers → (n : ℕ) → n ≡ length numbers
    → ◌≡◌ {A = PacketName} (record { sender = id; number = n }) (next_name senders id)
next_of parts lists senders listed id within numbers there n is = λ i. record { sender = id; number = many i }
  where
    many : n ≡ (next_name senders id).number
    many = is ∙ ap length (listed.each (index_of parts id) numbers there) ∙ (λ i. length (positions (named_there parts id within i) 0 senders)) ∙ positions_count id 0 senders

module _ {Args Row Reply : Type 0} (packets : List (Packet Args Row Reply)) where
  -- so many packets have their names
  abbrev pub AreNamedTo : List PacketName → ℕ → Type 0
  AreNamedTo names n = (k : ℕ) (p : Packet Args Row Reply) → k < n → slice_get packets k ≡ Some p → slice_get names k ≡ Some (name_of packets k p)

  some_is : {X : Type 0} {x y : X} → Some x ≡ Some y → x ≡ y
  some_is e = cc

  pub named_more : (names : List PacketName) (n : ℕ) → length names ≡ n → AreNamedTo names n → (p : Packet Args Row Reply) → slice_get packets n ≡ Some p → (name : PacketName) → name ≡ next_name (take n (senders_of packets)) p.from → AreNamedTo (names ++ name ∷ []) (n + 1)
  named_more names n long named p there name is k q less at = go (cases_lt k n)
    where
      its_name : name ≡ name_of packets n p
      its_name = is ∙ (λ i. record { sender = p.from; number = counts packets p.from n i })

      go : (k < n) ⊎ (n ≤ k) → slice_get (names ++ name ∷ []) k ≡ Some (name_of packets k q)
      go (inl before) = get_left names (name ∷ []) k (name_of packets k q) (named k q before at)
      go (inr level) =
          let here : n ≡ k = omega (arith, level, less) in
          let same : p ≡ q = some_is (sym there ∙ (λ i. slice_get packets (here i)) ∙ at) in
          (λ i. slice_get (names ++ name ∷ []) ((sym here ∙ sym long) i)) ∙ last_of names name ∙ ap Some its_name ∙ (λ i. Some (name_of packets (here i) (same i)))

  pub named_all : (names : List PacketName) (n : ℕ) → length packets ≤ n → AreNamedTo names n → AreNamed packets names
  named_all names n past named number p there = named number p (let within = slice_get_within packets number p there in omega (arith, within, past)) there

  -- where no name is, no packet is
  pub nameless : (names : List PacketName) → AreNamed packets names → (n : ℕ) → length names ≤ n → ◌≡◌ {A = Option (NodeId × Entry Args Row Reply)} None (coming packets n (slice_get packets n))
  nameless names named n past = go (slice_get packets n) refl
    where
      go : (o : Option (Packet Args Row Reply)) → slice_get packets n ≡ o → ◌≡◌ {A = Option (NodeId × Entry Args Row Reply)} None (coming packets n o)
      go None is = refl
      go (Some p) is = absurd (let within = slice_get_within names n (name_of packets n p) (named n p is) in omega (arith, within, past))

  -- where an outbox tells of no packet, or of one for a client, nothing comes to a node
  pub for_nobody : (n : ℕ) (o : Option (Packet Args Row Reply)) → None ≡ option_map (λ p. p.to) o → ◌≡◌ {A = Option (NodeId × Entry Args Row Reply)} None (coming packets n o)
  for_nobody n None is = refl
  for_nobody n (Some p) is = absurd (none-some p.to is)

  pub for_client : (n : ℕ) (o : Option (Packet Args Row Reply)) (client : ℕ) → Some (AtClient client) ≡ option_map (λ p. p.to) o → ◌≡◌ {A = Option (NodeId × Entry Args Row Reply)} None (coming packets n o)
  for_client n None client is = refl
  for_client n (Some p) client is = ap (came_to (name_of packets n p) p) (same_Some (AtClient client) p.to is)

  -- whom the packet of a number is for, as an outbox tells it
  pub address_is : (o : Option (Packet Args Row Reply)) (p : Packet Args Row Reply) → o ≡ Some p → (to : Address) → Some to ≡ option_map (λ q. q.to) o → p.to ≡ to
  address_is o p there to is = sym (same_Some to p.to (is ∙ ap (option_map (λ (q : Packet Args Row Reply). q.to)) there))

  module _ (n : ℕ) (p : Packet Args Row Reply) (there : slice_get packets n ≡ Some p) where
    pub for_node : (names : List PacketName) → AreNamed packets names → (name : PacketName) → slice_get names n ≡ Some name → (id : NodeId) → p.to ≡ AtNode id → (copy : Packet Args Row Reply) → copy ≡ p
        → ◌≡◌ {A = Option (NodeId × Entry Args Row Reply)} (Some (id, Came name copy)) (coming packets n (slice_get packets n))
    for_node names named name at id to copy same =
        (λ i. Some (id, Came (some_is (sym at ∙ named n p there) i) (same i)))
        ∙ sym ((λ i. coming packets n (there i)) ∙ (λ i. came_to (name_of packets n p) p (to i)))
