-- Packets by their names, as they are counted.
--     packet_from      a packet by who sent it
--     none_sent_yet      before the first packet nobody has sent one
--     passed_over      a packet of another sender, or of another number, has another name
--     counted_here, counted_other      how many the sender has sent, one packet further
--     is_named      the packet of the number that is counted
use Rattle.std.proofs.Common.{◌≡◌, ◌≢◌, ℕ, ◌+◌, ◌<◌, ◌≤◌, ◌⊎◌, inl, inr, Bool, true, false, cond, ◌&&◌, List, [], length, take, Option, Some, None, refl, sym, ap, subst, ◌∙◌, arith}
use Rattle.std.specs.Prelude.{◌==◌, slice_get}
use Rattle.std.specs.Option.{option_map}
use Rattle.calvin_types.specs.Exact.{first, second}
use Rattle.std.proofs.lemmas.Bool.{cases_lt, false≢true, eqb-true, eq-eqb}
use Rattle.std.proofs.lemmas.List.Filters.{length-filter_more}
use Rattle.std.proofs.lemmas.Option.{slice_get_within, get_or_from_slice_get, same_Some}
use Rattle.calvin_types.specs.declared.place.NodeId.{NodeId}
use Rattle.calvin_node_packets.specs.Packets.{same_node}
use Rattle.calvin_node_packets.specs.declared.packet.Packet.{Packet}
use Rattle.calvin_world.specs.declared.naming.PacketName.{PacketName}
use Rattle.calvin_world.specs.Names.{sent_by, name_of, IsNamed}

-- the packet of a number, by who sent it
pub packet_from : {Args Row Reply : Type 0} (packets : List (Packet Args Row Reply)) (n : ℕ) (id : NodeId) → option_map (λ p. p.from) (slice_get packets n) ≡ Some id → (p : Packet Args Row Reply) × (slice_get packets n ≡ Some p) × (p.from ≡ id)
packet_from {Args} {Row} {Reply} packets n id is = look (slice_get packets n) is
  where
    look : (o : Option (Packet Args Row Reply)) → option_map (λ p. p.from) o ≡ Some id → (p : Packet Args Row Reply) × (o ≡ Some p) × (p.from ≡ id)
    look None is = absurd (cc)
    look (Some p) is = (p, refl, same_Some p.from id is)

module _ {Args Row Reply : Type 0} (packets : List (Packet Args Row Reply)) (name : PacketName) where
  -- so many of the first packets are the sender's, and none of them has the name
  pub record Counted (at before : ℕ) : Type 0 where
    pub number : before ≡ length (sent_by name.sender (take at packets))
    pub bound : before ≤ at
    pub none : (number : ℕ) → number < at → IsNamed packets name number → ⊥

  pub at_first : Counted 0 0
  at_first = record { number = refl; bound = omega arith; none = λ number less is. omega (arith, less) }

  module _ (at before : ℕ) (so_far : Counted at before) (this : Packet Args Row Reply) (there : slice_get packets at ≡ Some this) where
    next : length (sent_by name.sender (take (at + 1) packets)) ≡ before + cond (same_node this.from name.sender) 1 0
    next =
        length-filter_more (λ p. same_node p.from name.sender) packets at this (slice_get_within packets at this there)
        ∙ ap (λ (p : Packet Args Row Reply). length (sent_by name.sender (take at packets)) + cond (same_node p.from name.sender) 1 0) (get_or_from_slice_get packets at this this there)
        ∙ ap (λ n. n + cond (same_node this.from name.sender) 1 0) (sym so_far.number)

    no_more : (IsNamed packets name at → ⊥) → (number : ℕ) → number < at + 1 → IsNamed packets name number → ⊥
    no_more never number less is = elim (cases_lt number at) [
      | inl before ↦ so_far.none number before is
      | inr level ↦ never (subst (IsNamed packets name) (let l = level in let s = less in (let r : number ≡ at = omega (arith, l, s) in r)) is)
    ]

    -- its name, where the packet has one
    is_this : (p : Packet Args Row Reply) → slice_get packets at ≡ Some p → p ≡ this
    is_this p h = same_Some p this (sym h ∙ there)

    pub other_sender : same_node this.from name.sender ≡ false → Counted (at + 1) before
    other_sender other = record {
      number = sym (next ∙ (λ i. before + cond (other i) 1 0) ∙ omega arith);
      bound = let b = so_far.bound in omega (arith, b);
      none = no_more (λ is.
          let sender : this.from ≡ name.sender = ap (λ (p : Packet Args Row Reply). p.from) (sym (is_this is.0 is.1)) ∙ ap (λ (n : PacketName). n.sender) is.2 in
          false≢true (sym other ∙ (λ i. same_node (sender i) name.sender) ∙ self name.sender));
    }
      where
        self : (a : NodeId) → same_node a a ≡ true
        self a = λ i. eq-eqb a.replica a.replica refl i && eq-eqb a.partition a.partition refl i

    pub other_number : same_node this.from name.sender ≡ true → before ≢ name.number → Counted (at + 1) (before + 1)
    other_number same apart = record {
      number = sym (next ∙ (λ i. before + cond (same i) 1 0));
      bound = let b = so_far.bound in omega (arith, b);
      none = no_more (λ is. apart (so_far.number ∙ (λ i. length (sent_by (sym is.2 i).sender (take at packets))) ∙ ap (λ (n : PacketName). n.number) is.2));
    }

    pub is_named : same_node this.from name.sender ≡ true → before ≡ name.number → IsNamed packets name at
    is_named same number = (this, there, λ i. record { sender = sender i; number = ((λ j. length (sent_by (sender j) (take at packets))) ∙ sym so_far.number ∙ number) i })
      where
        sender : this.from ≡ name.sender
        sender = λ i. record {
          replica = eqb-true this.from.replica name.sender.replica (first (this.from.replica == name.sender.replica) (this.from.partition == name.sender.partition) same) i;
          partition = eqb-true this.from.partition name.sender.partition (second (this.from.replica == name.sender.replica) (this.from.partition == name.sender.partition) same) i;
        }

  -- none of all of them has the name
  pub none_of_all : (at before : ℕ) → Counted at before → length packets ≤ at → (number : ℕ) → IsNamed packets name number → ⊥
  none_of_all at before so_far past number is = so_far.none number (let within = slice_get_within packets number is.0 is.1 in omega (arith, within, past)) is
