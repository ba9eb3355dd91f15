-- What the packets of a group say of a slot, and that the packets of a step say what its letters say.
use Rattle.std.proofs.Common.{◌≡◌, ℕ, zero, suc, ◌<◌, List, [], ◌∷◌, ◌++◌, map, ◌⊎◌, inl, inr, ⊎_elim, refl, sym, subst, arith}
use Rattle.std.specs.List.{AllByRecursion, Contains, range_with_len}
use Rattle.std.proofs.lemmas.List.Elements.{All-contains, All-from_recursion, Contains-append_left, Contains-append_right, Contains-append_cases}
use Rattle.calvin_types.specs.declared.place.Slot.{Slot}
use Rattle.calvin_synod.specs.declared.message.Message.{Message}
use Rattle.calvin_synod.specs.declared.message.Message.TheVariants.{Promise, Accept, Accepted}
use Rattle.calvin_synod.specs.Cases.{Letters, Silent, ToOne, ToAll}
use Rattle.calvin_synod.proofs.Core.{Said, Reports, Proposes, Votes}
use Rattle.calvin_synod.proofs.Cases.{Tells, Says}
use Rattle.calvin_synod_group.specs.declared.packet.Packet.{Packet}
use Rattle.calvin_synod_group.specs.Groups.{packets_of}

-- nothing is in an empty list
pub in_none : {X : Type 0} (x : X) → Contains [] x → ⊥
in_none x c = let k : c.0 < 0 = c.1 in omega arith

module _ {B : Type 0} where
  -- what packets say of a slot
  abbrev pub sent_in : List (Packet B) → Slot → Said B → Type 0
  sent_in packets slot (Reports a b r) = (to : ℕ) × Contains packets (record { from = a; to = to; message = Promise slot b r })
  sent_in packets slot (Proposes b x) = (from : ℕ) × (to : ℕ) × Contains packets (record { from = from; to = to; message = Accept slot b x })
  sent_in packets slot (Votes a b x) = (to : ℕ) × Contains packets (record { from = a; to = to; message = Accepted slot b x })

  pub sent_more : (packets more : List (Packet B)) (slot : Slot) (x : Said B) → sent_in packets slot x → sent_in (packets ++ more) slot x
  sent_more packets more slot (Reports a b r) s = (s.0, Contains-append_left packets more _ s.1)
  sent_more packets more slot (Proposes b x) s = (s.0, s.1, Contains-append_left packets more _ s.2)
  sent_more packets more slot (Votes a b x) s = (s.0, Contains-append_left packets more _ s.1)

  pub sent_new : (packets more : List (Packet B)) (slot : Slot) (x : Said B) → sent_in more slot x → sent_in (packets ++ more) slot x
  sent_new packets more slot (Reports a b r) s = (s.0, Contains-append_right packets more _ s.1)
  sent_new packets more slot (Proposes b x) s = (s.0, s.1, Contains-append_right packets more _ s.2)
  sent_new packets more slot (Votes a b x) s = (s.0, Contains-append_right packets more _ s.1)

  pub sent_cases : (packets more : List (Packet B)) (slot : Slot) (x : Said B) → sent_in (packets ++ more) slot x → sent_in packets slot x ⊎ sent_in more slot x
  sent_cases packets more slot (Reports a b r) s = ⊎_elim (λ k. inl (s.0, k)) (λ k. inr (s.0, k)) (Contains-append_cases packets more _ s.1)
  sent_cases packets more slot (Proposes b x) s = ⊎_elim (λ k. inl (s.0, s.1, k)) (λ k. inr (s.0, s.1, k)) (Contains-append_cases packets more _ s.2)
  sent_cases packets more slot (Votes a b x) s = ⊎_elim (λ k. inl (s.0, k)) (λ k. inr (s.0, k)) (Contains-append_cases packets more _ s.1)

  pub nothing_sent : (slot : Slot) (x : Said B) → sent_in [] slot x → ⊥
  nothing_sent slot (Reports a b r) s = in_none _ s.1
  nothing_sent slot (Proposes b y) s = in_none _ s.2
  nothing_sent slot (Votes a b y) s = in_none _ s.1

  -- packets of one message from one replica
  abbrev Alike : ℕ → Message B → List (Packet B) → Type 0
  Alike me m packets = AllByRecursion (λ (p : Packet B). (p.from ≡ me) × (p.message ≡ m)) packets

  each_alike : (me : ℕ) (m : Message B) (tos : List ℕ) → Alike me m (map (λ to. record { from = me; to = to; message = m }) tos)
  each_alike me m [] = tt
  each_alike me m (to ∷ tos) = ((refl, refl), each_alike me m tos)

  alike : (me : ℕ) (m : Message B) (packets : List (Packet B)) (p : Packet B) → Alike me m packets → Contains packets p → (p.from ≡ me) × (p.message ≡ m)
  alike me m packets p all c = All-contains (λ (q : Packet B). (q.from ≡ me) × (q.message ≡ m)) packets p (All-from_recursion (λ (q : Packet B). (q.from ≡ me) × (q.message ≡ m)) packets all) c

  tells : (me : ℕ) (m : Message B) (packets : List (Packet B)) (slot : Slot) → Alike me m packets → (x : Said B) → sent_in packets slot x → Tells me m slot x
  tells me m packets slot all (Reports a b r) s = alike me m packets _ all s.1
  tells me m packets slot all (Proposes b x) s = (alike me m packets _ all s.2).1
  tells me m packets slot all (Votes a b x) s = alike me m packets _ all s.1

  -- what the packets of a step say, its letters say
  pub said_by_packets : (size me : ℕ) (letters : Letters B) (slot : Slot) (x : Said B) → sent_in (packets_of size me letters) slot x → Says me letters slot x
  said_by_packets size me Silent slot x s = nothing_sent slot x s
  said_by_packets size me (ToOne to m) slot x s = tells me m (record { from = me; to = to; message = m } ∷ []) slot ((refl, refl), tt) x s
  said_by_packets size me (ToAll m) slot x s = tells me m (packets_of size me (ToAll m)) slot (each_alike me m (range_with_len 0 size)) x s

  -- what the message of a packet says is sent
  pub sent_as : (me to : ℕ) (m : Message B) (packets : List (Packet B)) (slot : Slot) → Contains packets (record { from = me; to = to; message = m }) → (x : Said B) → Tells me m slot x → sent_in packets slot x
  sent_as me to m packets slot c (Reports a b r) t = (to, subst (λ (y : ℕ × Message B). Contains packets (record { from = y.0; to = to; message = y.1 })) (λ i. (sym t.0 i, sym t.1 i)) c)
  sent_as me to m packets slot c (Proposes b x) t = (me, to, subst (λ (y : Message B). Contains packets (record { from = me; to = to; message = y })) (sym t) c)
  sent_as me to m packets slot c (Votes a b x) t = (to, subst (λ (y : ℕ × Message B). Contains packets (record { from = y.0; to = to; message = y.1 })) (λ i. (sym t.0 i, sym t.1 i)) c)

  first_of_all : (size me : ℕ) (m : Message B) → 0 < size → Contains (packets_of size me (ToAll m)) (record { from = me; to = 0; message = m })
  first_of_all zero me m h = absurd (omega arith)
  first_of_all (suc n) me m h = (0, omega arith, refl)

  -- and what its letters say, its packets say
  pub packets_say : (size me : ℕ) (letters : Letters B) (slot : Slot) → 0 < size → (x : Said B) → Says me letters slot x → sent_in (packets_of size me letters) slot x
  packets_say size me Silent slot some x t = absurd t
  packets_say size me (ToOne to m) slot some x t = sent_as me to m (record { from = me; to = to; message = m } ∷ []) slot (0, omega arith, refl) x t
  packets_say size me (ToAll m) slot some x t = sent_as me 0 m (packets_of size me (ToAll m)) slot (first_of_all size me m some) x t
