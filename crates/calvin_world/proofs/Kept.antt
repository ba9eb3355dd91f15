-- Nodes of the whole world agree, by the synod's own lemmas.
use Rattle.std.proofs.Common.{◌≡◌, ◌≢◌, ℕ, zero, suc, ◌<◌, List, [], ◌∷◌, ◌++◌, ◌⊎◌, inl, inr, refl, sym, ap, ◌∙◌, subst, arith, Option, Some, None}
use Rattle.std.specs.Prelude.{slice_get, slice_set}
use Rattle.std.specs.List.{Contains, range_with_len}
use Rattle.std.specs.FinMap.{get}
use Rattle.std.proofs.lemmas.Bool.{cases_eq}
use Rattle.std.proofs.lemmas.List.Elements.{Contains-append_left, Contains-append_right, Contains-append_cases}
use Rattle.calvin_node_acts.specs.NodeStates.{NodeState}
use Rattle.calvin_node_packets.specs.declared.packet.Content.{Content}
use Rattle.calvin_node_packets.specs.declared.packet.Packet.{Packet}
use Rattle.calvin_node_packets.specs.declared.packet.Address.TheVariants.{AtNode}
use Rattle.calvin_node_packets.specs.declared.packet.Content.TheVariants.{Synod, Decided}
use Rattle.calvin_node_packets.specs.Packets.{synod_packets, to_each}
use Rattle.calvin_order.specs.Merged.{Batch}
use Rattle.calvin_synod.specs.Cases.{Replica, Letters, Silent, ToOne, ToAll, Does, fresh}
use Rattle.calvin_synod.specs.declared.message.Message.{Message}
use Rattle.calvin_synod.specs.declared.message.Message.TheVariants.{Promise, Accept, Accepted}
use Rattle.calvin_types.specs.declared.place.NodeId.{NodeId}
use Rattle.calvin_types.specs.declared.place.Slot.{Slot}
use Rattle.calvin_world.specs.Promises.{IsNode, Chosen}
use Rattle.calvin_world.specs.Worlds.{WorldState, index_of}
use Rattle.calvin_synod.proofs.Majorities.{majority_member}
use Rattle.calvin_synod.proofs.Core.{Said, Reports, Proposes, Votes}
use Rattle.calvin_synod.proofs.Replicas.{Seat, Holds}
use Rattle.calvin_synod.proofs.Cases.{seat_of, Tells, Says, SpeaksOf, RightDeed, deed_keeps, idle_keeps}
use Rattle.calvin_bench.proofs.Lists.{set_here, set_other, none_in, only_in, first_in, from_map}
use Rattle.calvin_world.proofs.Indexes.{same_index}

some_is : {X : Type 0} {x y : X} → Some x ≡ Some y → x ≡ y
some_is e = cc

module _ {Args Row : Type 0} where
  abbrev pub synod_of : Option (NodeState Args Row) → Replica (Batch Args)
  synod_of None = fresh
  synod_of (Some x) = x.synod

abbrev pub member_of : Slot → ℕ → NodeId
member_of slot r = record { replica = r; partition = slot.group }

module _ {Args Row Reply : Type 0} where
  abbrev pub seats_of : WorldState Args Row Reply → Slot → ℕ → Seat (Batch Args)
  seats_of w slot r = seat_of (synod_of (slice_get w.nodes (index_of w.config.partitions (member_of slot r)))) slot

  abbrev pub SaidBy : Slot → Packet Args Row Reply → Said (Batch Args) → Type 0
  SaidBy slot p (Reports a b r) = (p.from.replica ≡ a) × (p.content ≡ Synod (Promise slot b r))
  SaidBy slot p (Proposes b x) = p.content ≡ Synod (Accept slot b x)
  SaidBy slot p (Votes a b x) = (p.from.replica ≡ a) × (p.content ≡ Synod (Accepted slot b x))

  abbrev pub sent_in : List (Packet Args Row Reply) → Slot → Said (Batch Args) → Type 0
  sent_in packets slot x = (p : Packet Args Row Reply) × Contains packets p × SaidBy slot p x

  sent_more : (packets more : List (Packet Args Row Reply)) (slot : Slot) (x : Said (Batch Args)) → sent_in packets slot x → sent_in (packets ++ more) slot x
  sent_more packets more slot x (p, c, said) = (p, Contains-append_left packets more p c, said)

  sent_new : (packets more : List (Packet Args Row Reply)) (slot : Slot) (x : Said (Batch Args)) → sent_in more slot x → sent_in (packets ++ more) slot x
  sent_new packets more slot x (p, c, said) = (p, Contains-append_right packets more p c, said)

  pub sent_cases : (packets more : List (Packet Args Row Reply)) (slot : Slot) (x : Said (Batch Args)) → sent_in (packets ++ more) slot x → sent_in packets slot x ⊎ sent_in more slot x
  sent_cases packets more slot x (p, c, said) = elim (Contains-append_cases packets more p c) [ inl old ↦ inl (p, old, said) | inr new ↦ inr (p, new, said) ]

  -- ---- packets that say nothing of the synod

  abbrev pub AreQuiet : List (Packet Args Row Reply) → Type 0
  AreQuiet packets = (p : Packet Args Row Reply) → Contains packets p → (m : Message (Batch Args)) → p.content ≡ Synod m → ⊥

  pub quiet_says_nothing : (packets : List (Packet Args Row Reply)) → AreQuiet packets → (slot : Slot) (x : Said (Batch Args)) → sent_in packets slot x → ⊥
  quiet_says_nothing packets quiet slot (Reports a b r) (p, c, said) = quiet p c _ said.1
  quiet_says_nothing packets quiet slot (Proposes b x) (p, c, said) = quiet p c _ said
  quiet_says_nothing packets quiet slot (Votes a b x) (p, c, said) = quiet p c _ said.1

  pub none_quiet : AreQuiet []
  none_quiet p c m e = none_in p c

  pub one_quiet : (a : Packet Args Row Reply) → ((m : Message (Batch Args)) → a.content ≡ Synod m → ⊥) → AreQuiet (a ∷ [])
  one_quiet a quiet p c m e = quiet m (ap (λ p. p.content) (only_in a p c) ∙ e)

  pub each_quiet : (me : NodeId) (replica : ℕ) (content : Content Args Row Reply) (ps : List ℕ) → ((m : Message (Batch Args)) → content ≡ Synod m → ⊥) → AreQuiet (to_each me replica content ps)
  each_quiet me replica content ps quiet p c m e = let is = from_map (λ (q : ℕ). record { from = me; to = AtNode (record { replica = replica; partition = q }); content = content }) ps p c in quiet m (ap (λ (p : Packet Args Row Reply). p.content) is.1 ∙ e)

  -- ---- packets of letters

  synod_is : {m n : Message (Batch Args)} → ◌≡◌ {A = Content Args Row Reply} (Synod m) (Synod n) → m ≡ n
  synod_is e = cc

  tells : (me : NodeId) (m : Message (Batch Args)) (p : Packet Args Row Reply) (slot : Slot) → p.from ≡ me → p.content ≡ Synod m → (x : Said (Batch Args)) → SaidBy slot p x → Tells me.replica m slot x
  tells me m p slot from content (Reports a b r) said = (sym said.0 ∙ ap (λ i. i.replica) from, synod_is (sym said.1 ∙ content))
  tells me m p slot from content (Proposes b x) said = synod_is (sym said ∙ content)
  tells me m p slot from content (Votes a b x) said = (sym said.0 ∙ ap (λ i. i.replica) from, synod_is (sym said.1 ∙ content))

  pub told : (p : Packet Args Row Reply) (m : Message (Batch Args)) (slot : Slot) → p.content ≡ Synod m → (x : Said (Batch Args)) → Tells p.from.replica m slot x → SaidBy slot p x
  told p m slot content (Reports a b r) t = (sym t.0, content ∙ ap Synod (sym t.1))
  told p m slot content (Proposes b x) t = content ∙ ap Synod (sym t)
  told p m slot content (Votes a b x) t = (sym t.0, content ∙ ap Synod (sym t.1))

  -- what the packets say is what the letters say
  pub record SayTheSame (me : NodeId) (letters : Letters (Batch Args)) (packets : List (Packet Args Row Reply)) : Type 0 where
    pub says : (slot : Slot) (x : Said (Batch Args)) → sent_in packets slot x → Says me.replica letters slot x
    pub said : (slot : Slot) (x : Said (Batch Args)) → Says me.replica letters slot x → sent_in packets slot x

  pub letters_say : (size : ℕ) (me : NodeId) (letters : Letters (Batch Args)) → 0 < size → SayTheSame me letters (synod_packets size me letters)
  letters_say size me Silent some = record { says = λ slot x s. absurd (none_in s.0 s.1); said = λ slot x t. absurd t }
  letters_say size me (ToOne r m) some =
      let a : Packet Args Row Reply = record { from = me; to = AtNode (record { replica = r; partition = me.partition }); content = Synod m } in
      record {
        says = λ slot x s. let is = only_in a s.0 s.1 in tells me m s.0 slot (sym (ap (λ p. p.from) is)) (sym (ap (λ p. p.content) is)) x s.2;
        said = λ slot x t. (a, first_in a [], told a m slot refl x t);
      }
  letters_say zero me (ToAll m) some = absurd (omega (arith, some))
  letters_say (suc n) me (ToAll m) some =
      let f : ℕ → Packet Args Row Reply = (λ (r : ℕ). record { from = me; to = AtNode (record { replica = r; partition = me.partition }); content = Synod m }) in
      record {
        says = λ slot x s. let is = (from_map f (range_with_len 0 (suc n)) s.0 s.1).1 in tells me m s.0 slot (sym (ap (λ p. p.from) is)) (sym (ap (λ p. p.content) is)) x s.2;
        said = λ slot x t. (f 0, (0, omega arith, refl), told (f 0) m slot refl x t);
      }

  pub say_more : (me : NodeId) (letters : Letters (Batch Args)) (packets quiet : List (Packet Args Row Reply)) → SayTheSame me letters packets → AreQuiet quiet → SayTheSame me letters (packets ++ quiet)
  say_more me letters packets quiet same still = record {
    says = λ slot x s. elim (sent_cases packets quiet slot x s) [ inl old ↦ same.says slot x old | inr new ↦ absurd (quiet_says_nothing quiet still slot x new) ];
    said = λ slot x t. sent_more packets quiet slot x (same.said slot x t);
  }

  abbrev pub AllHold : WorldState Args Row Reply → Type 0
  AllHold w = (slot : Slot) → slot.group < w.config.partitions → Holds w.config.replicas (sent_in w.packets slot) (seats_of w slot)

  pub record Kept (w : WorldState Args Row Reply) : Type 0 where
    pub placed : (i : ℕ) (x : NodeState Args Row) → slice_get w.nodes i ≡ Some x → (i ≡ index_of w.config.partitions x.id) × (x.id.replica < w.config.replicas) × (x.id.partition < w.config.partitions)
    pub synod : AllHold w
    pub held : (i : ℕ) (x : NodeState Args Row) → slice_get w.nodes i ≡ Some x → (slot : Slot) (batch : Batch Args) → get x.held slot ≡ Some batch → Chosen w slot batch
    pub decided : (p : Packet Args Row Reply) → Contains w.packets p → (slot : Slot) (batch : Batch Args) → p.content ≡ Decided slot batch → Chosen w slot batch
    -- what a learner gave is held
    pub given : (i : ℕ) (x : NodeState Args Row) → slice_get w.nodes i ≡ Some x → (slot : Slot) → get x.synod.learner.given slot ≢ None → get x.held slot ≢ None
    -- what is said is of a group that is there, since only its members speak of it
    pub grouped : (slot : Slot) (y : Said (Batch Args)) → sent_in w.packets slot y → slot.group < w.config.partitions

  -- so is what is chosen
  pub chosen_group : (w : WorldState Args Row Reply) → Kept w → (slot : Slot) (batch : Batch Args) → Chosen w slot batch → slot.group < w.config.partitions
  chosen_group w kept slot batch (b, q, majority, cast) = let one = majority_member majority in kept.grouped slot (Votes one.0 b batch) (cast one.0 one.1)

  pub its_id : (w : WorldState Args Row Reply) → Kept w → (me : NodeId) (x : NodeState Args Row) → IsNode w me x → x.id ≡ me
  its_id w kept me x is = let at = kept.placed (index_of w.config.partitions me) x is.there in same_index w.config.partitions x.id me at.2 is.partition (sym at.0)

  abbrev pub NoneDecided : List (Packet Args Row Reply) → Type 0
  NoneDecided packets = (p : Packet Args Row Reply) → Contains packets p → (slot : Slot) (batch : Batch Args) → p.content ≡ Decided slot batch → ⊥

  -- one node changes
  module _ (w : WorldState Args Row Reply) (me : NodeId) (x next : NodeState Args Row) (sent : List (Packet Args Row Reply)) (is : IsNode w me x) where
    abbrev pub after : WorldState Args Row Reply
    after = record { config = w.config; nodes = slice_set w.nodes (index_of w.config.partitions me) next; packets = w.packets ++ sent }

    abbrev own : Slot → Type 0
    own slot = slot.group ≡ me.partition

    pub seat_before : (slot : Slot) → own slot → seats_of w slot me.replica ≡ seat_of x.synod slot
    seat_before slot e = ap (λ p. seat_of (synod_of (slice_get w.nodes (index_of w.config.partitions (record { replica = me.replica; partition = p })))) slot) e ∙ ap (λ n. seat_of (synod_of n) slot) is.there

    seat_after : (slot : Slot) → own slot → seats_of after slot me.replica ≡ seat_of next.synod slot
    seat_after slot e =
        ap (λ p. seat_of (synod_of (slice_get after.nodes (index_of w.config.partitions (record { replica = me.replica; partition = p })))) slot) e
        ∙ ap (λ n. seat_of (synod_of n) slot) (set_here w.nodes (index_of w.config.partitions me) next x is.there)

    seat_other : (slot : Slot) (r : ℕ) → slot.group < w.config.partitions → member_of slot r ≢ me → seats_of after slot r ≡ seats_of w slot r
    seat_other slot r less apart = ap (λ n. seat_of (synod_of n) slot) (set_other w.nodes (index_of w.config.partitions me) (index_of w.config.partitions (member_of slot r)) next (λ e. apart (same_index w.config.partitions (member_of slot r) me less is.partition e)))

    pub record Stays : Type 0 where
      pub same : next.synod ≡ x.synod
      pub quiet : AreQuiet sent

    pub record Moves : Type 0 where
      pub slot : Slot
      pub letters : Letters (Batch Args)
      pub of_group : own slot
      pub given : Option (Slot × Batch Args)
      pub speaks : SpeaksOf me.replica slot (Does next.synod letters given)
      pub right : (k : Slot) → own k → RightDeed w.config.replicas (sent_in w.packets k) k me.replica x.synod (Does next.synod letters given)
      pub same_said : SayTheSame me letters sent

    stays_keep : AllHold w → Stays → AllHold after
    stays_keep all still slot less =
        idle_keeps (all slot less) (let r = is.replica in omega (arith, r))
        (sent_more w.packets sent slot)
        (λ y s. elim (sent_cases w.packets sent slot y s) [ inl old ↦ old | inr new ↦ absurd (quiet_says_nothing sent still.quiet slot y new) ])
        (λ r. seat r (cases_eq slot.group me.partition) (cases_eq r me.replica))
      where
        seat : (r : ℕ) → (slot.group ≡ me.partition) ⊎ (slot.group ≢ me.partition) → (r ≡ me.replica) ⊎ (r ≢ me.replica) → seats_of after slot r ≡ seats_of w slot r
        seat r (inl e) (inl f) = subst (λ r. seats_of after slot r ≡ seats_of w slot r) (sym f) (seat_after slot e ∙ ap (λ s. seat_of s slot) still.same ∙ sym (seat_before slot e))
        seat r (inl e) (inr f) = seat_other slot r less (λ same. f (ap (λ i. i.replica) same))
        seat r (inr e) f = seat_other slot r less (λ same. e (ap (λ i. i.partition) same))

    moves_keep_all : AllHold w → Moves → AllHold after
    moves_keep_all all deed slot less = go (cases_eq slot.group me.partition)
      where
        some : 0 < w.config.replicas
        some = let r = is.replica in omega (arith, r)

        go : (slot.group ≡ me.partition) ⊎ (slot.group ≢ me.partition) → Holds w.config.replicas (sent_in after.packets slot) (seats_of after slot)
        go (inl e) =
            deed_keeps (all slot less) slot me.replica x.synod next.synod (Says me.replica deed.letters slot) is.replica
            (seat_before slot e) (seat_after slot e) (deed.right slot e)
            (sent_more w.packets sent slot)
            (λ y n. sent_new w.packets sent slot y (deed.same_said.said slot y n))
            (λ y s. elim (sent_cases w.packets sent slot y s) [ inl old ↦ inl old | inr new ↦ inr (deed.same_said.says slot y new) ])
            (λ r apart. seat_other slot r less (λ same. apart (ap (λ i. i.replica) same)))
        go (inr e) =
            idle_keeps (all slot less) some
            (sent_more w.packets sent slot)
            (λ y s. elim (sent_cases w.packets sent slot y s) [ inl old ↦ old | inr new ↦ absurd (e (ap (λ k. k.group) (deed.speaks slot y (deed.same_said.says slot y new)) ∙ deed.of_group)) ])
            (λ r. seat_other slot r less (λ same. e (ap (λ i. i.partition) same)))

    pub chosen_on : (slot : Slot) (batch : Batch Args) → Chosen w slot batch → Chosen after slot batch
    chosen_on slot batch (b, q, majority, cast) = (b, q, majority, λ a i. sent_more w.packets sent slot (Votes a b batch) (cast a i))

    -- what an event owes to agreement
    pub record Owed : Type 0 where
      pub same_id : next.id ≡ x.id
      pub synod : Stays ⊎ Moves
      pub held : (slot : Slot) (batch : Batch Args) → get next.held slot ≡ Some batch → (get x.held slot ≡ Some batch) ⊎ Chosen after slot batch
      pub given : (slot : Slot) → get next.synod.learner.given slot ≢ None → get next.held slot ≢ None
      pub decided : (p : Packet Args Row Reply) → Contains sent p → (slot : Slot) (batch : Batch Args) → p.content ≡ Decided slot batch → Chosen after slot batch

    pub owed_keeps : Kept w → Owed → Kept after
    owed_keeps kept owed = record {
      placed = λ i y there. place i y there (cases_eq i (index_of w.config.partitions me));
      synod = all;
      held = λ i y there slot batch g. hold i y there slot batch g (cases_eq i (index_of w.config.partitions me));
      given = λ i y there slot g. give i y there slot g (cases_eq i (index_of w.config.partitions me));
      decided = λ p c slot batch e. elim (Contains-append_cases w.packets sent p c) [
        | inl old ↦ chosen_on slot batch (kept.decided p old slot batch e)
        | inr new ↦ owed.decided p new slot batch e
      ];
      grouped = λ slot y s. elim (sent_cases w.packets sent slot y s) [ inl old ↦ kept.grouped slot y old | inr new ↦ group_of slot y new owed.synod ];
    }
      where
        all : AllHold after
        all = elim owed.synod [ inl still ↦ stays_keep kept.synod still | inr deed ↦ moves_keep_all kept.synod deed ]

        group_of : (slot : Slot) (y : Said (Batch Args)) → sent_in sent slot y → Stays ⊎ Moves → slot.group < w.config.partitions
        group_of slot y new (inl still) = absurd (quiet_says_nothing sent still.quiet slot y new)
        group_of slot y new (inr deed) = let own = ap (λ (k : Slot). k.group) (deed.speaks slot y (deed.same_said.says slot y new)) ∙ deed.of_group in let p = is.partition in omega (arith, own, p)

        is_next : (i : ℕ) (y : NodeState Args Row) → slice_get after.nodes i ≡ Some y → i ≡ index_of w.config.partitions me → next ≡ y
        is_next i y there e = some_is (sym (set_here w.nodes (index_of w.config.partitions me) next x is.there) ∙ ap (slice_get after.nodes) (sym e) ∙ there)

        is_old : (i : ℕ) (y : NodeState Args Row) → slice_get after.nodes i ≡ Some y → i ≢ index_of w.config.partitions me → slice_get w.nodes i ≡ Some y
        is_old i y there apart = sym (set_other w.nodes (index_of w.config.partitions me) i next apart) ∙ there

        place : (i : ℕ) (y : NodeState Args Row) → slice_get after.nodes i ≡ Some y → (i ≡ index_of w.config.partitions me) ⊎ (i ≢ index_of w.config.partitions me) → (i ≡ index_of w.config.partitions y.id) × (y.id.replica < w.config.replicas) × (y.id.partition < w.config.partitions)
        place i y there (inl e) =
            let at = kept.placed (index_of w.config.partitions me) x is.there in
            let same : x.id ≡ y.id = sym owed.same_id ∙ ap (λ n. n.id) (is_next i y there e) in
            subst (λ id. (i ≡ index_of w.config.partitions id) × (id.replica < w.config.replicas) × (id.partition < w.config.partitions)) same (e ∙ at.0, at.1, at.2)
        place i y there (inr apart) = kept.placed i y (is_old i y there apart)

        give : (i : ℕ) (y : NodeState Args Row) → slice_get after.nodes i ≡ Some y → (slot : Slot) → get y.synod.learner.given slot ≢ None → (i ≡ index_of w.config.partitions me) ⊎ (i ≢ index_of w.config.partitions me) → get y.held slot ≢ None
        give i y there slot g (inl e) = subst (λ (n : NodeState Args Row). get n.synod.learner.given slot ≢ None → get n.held slot ≢ None) (is_next i y there e) (owed.given slot) g
        give i y there slot g (inr apart) = kept.given i y (is_old i y there apart) slot g

        hold : (i : ℕ) (y : NodeState Args Row) → slice_get after.nodes i ≡ Some y → (slot : Slot) (batch : Batch Args) → get y.held slot ≡ Some batch → (i ≡ index_of w.config.partitions me) ⊎ (i ≢ index_of w.config.partitions me) → Chosen after slot batch
        hold i y there slot batch g (inl e) = elim (owed.held slot batch (ap (λ n. get n.held slot) (is_next i y there e) ∙ g)) [
          | inl old ↦ chosen_on slot batch (kept.held (index_of w.config.partitions me) x is.there slot batch old)
          | inr new ↦ new
        ]
        hold i y there slot batch g (inr apart) = chosen_on slot batch (kept.held i y (is_old i y there apart) slot batch g)
