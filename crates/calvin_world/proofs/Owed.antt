-- Every event gives what it owes to agreement, so the nodes agree after every list of events.
use Rattle.std.proofs.Common.{◌≡◌, ◌≢◌, ℕ, ◌<◌, List, [], ◌∷◌, ◌++◌, ◌⊎◌, inl, inr, refl, sym, ap, ◌∙◌, subst, arith, Bool, true, false, cond, Option, Some, None}
use Rattle.std.specs.Prelude.{slice_get}
use Rattle.std.specs.List.{Contains, range_with_len}
use Rattle.std.specs.FinMap.{get, insert, get-empty}
use Rattle.std.proofs.lemmas.List.Elements.{Contains-append_cases}
use Rattle.calvin_app.specs.Meaning.{Meaning}
use Rattle.calvin_bench.specs.Turns.{site_of}
use Rattle.calvin_node_acts.specs.Handling.{counted}
use Rattle.calvin_node_acts.specs.NodeStates.{NodeState, own_slot, holding, with_synod, with_scheduler, restarted}
use Rattle.calvin_node_packets.specs.declared.packet.Content.{Content}
use Rattle.calvin_node_packets.specs.declared.packet.Packet.{Packet}
use Rattle.calvin_node_packets.specs.declared.packet.Address.TheVariants.{AtNode}
use Rattle.calvin_node_packets.specs.declared.packet.Content.TheVariants.{Synod, Decided, AskBatch, Reads, AskReads, Warm, Replies}
use Rattle.calvin_lock.specs.Local.{local_sets}
use Rattle.calvin_node_packets.specs.Packets.{synod_packets, to_each, others, participants, warm_packets, telling}
use Rattle.calvin_order.specs.Merged.{Batch}
use Rattle.calvin_sched.specs.Scheduling.{other_active, reads_here}
use Rattle.calvin_synod.specs.Cases.{slot_of, Replica, Letters, Silent, ToOne, ToAll, Deed, Does, handle, propose, restart}
use Rattle.calvin_synod.specs.declared.message.Message.{Message}
use Rattle.calvin_types.proofs.SlotMaps.{same_slot_or_not, get_here, get_other}
use Rattle.calvin_types.specs.Places.{slot_cmp}
use Rattle.calvin_types.specs.declared.key_set.Sets.{Sets}
use Rattle.calvin_types.specs.declared.place.NodeId.{NodeId}
use Rattle.calvin_types.specs.declared.txn.Txn.{Txn}
use Rattle.calvin_types.specs.declared.place.Slot.{Slot}
use Rattle.calvin_world.proofs.Cases.{Handles, Acts, restarted_synod}
use Rattle.calvin_world.specs.Promises.{IsNode, Chosen}
use Rattle.calvin_node_acts.specs.declared.act.Act.{Act}
use Rattle.calvin_node_acts.specs.declared.act.Act.TheVariants.{Submit, SubmitCold, Cool, Close, Merge, Lock, Restart, Propose, Snapshot, Mark, Begin, Finish, AskForReads, AskForBatch}
use Rattle.calvin_world.specs.Worlds.{WorldState, index_of}
use Rattle.calvin_synod.proofs.Replicas.{HoldsAt, holds_at}
use Rattle.calvin_synod.proofs.Core.{Said}
use Rattle.calvin_synod.proofs.Cases.{seat_of, Tells, SpeaksOf, RightDeed, Gives, handle_right, handle_speaks, handle_gives, propose_speaks, propose_gives, restart_right, propose_right}
use Rattle.calvin_synod.proofs.Giving.{gives_slot}
use Rattle.calvin_bench.proofs.Lists.{none_in, only_in, from_map}
use Rattle.calvin_world.proofs.Given.{GivesAll, handle_gives_all, propose_gives_all, holding_grows, counted_grows, given_held}
use Rattle.calvin_world.proofs.Kept.{synod_of, sent_in, AreQuiet, none_quiet, SayTheSame, letters_say, say_more, told, Kept, its_id, Moves, chosen_on, Owed}

some_is : {X : Type 0} {x y : X} → Some x ≡ Some y → x ≡ y
some_is e = cc

none_not_some : {X : Type 0} {x : X} → None ≡ Some x → ⊥
none_not_some e = cc

module _ {Args Row Reply : Type 0} where
  -- words that are neither the synod's nor a decided batch
  abbrev IsPlain : Content Args Row Reply → Type 0
  IsPlain (Synod m) = ⊥
  IsPlain (Decided slot batch) = ⊥
  IsPlain _ = Unit {0}

  abbrev ArePlain : List (Packet Args Row Reply) → Type 0
  ArePlain packets = (p : Packet Args Row Reply) → Contains packets p → IsPlain p.content

  none_plain : ArePlain []
  none_plain p c = absurd (none_in p c)

  one_plain : (a : Packet Args Row Reply) → IsPlain a.content → ArePlain (a ∷ [])
  one_plain a plain p c = subst (λ (p : Packet Args Row Reply). IsPlain p.content) (only_in a p c) plain

  each_plain : (me : NodeId) (replica : ℕ) (content : Content Args Row Reply) (ps : List ℕ) → IsPlain content → ArePlain (to_each me replica content ps)
  each_plain me replica content ps plain p c =
      let is = from_map (λ (q : ℕ). record { from = me; to = AtNode (record { replica = replica; partition = q }); content = content }) ps p c in
      subst (λ (p : Packet Args Row Reply). IsPlain p.content) is.1 plain

  -- what is told of a decided batch
  pub telling_word : (parts : ℕ) (me : NodeId) (o : Option (Slot × Batch Args)) (p : Packet Args Row Reply) → Contains (telling parts me o) p → (g : Slot × Batch Args) × (p.content ≡ Decided g.0 g.1) × (o ≡ Some g)
  telling_word parts me None p c = absurd (none_in p c)
  telling_word parts me (Some g) p c =
      let is = from_map (λ (q : ℕ). record { from = me; to = AtNode (record { replica = me.replica; partition = q }); content = Decided g.0 g.1 }) (others parts me.partition) p c in
      (g, sym (ap (λ (p : Packet Args Row Reply). p.content) is.1), refl)

  -- each is to warm its keys
  pub warm_word : (parts : ℕ) (me : NodeId) (t : Txn Args) (ps : List ℕ) (p : Packet Args Row Reply) → Contains (warm_packets parts me t ps) p → (sets : Sets) × (p.content ≡ Warm sets)
  warm_word parts me t ps p c =
      let f : ℕ → Packet Args Row Reply = (λ q. record { from = me; to = AtNode (record { replica = me.replica; partition = q }); content = Warm (local_sets (site_of parts q) t.sets) }) in
      let is = from_map f ps p c in
      (local_sets (site_of parts is.0) t.sets, sym (ap (λ (p : Packet Args Row Reply). p.content) is.1))

  warm_plain : (parts : ℕ) (me : NodeId) (t : Txn Args) (ps : List ℕ) → ArePlain (warm_packets parts me t ps)
  warm_plain parts me t ps p c = subst IsPlain (sym (warm_word parts me t ps p c).1) tt

  pub letters_word : (size : ℕ) (me : NodeId) (letters : Letters (Batch Args)) (p : Packet Args Row Reply) → Contains (synod_packets size me letters) p → (m : Message (Batch Args)) × (p.content ≡ Synod m)
  letters_word size me Silent p c = absurd (none_in p c)
  letters_word size me (ToOne r m) p c = (m, sym (ap (λ (p : Packet Args Row Reply). p.content) (only_in _ p c)))
  letters_word size me (ToAll m) p c =
      let is = from_map (λ (r : ℕ). record { from = me; to = AtNode (record { replica = r; partition = me.partition }); content = Synod m }) (range_with_len 0 size) p c in
      (m, sym (ap (λ (p : Packet Args Row Reply). p.content) is.1))

  different : {m : Message (Batch Args)} {slot : Slot} {batch : Batch Args} → ◌≡◌ {A = Content Args Row Reply} (Synod m) (Decided slot batch) → ⊥
  different e = cc

  same_decided : {k slot : Slot} {b batch : Batch Args} → ◌≡◌ {A = Content Args Row Reply} (Decided k b) (Decided slot batch) → (k ≡ slot) × (b ≡ batch)
  same_decided e = (cc, cc)

  module _ (w : WorldState Args Row Reply) (kept : Kept w) (me : NodeId) (x : NodeState Args Row) (is : IsNode w me x) where
    same_me : x.id ≡ me
    same_me = its_id w kept me x is

    -- what its learner gave is held
    before : (slot : Slot) → get x.synod.learner.given slot ≢ None → get x.held slot ≢ None
    before slot g = kept.given (index_of w.config.partitions me) x is.there slot g

    some : 0 < w.config.replicas
    some = let r = is.replica in omega (arith, r)

    -- by what the node becomes, and what is sent
    by_both : (next y : NodeState Args Row) (sent packets : List (Packet Args Row Reply)) → next ≡ y → sent ≡ packets → Owed w me x y packets is → Owed w me x next sent is
    by_both next y sent packets e f owed = subst (λ (z : NodeState Args Row × List (Packet Args Row Reply)). Owed w me x z.0 z.1 is) (λ i. (sym e i, sym f i)) owed

    plain_owed : (y : NodeState Args Row) (packets : List (Packet Args Row Reply)) → y.id ≡ x.id → y.synod ≡ x.synod → y.held ≡ x.held → ArePlain packets → Owed w me x y packets is
    plain_owed y packets e f g plain = record {
      same_id = e;
      synod = inl (record { same = f; quiet = λ p c m content. subst IsPlain content (plain p c) });
      held = λ slot batch h. inl (ap (λ held. get held slot) (sym g) ∙ h);
      given = λ slot gave none. before slot (λ e. gave (ap (λ (s : Replica (Batch Args)). get s.learner.given slot) f ∙ e)) (ap (λ held. get held slot) (sym g) ∙ none);
      decided = λ p c slot batch content. absurd (subst IsPlain content (plain p c));
    }

    -- a slot more is held
    held_cases : (y : NodeState Args Row) (slot : Slot) (batch : Batch Args) (k : Slot) (b : Batch Args) → get (holding y slot batch).held k ≡ Some b → (get y.held k ≡ Some b) ⊎ ((k ≡ slot) × (batch ≡ b))
    held_cases y slot batch k b h = elim (same_slot_or_not k slot) [
      | inl e ↦ inr (e, some_is (sym (get_here y.held slot batch) ∙ ap (get (insert y.held slot batch)) (sym e) ∙ h))
      | inr apart ↦ inl (sym (get_other y.held slot batch k apart) ∙ h)
    ]

    counted_cases : (y : NodeState Args Row) (o : Option (Slot × Batch Args)) (k : Slot) (b : Batch Args) → get (counted y o).held k ≡ Some b → (get y.held k ≡ Some b) ⊎ (o ≡ Some (k, b))
    counted_cases y None k b h = inl h
    counted_cases y (Some g) k b h = elim (held_cases y g.0 g.1 k b h) [ inl old ↦ inl old | inr new ↦ inr (λ i. Some (sym new.0 i, new.1 i)) ]

    counted_same : (y : NodeState Args Row) (o : Option (Slot × Batch Args)) → ((counted y o).id ≡ y.id) × ((counted y o).synod ≡ y.synod)
    counted_same y None = (refl, refl)
    counted_same y (Some g) = (refl, refl)

    -- the deed of a synod
    moves : (y : NodeState Args Row) (packets : List (Packet Args Row Reply)) (k : Slot) (deed : Deed (Batch Args)) (s : Replica (Batch Args)) (letters : Letters (Batch Args)) (given : Option (Slot × Batch Args)) → y.synod ≡ s → deed ≡ Does s letters given → k.group ≡ me.partition
        → SpeaksOf me.replica k deed → ((slot : Slot) → slot.group ≡ me.partition → RightDeed w.config.replicas (sent_in w.packets slot) slot me.replica x.synod deed) → SayTheSame me letters packets → Moves w me x y packets is
    moves y packets k deed s letters given e f own speaks right same =
        let is_deed : deed ≡ Does y.synod letters given = f ∙ ap (λ s. Does s letters given) (sym e) in record {
          slot = k;
          letters = letters;
          of_group = own;
          given = given;
          speaks = subst (SpeaksOf me.replica k) is_deed speaks;
          right = λ slot e. subst (RightDeed w.config.replicas (sent_in w.packets slot) slot me.replica x.synod) is_deed (right slot e);
          same_said = same;
        }

    letters_same : (letters : Letters (Batch Args)) → SayTheSame {Args = Args} {Row = Row} {Reply = Reply} me letters (synod_packets w.config.replicas x.id letters)
    letters_same letters = subst (λ id. SayTheSame {Args = Args} {Row = Row} {Reply = Reply} id letters (synod_packets w.config.replicas x.id letters)) same_me (letters_say w.config.replicas x.id letters some)

    seat_holds : (slot : Slot) → slot.group ≡ me.partition → HoldsAt w.config.replicas (sent_in w.packets slot) me.replica (seat_of x.synod slot)
    seat_holds slot own = holds_at (kept.synod slot (less slot own)) me.replica (seat_of x.synod slot) (ap (λ p. seat_of (synod_of (slice_get w.nodes (index_of w.config.partitions (record { replica = me.replica; partition = p })))) slot) own ∙ ap (λ n. seat_of (synod_of n) slot) is.there)
      where
        less : (slot : Slot) → slot.group ≡ me.partition → slot.group < w.config.partitions
        less slot own = subst (λ p. p < w.config.partitions) (sym own) is.partition

    less : (slot : Slot) → slot.group ≡ me.partition → slot.group < w.config.partitions
    less slot own = subst (λ p. p < w.config.partitions) (sym own) is.partition

    -- a synod's deed, with what its learner gives
    deed_owed : (k : Slot) (deed : Deed (Batch Args)) (s : Replica (Batch Args)) (letters : Letters (Batch Args)) (given : Option (Slot × Batch Args)) → deed ≡ Does s letters given → GivesAll x.synod deed → k.group ≡ me.partition → SpeaksOf me.replica k deed
        → ((slot : Slot) → slot.group ≡ me.partition → RightDeed w.config.replicas (sent_in w.packets slot) slot me.replica x.synod deed) → ((slot : Slot) (batch : Batch Args) → Gives deed slot batch → Chosen w slot batch)
        → Owed w me x (counted (with_synod x s) given) (synod_packets w.config.replicas x.id letters ++ telling w.config.partitions x.id given) is
    deed_owed k deed s letters given does gives_all own speaks right gives =
        let y = counted (with_synod x s) given in
        let packets = synod_packets w.config.replicas x.id letters ++ telling w.config.partitions x.id given in
        let quiet : AreQuiet (telling w.config.partitions x.id given) = (λ q d n g. let t = telling_word w.config.partitions x.id given q d in different (sym g ∙ t.1)) in
        record {
          same_id = (counted_same (with_synod x s) given).0;
          synod = inr (moves y packets k deed s letters given (counted_same (with_synod x s) given).1 does own speaks right (say_more me letters (synod_packets w.config.replicas x.id letters) (telling w.config.partitions x.id given) (letters_same letters) quiet));
          held = λ slot batch h. elim (counted_cases (with_synod x s) given slot batch h) [
            | inl old ↦ inl old
            | inr new ↦ inr (chosen_on w me x y packets is slot batch (gives slot batch (given_by slot batch new)))
          ];
          given = λ slot g. elim (subst (GivesAll x.synod) does gives_all slot (subst (λ (s : Replica (Batch Args)). get s.learner.given slot ≢ None) (counted_same (with_synod x s) given).1 g)) [
            | inl old ↦ counted_grows (with_synod x s) given slot (before slot old)
            | inr new ↦ given_held (with_synod x s) given slot new.0 new.1
          ];
          decided = λ q d slot batch g. elim (Contains-append_cases (synod_packets w.config.replicas x.id letters) (telling w.config.partitions x.id given) q d) [
            | inl old ↦ absurd (different (sym (letters_word w.config.replicas x.id letters q old).1 ∙ g))
            | inr new ↦
                let t = telling_word w.config.partitions x.id given q new in
                let same = same_decided (sym t.1 ∙ g) in
                chosen_on w me x y packets is slot batch (gives slot batch (given_by slot batch (t.2 ∙ (λ i. Some (same.0 i, same.1 i)))))
          ];
        }
      where
        given_by : (slot : Slot) (batch : Batch Args) → given ≡ Some (slot, batch) → Gives deed slot batch
        given_by slot batch e = subst (λ (d : Deed (Batch Args)). Gives d slot batch) (sym does) e

    -- a packet that was sent to the node
    pub handles_owed : (m : Meaning Args Row Reply) (p : Packet Args Row Reply) (content : Content Args Row Reply) → Contains w.packets p → p.content ≡ content → (next : NodeState Args Row) (sent : List (Packet Args Row Reply)) → Handles m w.config p.from content x next sent → Owed w me x next sent is
    handles_owed m p (Synod message) c content next sent (own, s, letters, given, does, e, f) =
        by_both next _ sent _ e f (deed_owed (slot_of message) (handle w.config.replicas p.from.replica message x.synod) s letters given does (handle_gives_all x.synod w.config.replicas p.from.replica message) (own ∙ ap (λ id. id.partition) same_me)
        (handle_speaks w.config.replicas me.replica x.synod p.from.replica message)
        (λ slot here. handle_right (kept.synod slot (less slot here)).sound slot me.replica x.synod (seat_holds slot here) p.from.replica message (heard slot))
        (λ slot batch g.
        let here : slot.group ≡ me.partition = ap (λ (k : Slot). k.group) (gives_slot w.config.replicas p.from.replica message x.synod slot batch g) ∙ own ∙ ap (λ id. id.partition) same_me in
        handle_gives (kept.synod slot (less slot here)).sound slot me.replica x.synod (seat_holds slot here) p.from.replica message (heard slot) batch g))
      where
        heard : (slot : Slot) (y : Said (Batch Args)) → Tells p.from.replica message slot y → sent_in w.packets slot y
        heard slot y t = (p, c, told p message slot content y t)
    handles_owed m p (Decided k v) c content next sent (e, f) = by_both next (holding x k v) sent [] e f (record {
      same_id = refl;
      synod = inl (record { same = refl; quiet = none_quiet });
      held = λ slot batch h. elim (held_cases x k v slot batch h) [
        | inl old ↦ inl old
        | inr new ↦ inr (chosen_on w me x (holding x k v) [] is slot batch (kept.decided p c slot batch (content ∙ (λ i. Decided (sym new.0 i) (new.1 i)))))
      ];
      given = λ slot g. holding_grows x k v slot (before slot g);
      decided = λ q d. absurd (none_in q d);
    })
    handles_owed m p (AskBatch k) c content next sent (batch, has, e, f) =
        let a : Packet Args Row Reply = record { from = x.id; to = AtNode p.from; content = Decided k batch } in
        by_both next x sent (a ∷ []) e f (record {
          same_id = refl;
          synod = inl (record { same = refl; quiet = λ q d n g. different (sym g ∙ sym (ap (λ (q : Packet Args Row Reply). q.content) (only_in a q d))) });
          held = λ slot b h. inl h;
          given = before;
          decided = λ q d slot b g.
              let same = same_decided (ap (λ (q : Packet Args Row Reply). q.content) (only_in a q d) ∙ g) in
              chosen_on w me x x (a ∷ []) is slot b (kept.held (index_of w.config.partitions me) x is.there slot b (ap (get x.held) (sym same.0) ∙ has ∙ ap Some same.1));
        })
    handles_owed m p (Reads q rows) c content next sent (s, does, e, f) = by_both next _ sent _ e f (plain_owed (with_scheduler x s x.pending) [] refl refl refl none_plain)
    handles_owed m p (Warm sets) c content next sent (e, f) = by_both next _ sent _ e f (plain_owed _ [] refl refl refl none_plain)
    handles_owed m p (AskReads q) c content next sent (j, has, began, e, f) = by_both next _ sent _ e f (plain_owed x _ refl refl refl (one_plain _ tt))
    handles_owed m p (Replies q id attempt answer) c content next sent h = absurd h

    reads_plain : (b : Bool) (packets : List (Packet Args Row Reply)) → ArePlain packets → ArePlain (cond b packets [])
    reads_plain true packets plain = plain
    reads_plain false packets plain = none_plain

    pub acts_owed : (m : Meaning Args Row Reply) (act : Act Args) (next : NodeState Args Row) (sent : List (Packet Args Row Reply)) → Acts m w.config act x next sent → Owed w me x next sent is
    acts_owed m (Submit t) next sent (e, f) = by_both next _ sent _ e f (plain_owed _ [] refl refl refl none_plain)
    acts_owed m (SubmitCold t) next sent (e, f) = by_both next _ sent _ e f (plain_owed _ _ refl refl refl (warm_plain w.config.partitions x.id t (participants w.config.partitions t)))
    acts_owed m (Cool k) next sent (e, f) = by_both next _ sent _ e f (plain_owed _ [] refl refl refl none_plain)
    acts_owed m Close next sent (e, f) = by_both next _ sent _ e f (plain_owed _ [] refl refl refl none_plain)
    acts_owed m (Propose n) next sent (batch, closed, s, letters, given, does, e, f) =
        let k = own_slot x n in
        let own : k.group ≡ me.partition = ap (λ id. id.partition) same_me in
        by_both next _ sent _ e f (deed_owed k (propose me.replica k batch x.synod) s letters given
        (ap (λ id. propose id.replica k batch x.synod) (sym same_me) ∙ does) (propose_gives_all x.synod me.replica k batch) own (propose_speaks me.replica x.synod k batch)
        (λ slot here. propose_right (kept.synod slot (less slot here)).sound slot me.replica x.synod (seat_holds slot here) k batch)
        (λ slot b g. absurd (propose_gives me.replica x.synod k batch slot b g)))
    acts_owed m Merge next sent (all_held, e, f) = by_both next _ sent _ e f (plain_owed _ [] refl refl refl none_plain)
    acts_owed m Lock next sent (q, t, rest, first, e, f) = by_both next _ sent _ e f (plain_owed _ [] refl refl refl none_plain)
    acts_owed m (Begin q) next sent (s, j, begins, has, began, e, f) = by_both next _ sent _ e f (plain_owed _ _ refl refl refl
        (reads_plain (reads_here (site_of w.config.partitions x.id.partition) j.request) _ (each_plain x.id x.id.replica (Reads q j.served) (other_active (site_of w.config.partitions x.id.partition) j.request) tt)))
    acts_owed m (Finish q) next sent (s, a, b, e, f) = by_both next _ sent _ e f (plain_owed _ _ refl refl refl (one_plain _ tt))
    acts_owed m (Snapshot n) next sent (rows, s, takes, e, f) = by_both next _ sent _ e f (plain_owed _ [] refl refl refl none_plain)
    acts_owed m (Mark n) next sent (s, marks, e, f) = by_both next _ sent _ e f (plain_owed _ [] refl refl refl none_plain)
    acts_owed m (AskForReads q r) next sent (ps, e, f) = by_both next _ sent _ e f (plain_owed x _ refl refl refl (each_plain x.id r (AskReads q) ps tt))
    acts_owed m (AskForBatch slot of) next sent (e, f) = by_both next _ sent _ e f (plain_owed x _ refl refl refl (one_plain _ tt))
    acts_owed m Restart next sent (e, f) =
        let k : Slot = record { epoch = 0; group = me.partition } in
        by_both next (restarted x (restarted_synod x.synod)) sent [] e f (record {
          same_id = refl;
          synod = inr (moves (restarted x (restarted_synod x.synod)) [] k (restart x.synod) (restarted_synod x.synod) Silent None refl refl refl (λ slot y t. absurd t)
              (λ slot here. restart_right (kept.synod slot (less slot here)).sound slot me.replica x.synod (seat_holds slot here))
              (letters_same Silent));
          held = λ slot batch h. absurd (none_not_some (sym (get-empty slot_cmp slot) ∙ h));
          given = λ slot g. absurd (g (get-empty slot_cmp slot));
          decided = λ q d. absurd (none_in q d);
        })
