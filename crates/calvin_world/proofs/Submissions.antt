-- Whatever is chosen was submitted, in time; and what is chosen stays chosen.
use Rattle.std.proofs.Common.{◌≡◌, ◌≢◌, ℕ, zero, suc, ◌+◌, ◌*◌, ◌/◌, ◌%◌, ◌<◌, ◌≤◌, Bool, true, false, cond, length, List, [], ◌∷◌, ◌⊎◌, inl, inr, refl, sym, ap, ◌∙◌, subst, arith, Option, Some, None}
use Rattle.std.specs.Prelude.{slice_get, slice_set}
use Rattle.std.specs.List.{Contains, range_with_len}
use Rattle.std.proofs.Math.Nat.{div-lt_iff_lt-mul}
use Rattle.std.proofs.lemmas.Nat.{div-mul-add}
use Rattle.std.specs.FinMap.{get, get-empty}
use Rattle.std.proofs.lemmas.Bool.{cases_lt, cases_eq, false≢true}
use Rattle.std.proofs.lemmas.Option.{none-some}
use Rattle.calvin_types.specs.declared.fault.Fault.{Fault}
use Rattle.calvin_types.specs.declared.key_set.Sets.{Sets}
use Rattle.calvin_types.specs.declared.place.NodeId.{NodeId}
use Rattle.calvin_types.specs.declared.place.Place.{Place}
use Rattle.calvin_types.specs.declared.place.RequestId.{RequestId}
use Rattle.calvin_types.specs.declared.place.Slot.{Slot}
use Rattle.calvin_types.specs.declared.txn.Txn.{Txn}
use Rattle.calvin_types.specs.Deeds.{Refuses, Does}
use Rattle.calvin_types.specs.Orders.{StandsAt}
use Rattle.calvin_types.specs.Places.{slot_cmp}
use Rattle.calvin_app.specs.declared.answer.Answer.{Answer}
use Rattle.calvin_app.specs.Meaning.{Meaning, WritesWithin}
use Rattle.calvin_synod.specs.Cases.{fresh}
use Rattle.calvin_synod.specs.declared.message.Message.{Message}
use Rattle.calvin_synod.proofs.Majorities.{majority_member}
use Rattle.calvin_synod.proofs.Core.{Votes}
use Rattle.calvin_order.specs.Configs.{Config, is_woven, at_number, layer, layers, woven, together, merged, stretch, order}
use Rattle.calvin_order.specs.Merged.{Batch, Assignment, joined, numbered}
use Rattle.calvin_order.specs.Sequencing.{is_used, next_epoch}
use Rattle.calvin_order.proofs.Joining.{numbered_stands}
use Rattle.calvin_order.proofs.Standing.{stands_split}
use Rattle.calvin_order.proofs.Epochs.{stretch_stands}
use Rattle.calvin_node_packets.specs.declared.packet.Address.{Address}
use Rattle.calvin_node_packets.specs.declared.packet.Packet.{Packet}
use Rattle.calvin_node_packets.specs.declared.packet.Address.TheVariants.{AtNode, AtClient}
use Rattle.calvin_node_packets.specs.declared.packet.Content.TheVariants.{Synod, Warm, Replies}
use Rattle.calvin_node_packets.specs.declared.packet.Content.{Content}
use Rattle.calvin_node_packets.specs.Packets.{participants}
use Rattle.calvin_node_acts.specs.NodeStates.{NodeState, new_node}
use Rattle.calvin_node_acts.specs.Handling.{NodeDeed, handle}
use Rattle.calvin_node_acts.specs.declared.act.Act.{Act}
use Rattle.calvin_node_acts.specs.declared.act.Act.TheVariants.{Submit, SubmitCold, Cool, Close, Merge, Lock, Restart, Propose, Snapshot, Mark, Begin, Finish, AskForReads, AskForBatch}
use Rattle.calvin_node_acts.specs.Acting.{deed_of, submitted}
use Rattle.calvin_world.specs.declared.event.Event.{Event}
use Rattle.calvin_world.specs.declared.event.Outcome.{Outcome}
use Rattle.calvin_world.specs.declared.event.Event.TheVariants.{At, Deliver}
use Rattle.calvin_world.specs.declared.event.Outcome.TheVariants.{Done, Refused}
use Rattle.calvin_world.specs.Worlds.{WorldState, index_of, opening, node_at, carry_out, at_node, deliver_to, deliver, happens, Step, Leads}
use Rattle.calvin_world.specs.Promises.{IsNode, Chosen, IsChosenUpTo, IsSubmitFor, Submits, Sometime}
use Rattle.calvin_world.proofs.Cases.{Acts, handle_does, acts_does}
use Rattle.calvin_bench.proofs.Lists.{only_in, set_here, set_other, get_map, contains_at, none_in, first_in, rest_too, of_append}
use Rattle.calvin_world.proofs.Mirror.{one_chosen}
use Rattle.calvin_world.proofs.Kept.{AreQuiet, none_quiet, quiet_says_nothing, sent_cases, Kept, chosen_group, its_id, after, chosen_on}
use Rattle.calvin_world.proofs.Owed.{warm_word}
use Rattle.calvin_order.proofs.NextEpochs.{first_least}
use Rattle.calvin_world.proofs.Sequencers.{slot_at, AllP}
use Rattle.calvin_world.proofs.Submits.{ValidNode, Valid, IsFit, stays_valid, handles_valid, acts_valid}
use Rattle.calvin_world.proofs.EveryEvent.{Both, is_there, step_both, leads_both, at_first, is_opening}

in_range : (a n i y : ℕ) → y ≡ a + i → i < n → slice_get (range_with_len a n) i ≡ Some y
in_range a zero i y e less = absurd (omega (arith, less))
in_range a (suc n) zero y e less = ap Some (omega (arith, e))
in_range a (suc n) (suc i) y e less = in_range (a + 1) n i y (omega (arith, e)) (omega (arith, less))

module _ {Args : Type 0} where
  numbered_batch : (e n : ℕ) (ts : Batch Args) (q : Place) (t : Txn Args) → StandsAt (numbered e n ts) q t → Contains ts t
  numbered_batch e n [] q t at = absurd at
  numbered_batch e n (u ∷ ts) q t (inl here) = subst (λ z. Contains (u ∷ ts) z) here.1 (first_in u ts)
  numbered_batch e n (u ∷ ts) q t (inr at) = rest_too u ts t (numbered_batch e (suc n) ts q t at)

  joined_batch : (B : Assignment Args) (e g : ℕ) (t : Txn Args) → Contains (joined B e g) t → (h : ℕ) × (h < g) × Contains (B (slot_at h e)) t
  joined_batch B e zero t c = absurd (none_in t c)
  joined_batch B e (suc g) t c = elim (of_append (joined B e g) (B (slot_at g e)) t c) [
    | inl old ↦ let more = joined_batch B e g t old in let less = more.1 in (more.0, omega (arith, less), more.2)
    | inr here ↦ (g, omega arith, here)
  ]

  of_number : (ts : Batch Args) (n : ℕ) (t : Txn Args) → Contains (at_number ts n) t → Contains ts t
  of_number [] n t c = absurd (none_in t c)
  of_number (u ∷ ts) zero t c = subst (λ z. Contains (u ∷ ts) z) (only_in u t c) (first_in u ts)
  of_number (u ∷ ts) (suc n) t c = rest_too u ts t (of_number ts n t c)

  layer_batch : (B : Assignment Args) (e g n : ℕ) (t : Txn Args) → Contains (layer B e g n) t → (h : ℕ) × (h < g) × Contains (B (slot_at h e)) t
  layer_batch B e zero n t c = absurd (none_in t c)
  layer_batch B e (suc g) n t c = elim (of_append (layer B e g n) (at_number (B (slot_at g e)) n) t c) [
    | inl old ↦ let more = layer_batch B e g n t old in let less = more.1 in (more.0, omega (arith, less), more.2)
    | inr here ↦ (g, omega arith, of_number (B (slot_at g e)) n t here)
  ]

  layers_batch : (B : Assignment Args) (e g k : ℕ) (t : Txn Args) → Contains (layers B e g k) t → (h : ℕ) × (h < g) × Contains (B (slot_at h e)) t
  layers_batch B e g zero t c = absurd (none_in t c)
  layers_batch B e g (suc k) t c = elim (of_append (layers B e g k) (layer B e g k) t c) [
    | inl old ↦ layers_batch B e g k t old
    | inr here ↦ layer_batch B e g k t here
  ]

  together_batch : (config : Config) (B : Assignment Args) (e : ℕ) (t : Txn Args) → Contains (together config B e) t → (h : ℕ) × (h < config.partitions) × Contains (B (slot_at h e)) t
  together_batch config B e t at = go (is_woven config.woven_from e) at
    where
      go : (b : Bool) → Contains (cond b (woven B e config.partitions) (joined B e config.partitions)) t → (h : ℕ) × (h < config.partitions) × Contains (B (slot_at h e)) t
      go true at = layers_batch B e config.partitions (length (joined B e config.partitions)) t at
      go false at = joined_batch B e config.partitions t at

  -- what stands in an order is in the batch of its slot
  pub stands_batch : (config : Config) (B : Assignment Args) (e n : ℕ) (q : Place) (t : Txn Args) → StandsAt (stretch config B e n) q t → (g : ℕ) × (g < config.partitions) × Contains (B (slot_at g q.epoch)) t
  stands_batch config B e zero q t at = absurd at
  stands_batch config B e (suc n) q t at = elim (stands_split (merged config B e) (stretch config B (suc e) n) q t at) [
    | inl here ↦
        let is = (numbered_stands e 0 (together config B e) q t here).0 in
        let found = together_batch config B e t (numbered_batch e 0 (together config B e) q t here) in
        (found.0, found.1, subst (λ n. Contains (B (slot_at found.0 n)) t) (sym is) found.2)
    | inr rest ↦ stands_batch config B (suc e) n q t rest
  ]

never_done : {f : Fault} → Refused f ≡ Done → ⊥
never_done e = cc

module _ {Args Row Reply : Type 0} (m : Meaning Args Row Reply) (law : WritesWithin m) where
  -- ---- what one node's change keeps is kept by each event

  module _ (w : WorldState Args Row Reply) (both : Both m law w) (Q : WorldState Args Row Reply → Type 0) (q : Q w) where
    abbrev Keeps : NodeId → (NodeState Args Row → NodeDeed Args Row Reply) → Type 0
    Keeps me act = (x : NodeState Args Row) (is : IsNode w me x) (next : NodeState Args Row) (sent : List (Packet Args Row Reply)) → act x ≡ Does next sent → Q (after w me x next sent is)

    carried : (me : NodeId) (x : NodeState Args Row) (is : IsNode w me x) (deed : NodeDeed Args Row Reply) → ((next : NodeState Args Row) (sent : List (Packet Args Row Reply)) → deed ≡ Does next sent → (carry_out w me deed).0 ≡ Done → Q (after w me x next sent is)) → Q (carry_out w me deed).1
    carried me x is (Refuses f) keeps = q
    carried me x is (Does next sent) keeps = keeps next sent refl refl

    at_its_node : (me : NodeId) (act : NodeState Args Row → NodeDeed Args Row Reply) → ((at_node w me act (node_at w me)).0 ≡ Done → Keeps me act) → Q (at_node w me act (node_at w me)).1
    at_its_node me act keeps = go (node_at w me) refl
      where
        go : (o : Option (NodeState Args Row)) → node_at w me ≡ o → Q (at_node w me act o).1
        go None e = q
        go (Some x) e = let is = is_there m law w both me x e in carried me x is (act x) (λ next sent does done. keeps (ap (λ (o : Option (NodeState Args Row)). (at_node w me act o).0) e ∙ done) x is next sent does)

    delivered : (number : ℕ) → ((p : Packet Args Row Reply) → Contains w.packets p → (me : NodeId) → Keeps me (handle w.config p)) → Q (deliver w (slice_get w.packets number)).1
    delivered number keeps = by_packet (slice_get w.packets number) refl
      where
        by_address : (p : Packet Args Row Reply) → slice_get w.packets number ≡ Some p → (to : Address) → Q (deliver_to w p to).1
        by_address p e (AtNode me) = at_its_node me (handle w.config p) (λ done. keeps p (contains_at w.packets number p e) me)
        by_address p e (AtClient client) = q

        by_packet : (o : Option (Packet Args Row Reply)) → slice_get w.packets number ≡ o → Q (deliver w o).1
        by_packet None e = q
        by_packet (Some p) e = by_address p e p.to

    -- each event, where its case keeps it
    happens_on : ((p : Packet Args Row Reply) → Contains w.packets p → (me : NodeId) → Keeps me (handle w.config p)) → (event : Event Args)
        → ((happens m w event).0 ≡ Done → (me : NodeId) (act : Act Args) → event ≡ At me act → (x : NodeState Args Row) (is : IsNode w me x) (next : NodeState Args Row) (sent : List (Packet Args Row Reply)) → Acts m w.config act x next sent → Q (after w me x next sent is))
        → Q (happens m w event).1
    happens_on heard (Deliver number) acts = delivered number heard
    happens_on heard (At me act) acts = at_its_node me (deed_of m w.config act) (λ done x is next sent e. acts done me act refl x is next sent (acts_does w.config x next sent m act e))

  -- ---- what is chosen was submitted

  module _ (P : Slot → Txn Args → Type 0) (up : (g e f : ℕ) (t : Txn Args) → e ≤ f → P (slot_at g e) t → P (slot_at g f) t) where
    -- where the property holds of what was sometime submitted
    leads_valid : (w : WorldState Args Row Reply) → Both m law w → Valid m P up w → (events : List (Event Args)) (outcomes : List Outcome) (new : WorldState Args Row Reply) (h : Leads m w events outcomes new)
        → ((slot : Slot) (t : Txn Args) → Sometime m (IsSubmitFor slot t) w events outcomes new h → P slot t) → Valid m P up new
    leads_valid w both valid [] [] new h had = subst (Valid m P up) (sym h) valid
    leads_valid w both valid [] (outcome ∷ outcomes) new h had = absurd h
    leads_valid w both valid (event ∷ events) [] new h had = absurd h
    leads_valid w both valid (event ∷ events) (outcome ∷ outcomes) new (mid, first, rest) had =
        leads_valid mid (step_both m law w both event outcome mid first) (by_step first) events outcomes new rest (λ slot t s. had slot t (inr s))
      where
        in_time : (x : NodeState Args Row) (n : ℕ) → x.sequencer.opening ≤ n → is_used x.sequencer n ≡ false → (n < next_epoch x.sequencer) ⊎ (next_epoch x.sequencer ≤ n) → next_epoch x.sequencer ≤ n
        in_time x n low unused (inl early) = absurd (false≢true (sym unused ∙ first_least (is_used x.sequencer) x.sequencer.opening _ n low early))
        in_time x n low unused (inr upto) = upto

        fit : (outcome, mid) ≡ happens m w event → (happens m w event).0 ≡ Done → (me : NodeId) (act : Act Args) → event ≡ At me act → (x : NodeState Args Row) → IsNode w me x → IsFit m P up act x
        fit same done me act e x is t submits n low unused = had (slot_at x.id.partition n) t (inl (
          ap (λ (y : Outcome × WorldState Args Row Reply). y.0) same ∙ done,
          record {
            at = me;
            node = x;
            is_node = is;
            submits = (act, e, submits);
            of_group = sym (ap (λ id. id.partition) (its_id w both.kept me x is));
            in_time = in_time x n low unused (cases_lt n (next_epoch x.sequencer));
          },
        ))

        happened : (outcome, mid) ≡ happens m w event → Valid m P up (happens m w event).1
        happened same = happens_on w both (Valid m P up) valid
            (λ p c me x is next sent does. stays_valid m P up w both.kept valid me x is next sent (handles_valid m P up w both.kept valid me x is p p.content c refl next sent (handle_does w.config x next sent m p does)))
            event
            (λ done me act e x is next sent does. stays_valid m P up w both.kept valid me x is next sent (acts_valid m P up w both.kept valid me x is act (fit same done me act e x is) next sent does))

        by_step : Step m w event outcome mid → Valid m P up mid
        by_step s = elim s [
          | inl same ↦ subst (Valid m P up) (sym (ap (λ (y : Outcome × WorldState Args Row Reply). y.1) same)) (happened same)
          | inr e ↦ subst (Valid m P up) (sym e.3) valid
        ]

    new_valid : (id : NodeId) → ValidNode {Row = Row} P (new_node id)
    unfolding fresh
    new_valid id = record {
      own = λ k t e. absurd (none-some _ (sym (get-empty slot_cmp k) ∙ e));
      sequencer = record {
        queued = λ n low unused t c. absurd (none_in t c);
        waiting = λ n low unused h c. absurd (none_in h c);
        in_closed = λ n batch h. absurd (none-some _ h);
        below = λ n is f low high. absurd (false≢true is);
      };
    }

    opening_valid : (config : Config) → Valid m P up (opening config)
    opening_valid config = record {
      nodes = λ i x there. subst (ValidNode {Row = Row} P) (sym ((is_opening m law config).nodes i x there).3) (new_valid x.id);
      proposed = λ slot less b v s. absurd (none_in s.0 s.1);
    }

    chosen_valid : (w : WorldState Args Row Reply) → Kept w → Valid m P up w → (slot : Slot) (batch : Batch Args) → Chosen w slot batch → AllP P slot batch
    chosen_valid w kept valid slot batch (b, q, majority, cast) =
        let one = majority_member majority in
        let less = chosen_group w kept slot batch (b, q, majority, cast) in
        valid.proposed slot less b batch ((kept.synod slot less).sound.vote_proposed one.0 b batch (cast one.0 one.1))

  never_warm : {sets : Sets} {message : Message (Batch Args)} → ◌≡◌ {A = Content Args Row Reply} (Warm sets) (Synod message) → ⊥
  never_warm e = cc

  -- who submits says nothing of the synod
  submit_quiet : (config : Config) (act : Act Args) (t : Txn Args) → submitted act ≡ Some t → (x next : NodeState Args Row) (sent : List (Packet Args Row Reply)) → Acts m config act x next sent → AreQuiet sent
  submit_quiet config (Submit u) t e x next sent (a, b) = subst AreQuiet (sym b) none_quiet
  submit_quiet config (SubmitCold u) t e x next sent (a, b) = λ p c message is.
      let warm = warm_word config.partitions x.id u (participants config.partitions u) p (subst (λ packets. Contains packets p) b c) in never_warm (sym warm.1 ∙ is)
  submit_quiet config (Cool k) t e x next sent does = absurd (none-some t e)
  submit_quiet config Close t e x next sent does = absurd (none-some t e)
  submit_quiet config Merge t e x next sent does = absurd (none-some t e)
  submit_quiet config Lock t e x next sent does = absurd (none-some t e)
  submit_quiet config Restart t e x next sent does = absurd (none-some t e)
  submit_quiet config (Propose n) t e x next sent does = absurd (none-some t e)
  submit_quiet config (Snapshot n) t e x next sent does = absurd (none-some t e)
  submit_quiet config (Mark n) t e x next sent does = absurd (none-some t e)
  submit_quiet config (Begin q) t e x next sent does = absurd (none-some t e)
  submit_quiet config (Finish q) t e x next sent does = absurd (none-some t e)
  submit_quiet config (AskForReads q r) t e x next sent does = absurd (none-some t e)
  submit_quiet config (AskForBatch slot of) t e x next sent does = absurd (none-some t e)

  -- one that was submitted in time for an epoch was so for a later one
  sometime_up : (w : WorldState Args Row Reply) (events : List (Event Args)) (outcomes : List Outcome) (new : WorldState Args Row Reply) (h : Leads m w events outcomes new) (g e f : ℕ) (t : Txn Args) → e ≤ f
      → Sometime m (IsSubmitFor (slot_at g e) t) w events outcomes new h → Sometime m (IsSubmitFor (slot_at g f) t) w events outcomes new h
  sometime_up w [] [] new h g e f t upto s = s
  sometime_up w [] (outcome ∷ outcomes) new h g e f t upto s = s
  sometime_up w (event ∷ events) [] new h g e f t upto s = s
  sometime_up w (event ∷ events) (outcome ∷ outcomes) new (mid, first, rest) g e f t upto (inl (took, s)) = inl (took, record { at = s.at; node = s.node; is_node = s.is_node; submits = s.submits; of_group = s.of_group; in_time = let h = s.in_time in omega (arith, h, upto) })
  sometime_up w (event ∷ events) (outcome ∷ outcomes) new (mid, first, rest) g e f t upto (inr s) = inr (sometime_up mid events outcomes new rest g e f t upto s)

  module _ (config : Config) (events : List (Event Args)) (outcomes : List Outcome) (w : WorldState Args Row Reply) (h : Leads m (opening config) events outcomes w) where
    abbrev Had : Slot → Txn Args → Type 0
    Had slot t = Sometime m (IsSubmitFor slot t) (opening config) events outcomes w h

    had_up : (g e f : ℕ) (t : Txn Args) → e ≤ f → Had (slot_at g e) t → Had (slot_at g f) t
    had_up g e f t upto s = sometime_up (opening config) events outcomes w h g e f t upto s

    both_here : Both m law w
    both_here = leads_both m law (opening config) (at_first m law config) events outcomes w h

    valid_here : Valid m Had had_up w
    valid_here = leads_valid Had had_up (opening config) (at_first m law config) (opening_valid Had had_up config) events outcomes w h (λ slot t s. s)

    pub was_submitted : (slot : Slot) (batch : Batch Args) → Chosen w slot batch → (t : Txn Args) → Contains batch t → Had slot t
    was_submitted slot batch chosen = chosen_valid Had had_up w both_here.kept valid_here slot batch chosen

    -- an event that submits leads to no vote, so where one makes a batch chosen its requests were submitted before
    abbrev Reached : Slot → Batch Args → WorldState Args Row Reply → Type 0
    Reached slot batch v = (Chosen v slot batch → Chosen w slot batch) ⊎ Valid m Had had_up v

    chosen_already : (me : NodeId) (x next : NodeState Args Row) (sent : List (Packet Args Row Reply)) (is : IsNode w me x) → AreQuiet sent → (slot : Slot) (batch : Batch Args) → Chosen (after w me x next sent is) slot batch → Chosen w slot batch
    chosen_already me x next sent is quiet slot batch (b, q, majority, cast) = (
      b,
      q,
      majority,
      λ a i. elim (sent_cases w.packets sent slot (Votes a b batch) (cast a i)) [
        | inl old ↦ old
        | inr new ↦ absurd (quiet_says_nothing sent quiet slot (Votes a b batch) new)
      ],
    )

    reached : (slot : Slot) (batch : Batch Args) (event : Event Args) (outcome : Outcome) (v : WorldState Args Row Reply) → Step m w event outcome v → Reached slot batch v
    reached slot batch event outcome v s = elim s [
      | inl same ↦ subst (Reached slot batch) (sym (ap (λ (y : Outcome × WorldState Args Row Reply). y.1) same)) (happens_on w both_here (Reached slot batch) (inl (λ c. c))
          (λ p c me x is next sent does. inr (stays_valid m Had had_up w both_here.kept valid_here me x is next sent (handles_valid m Had had_up w both_here.kept valid_here me x is p p.content c refl next sent (handle_does w.config x next sent m p does))))
          event (λ done me act e x is next sent does. acted me act x is next sent does (submitted act) refl))
      | inr e ↦ subst (Reached slot batch) (sym e.3) (inl (λ c. c))
    ]
      where
        acted : (me : NodeId) (act : Act Args) (x : NodeState Args Row) (is : IsNode w me x) (next : NodeState Args Row) (sent : List (Packet Args Row Reply)) → Acts m w.config act x next sent → (o : Option (Txn Args)) → submitted act ≡ o → Reached slot batch (after w me x next sent is)
        acted me act x is next sent does None none = inr (stays_valid m Had had_up w both_here.kept valid_here me x is next sent (acts_valid m Had had_up w both_here.kept valid_here me x is act (λ t submits. absurd (none-some t (sym none ∙ submits))) next sent does))
        acted me act x is next sent does (Some t) some = inl (chosen_already me x next sent is (submit_quiet w.config act t some x next sent does) slot batch)

    pub submitted_before : (event : Event Args) (outcome : Outcome) (v : WorldState Args Row Reply) → Step m w event outcome v → (slot : Slot) (batch : Batch Args) → (Chosen w slot batch → ⊥) → Chosen v slot batch → (t : Txn Args) → Contains batch t → Had slot t
    submitted_before event outcome v step slot batch never chosen = elim (reached slot batch event outcome v step) [
      | inl old ↦ absurd (never (old chosen))
      | inr valid ↦ chosen_valid Had had_up v (step_both m law w both_here event outcome v step).kept valid slot batch chosen
    ]

  -- ---- what any change of a node keeps

  module _ (Q : WorldState Args Row Reply → Type 0) (keeps : (w : WorldState Args Row Reply) (me : NodeId) (x next : NodeState Args Row) (sent : List (Packet Args Row Reply)) (is : IsNode w me x) → Q w → Q (after w me x next sent is)) where
    leads_on : (w : WorldState Args Row Reply) → Both m law w → (events : List (Event Args)) (outcomes : List Outcome) (new : WorldState Args Row Reply) → Leads m w events outcomes new → Q w → Q new
    leads_on w both [] [] new h q = subst Q (sym h) q
    leads_on w both [] (outcome ∷ outcomes) new h q = absurd h
    leads_on w both (event ∷ events) [] new h q = absurd h
    leads_on w both (event ∷ events) (outcome ∷ outcomes) new (mid, first, rest) q = leads_on mid (step_both m law w both event outcome mid first) events outcomes new rest (by_step first)
      where
        by_step : Step m w event outcome mid → Q mid
        by_step s = elim s [
          | inl same ↦ subst Q (sym (ap (λ (y : Outcome × WorldState Args Row Reply). y.1) same))
              (happens_on w both Q q (λ p c me x is next sent does. keeps w me x next sent is q) event (λ done me act e x is next sent does. keeps w me x next sent is q))
          | inr e ↦ subst Q (sym e.3) q
        ]

  stays_chosen : (slot : Slot) (batch : Batch Args) (w : WorldState Args Row Reply) → Both m law w → (events : List (Event Args)) (outcomes : List Outcome) (new : WorldState Args Row Reply) → Leads m w events outcomes new → Chosen w slot batch → Chosen new slot batch
  stays_chosen slot batch w both events outcomes new h chosen = leads_on (λ v. Chosen v slot batch) (λ w me x next sent is c. chosen_on w me x next sent is slot batch c) w both events outcomes new h chosen

  config_same : (w : WorldState Args Row Reply) → Both m law w → (events : List (Event Args)) (outcomes : List Outcome) (new : WorldState Args Row Reply) → Leads m w events outcomes new → new.config ≡ w.config
  config_same w both events outcomes new h = leads_on (λ v. v.config ≡ w.config) (λ w me x next sent is c. c) w both events outcomes new h refl

  -- ---- every node stays there

  abbrev AllThere : WorldState Args Row Reply → Type 0
  AllThere w = (id : NodeId) → id.replica < w.config.replicas → id.partition < w.config.partitions → (x : NodeState Args Row) × IsNode w id x

  there_on : (w : WorldState Args Row Reply) (me : NodeId) (x next : NodeState Args Row) (sent : List (Packet Args Row Reply)) (is : IsNode w me x) → AllThere w → AllThere (after w me x next sent is)
  there_on w me x next sent is all id r p = go (cases_eq (index_of w.config.partitions id) (index_of w.config.partitions me))
    where
      go : (index_of w.config.partitions id ≡ index_of w.config.partitions me) ⊎ (index_of w.config.partitions id ≢ index_of w.config.partitions me) → (y : NodeState Args Row) × IsNode (after w me x next sent is) id y
      go (inl e) = (next, record { replica = r; partition = p; there = ap (slice_get (slice_set w.nodes (index_of w.config.partitions me) next)) e ∙ set_here w.nodes (index_of w.config.partitions me) next x is.there })
      go (inr apart) = let old = all id r p in (old.0, record { replica = r; partition = p; there = set_other w.nodes (index_of w.config.partitions me) (index_of w.config.partitions id) next apart ∙ old.1.there })

  opening_there : (config : Config) → AllThere (opening config)
  opening_there config id r p =
      let i = index_of config.partitions id in
      let some : 0 < config.partitions = omega (arith, p) in
      let less : i < config.replicas * config.partitions = (div-lt_iff_lt-mul some).0 (subst (λ n. n < config.replicas) (sym (div-mul-add id.replica config.partitions id.partition p)) r) in
      let f : ℕ → NodeState Args Row = (λ i. new_node (record { replica = i / config.partitions; partition = i % config.partitions })) in
      (f i, record { replica = r; partition = p; there = get_map f (range_with_len 0 (config.replicas * config.partitions)) i i (in_range 0 (config.replicas * config.partitions) i i (omega arith) less) })

  pub all_there : (config : Config) (events : List (Event Args)) (outcomes : List Outcome) (w : WorldState Args Row Reply) → Leads m (opening config) events outcomes w → AllThere w
  all_there config events outcomes w h = leads_on AllThere there_on (opening config) (at_first m law config) events outcomes w h (opening_there config)

  pub all_named : (config : Config) (events : List (Event Args)) (outcomes : List Outcome) (w : WorldState Args Row Reply) → Leads m (opening config) events outcomes w → (id : NodeId) (x : NodeState Args Row) → IsNode w id x → x.id ≡ id
  all_named config events outcomes w h id x is = its_id w (leads_both m law (opening config) (at_first m law config) events outcomes w h).kept id x is

  pub same_config : (config : Config) (events : List (Event Args)) (outcomes : List Outcome) (w : WorldState Args Row Reply) → Leads m (opening config) events outcomes w → w.config ≡ config
  same_config config events outcomes w h = config_same (opening config) (at_first m law config) events outcomes w h

  -- ---- what is submitted after a reply stands later

  was_for : (t : Txn Args) (slot : Slot) (w : WorldState Args Row Reply) (events : List (Event Args)) (outcomes : List Outcome) (new : WorldState Args Row Reply) (h : Leads m w events outcomes new) → Sometime m (IsSubmitFor slot t) w events outcomes new h → Sometime m (Submits t) w events outcomes new h
  was_for t slot w [] [] new h s = s
  was_for t slot w [] (outcome ∷ outcomes) new h s = s
  was_for t slot w (event ∷ events) [] new h s = s
  was_for t slot w (event ∷ events) (outcome ∷ outcomes) new (mid, first, rest) (inl (took, s)) = inl (took, (s.at, s.submits))
  was_for t slot w (event ∷ events) (outcome ∷ outcomes) new (mid, first, rest) (inr s) = inr (was_for t slot mid events outcomes new rest s)

  module _ (config : Config) (earlier : List (Event Args)) (outcomes : List Outcome) (w : WorldState Args Row Reply) (h : Leads m (opening config) earlier outcomes w) (later : List (Event Args)) (more : List Outcome) (v : WorldState Args Row Reply) (k : Leads m w later more v) where
    both_w : Both m law w
    both_w = leads_both m law (opening config) (at_first m law config) earlier outcomes w h

    both_v : Both m law v
    both_v = leads_both m law w both_w later more v k

    -- what is chosen after a beginning of the events is chosen after them all
    pub chosen_stays : (slot : Slot) (batch : Batch Args) → Chosen w slot batch → Chosen v slot batch
    chosen_stays slot batch chosen = stays_chosen slot batch w both_w later more v k chosen

    -- so is what a node held after a beginning
    pub held_stays : (id : NodeId) (x : NodeState Args Row) → IsNode w id x → (slot : Slot) (batch : Batch Args) → get x.held slot ≡ Some batch → Chosen v slot batch
    held_stays id x is slot batch has = chosen_stays slot batch (both_w.kept.held (index_of w.config.partitions id) x is.there slot batch has)

    pub stands_later : (p : Packet Args Row Reply) → Contains w.packets p → (q : Place) (id : RequestId) (attempt : ℕ) (answer : Answer Reply) → p.content ≡ Replies q id attempt answer
        → (t : Txn Args) → (Sometime m (Submits t) (opening config) earlier outcomes w h → ⊥) → (B : Assignment Args) (n : ℕ) → IsChosenUpTo v B n → (r : Place) → StandsAt (order v.config B n) r t → q.epoch < r.epoch
    stands_later p c q id attempt answer content t never B n chosen r at = go (cases_lt q.epoch r.epoch)
      where
        go : (q.epoch < r.epoch) ⊎ (r.epoch ≤ q.epoch) → q.epoch < r.epoch
        go (inl after_it) = after_it
        go (inr upto) =
            let M = both_w.mirrored in
            let reply = M.are_replies p c q id attempt answer content in
            let in_all = (stretch_stands w.config M.batches 0 M.epochs q reply.request reply.stands).1 in
            let found = stands_batch v.config B 0 n r t at in
            let slot : Slot = slot_at found.0 r.epoch in
            let in_n = (stretch_stands v.config B 0 n r t at).1 in
            let same_config = config_same w both_w later more v k in
            let less : found.0 < w.config.partitions = subst (λ (z : Config). found.0 < z.partitions) same_config found.1 in
            let was = M.chosen slot (omega (arith, in_all, upto)) less in
            let same = one_chosen v both_v.kept slot (M.batches slot) (B slot) (stays_chosen slot (M.batches slot) w both_w later more v k was) (chosen slot (omega (arith, in_n)) found.1) in
            absurd (never (was_for t slot (opening config) earlier outcomes w h (was_submitted config earlier outcomes w h slot (M.batches slot) was t (subst (λ b. Contains b t) (sym same) found.2))))
