-- Each event at a node and each delivery keeps the two worlds beside each other.
use Rattle.std.proofs.Common.{◌≡◌, ◌≢◌, ℕ, suc, ◌+◌, ◌-◌, ◌<◌, ◌≤◌, List, [], ◌∷◌, ◌++◌, ◌⊎◌, inl, inr, refl, sym, ap, ◌∙◌, subst, arith, append_assoc, append-nil, Bool, true, false, cond, Option, Some, None}
use Rattle.std.specs.Prelude.{slice_get}
use Rattle.std.specs.List.{Contains}
use Rattle.std.specs.FinMap.{get, empty}
use Rattle.std.proofs.lemmas.Bool.{cases_lt}
use Rattle.std.proofs.lemmas.List.Elements.{Contains-append_cases}
use Rattle.calvin_app.specs.Meaning.{Meaning, WritesWithin}
use Rattle.calvin_app.specs.Rows.{Rows}
use Rattle.calvin_app.specs.Stores.{warmed, cooled}
use Rattle.calvin_bench.specs.Turns.{IsDone, site_of, AllBefore, Stands, Takes, Marks}
use Rattle.calvin_node_acts.specs.Handling.{counted}
use Rattle.calvin_node_acts.specs.NodeStates.{NodeState, holding, with_synod, with_scheduler, restarted}
use Rattle.calvin_node_packets.specs.declared.packet.Content.{Content}
use Rattle.calvin_node_packets.specs.declared.packet.Packet.{Packet}
use Rattle.calvin_node_packets.specs.declared.packet.Address.TheVariants.{AtNode, AtClient}
use Rattle.calvin_node_packets.specs.declared.packet.Content.TheVariants.{Synod, Decided, AskBatch, Reads, AskReads, Warm, Replies}
use Rattle.calvin_node_packets.specs.Packets.{synod_packets, to_each, participants, warm_packets, telling}
use Rattle.calvin_order.proofs.Places.{before_by_epoch, before_end}
use Rattle.calvin_order.proofs.Standing.{stands_right}
use Rattle.calvin_order.proofs.Epochs.{merged_same, stretch_on, stands_within, from_end}
use Rattle.calvin_order.specs.Configs.{Config, merged, stretch, order}
use Rattle.calvin_order.specs.Merged.{Batch, Assignment, end_of}
use Rattle.calvin_sched.specs.Scheduling.{Scheduling, opened, with_store, with_turn, new_turn, other_active, reads_here}
use Rattle.calvin_sched.specs.Steps.{admitted}
use Rattle.calvin_sched.specs.Standing.{local_places}
use Rattle.calvin_synod.specs.Cases.{Replica, Letters}
use Rattle.calvin_types.specs.Orders.{Order, StandsAt}
use Rattle.calvin_types.specs.Participants.{Site, has_local_key, is_active}
use Rattle.calvin_bench.proofs.OnePartition.{Keeps}
use Rattle.calvin_types.specs.declared.place.NodeId.{NodeId}
use Rattle.calvin_types.specs.declared.place.Place.{Place}
use Rattle.calvin_types.specs.declared.place.Slot.{Slot}
use Rattle.calvin_types.specs.declared.txn.Txn.{Txn}
use Rattle.calvin_world.proofs.Cases.{TakesAtEnd, MarksAtEnd, Handles, Acts, restarted_synod}
use Rattle.calvin_bench.proofs.Standing.{local_in, local_joined, DoneHere, done_all, all_earlier, stands_is}
use Rattle.calvin_world.specs.Promises.{loaded_epochs, held_by, StandsAtEnd, IsNode}
use Rattle.calvin_node_acts.specs.declared.act.Act.{Act}
use Rattle.calvin_node_acts.specs.declared.act.Act.TheVariants.{Submit, SubmitCold, Cool, Close, Merge, Lock, Restart, Propose, Snapshot, Mark, Begin, Finish, AskForReads, AskForBatch}
use Rattle.calvin_world.specs.Worlds.{WorldState, index_of}
use Rattle.calvin_bench.specs.Lives
use Rattle.calvin_bench.proofs.Lists.{none_in, only_in, first_in, from_map, get_none, get_only, get_map}
use Rattle.calvin_world.proofs.Given.{holding_grows}
use Rattle.calvin_world.proofs.Kept.{Kept, its_id, after}
use Rattle.calvin_world.proofs.Owed.{letters_word, telling_word, warm_word}
use Rattle.calvin_world.proofs.Mirror.{held_is, Passed, since, Bounds, mirror_node, mirror, AreReads, AreReplies, WereSent, Mirrored, goes_on, lives_on, stays_on}

some_is : {X : Type 0} {x y : X} → Some x ≡ Some y → x ≡ y
some_is e = cc

never_some : {X : Type 0} {x : X} → None ≡ Some x → ⊥
never_some e = cc

-- from an epoch up to itself there is none
no_epochs : {Args : Type 0} (config : Config) (B : Assignment Args) (e : ℕ) → stretch config B e (e - e) ≡ []
no_epochs config B e = ap (stretch config B e) (none e)
  where
    none : (e : ℕ) → e - e ≡ 0
    none e = omega arith

module _ {Args Row Reply : Type 0} where
  -- words that are neither rows nor an answer
  abbrev IsOther : Content Args Row Reply → Type 0
  IsOther (Reads q rows) = ⊥
  IsOther (Replies q id attempt answer) = ⊥
  IsOther _ = Unit {0}

  abbrev AreOther : List (Packet Args Row Reply) → Type 0
  AreOther packets = (p : Packet Args Row Reply) → Contains packets p → IsOther p.content

  none_other : AreOther []
  none_other p c = absurd (none_in p c)

  one_other : (a : Packet Args Row Reply) → IsOther a.content → AreOther (a ∷ [])
  one_other a other p c = subst (λ (p : Packet Args Row Reply). IsOther p.content) (only_in a p c) other

  each_other : (me : NodeId) (replica : ℕ) (content : Content Args Row Reply) (ps : List ℕ) → IsOther content → AreOther (to_each me replica content ps)
  each_other me replica content ps other p c =
      let is = from_map (λ (q : ℕ). record { from = me; to = AtNode (record { replica = replica; partition = q }); content = content }) ps p c in
      subst (λ (p : Packet Args Row Reply). IsOther p.content) is.1 other

  letters_other : (size : ℕ) (me : NodeId) (letters : Letters (Batch Args)) → AreOther (synod_packets size me letters)
  letters_other size me letters p c = subst IsOther (sym (letters_word size me letters p c).1) tt

  telling_other : (parts : ℕ) (me : NodeId) (o : Option (Slot × Batch Args)) → AreOther (telling parts me o)
  telling_other parts me o p c = subst IsOther (sym (telling_word parts me o p c).1) tt

  both_other : (packets more : List (Packet Args Row Reply)) → AreOther packets → AreOther more → AreOther (packets ++ more)
  both_other packets more left right p c = elim (Contains-append_cases packets more p c) [ inl old ↦ left p old | inr new ↦ right p new ]

  -- packets that all show the same rows
  abbrev AllShow : NodeId → Place → Rows Row → List (Packet Args Row Reply) → Type 0
  AllShow me q rows packets = (p : Packet Args Row Reply) → Contains packets p → (p.from ≡ me) × (p.content ≡ Reads q rows)

  one_read : (me : NodeId) (q : Place) (rows : Rows Row) (packets : List (Packet Args Row Reply)) → AllShow me q rows packets → AreReads packets (record { place = q; from = me.partition; rows = rows } ∷ [])
  one_read me q rows packets show p c q' rows' e =
      let s = show p c in
      let same : Reads q rows ≡ p.content = sym s.1 in
      let is : ◌≡◌ {A = Content Args Row Reply} (Reads q rows) (Reads q' rows') = same ∙ e in
      let place : q ≡ q' = cc in
      let row : rows ≡ rows' = cc in
      (0, λ i. Some (record { place = place i; from = (sym s.0 i).partition; rows = row i }))

  all_show : (me : NodeId) (replica : ℕ) (q : Place) (rows : Rows Row) (ps : List ℕ) → AllShow me q rows (to_each me replica (Reads q rows) ps)
  all_show me replica q rows ps p c =
      let is = from_map (λ (r : ℕ). record { from = me; to = AtNode (record { replica = replica; partition = r }); content = Reads q rows }) ps p c in
      (sym (ap (λ (p : Packet Args Row Reply). p.from) is.1), sym (ap (λ (p : Packet Args Row Reply). p.content) is.1))

  some_show : (me : NodeId) (q : Place) (rows : Rows Row) (b : Bool) (packets : List (Packet Args Row Reply)) → AllShow me q rows packets → AllShow me q rows (cond b packets [])
  some_show me q rows true packets show p c = show p c
  some_show me q rows false packets show p c = absurd (none_in p c)

  other_reads : (packets : List (Packet Args Row Reply)) → AreOther packets → AreReads packets []
  other_reads packets other p c q rows e = absurd (subst IsOther e (other p c))

  other_replies : (parts : ℕ) (es : Order Args) (packets : List (Packet Args Row Reply)) → AreOther packets → AreReplies parts es packets []
  other_replies parts es packets other p c q id attempt answer e = absurd (subst IsOther e (other p c))

  show_no_replies : (parts : ℕ) (es : Order Args) (me : NodeId) (q : Place) (rows : Rows Row) (packets : List (Packet Args Row Reply)) → AllShow me q rows packets → AreReplies parts es packets []
  show_no_replies parts es me q rows packets show p c q' id attempt answer e = let is = sym (show p c).1 ∙ e in absurd (never is)
    where
      never : ◌≡◌ {A = Content Args Row Reply} (Reads q rows) (Replies q' id attempt answer) → ⊥
      never e = cc

  nothing_given : (parts : ℕ) (packets : List (Packet Args Row Reply)) → WereSent parts packets []
  nothing_given parts packets k x h = absurd (get_none k x h)

module _ {Args Row : Type 0} where
  -- nothing was admitted or passed over
  same_passed : (x y : NodeState Args Row) → y.pending ≡ x.pending → y.scheduler.last ≡ x.scheduler.last → (es : Order Args) → Passed es x → Passed es y
  same_passed x y e f es p = record { gone = p.gone; whole = ap (λ pending. p.gone ++ pending) e ∙ p.whole; last = λ q h. p.last q (sym f ∙ h) }

  -- one request was
  one_passed : (x y : NodeState Args Row) (q : Place) (t : Txn Args) → x.pending ≡ (q, t) ∷ y.pending → y.scheduler.last ≡ Some q → (es : Order Args) → Passed es x → Passed es y
  one_passed x y q t e f es p = record {
    gone = p.gone ++ (q, t) ∷ [];
    whole = append_assoc p.gone ((q, t) ∷ []) y.pending ∙ ap (λ pending. p.gone ++ pending) (sym e) ∙ p.whole;
    last = λ n h. (t, stands_right p.gone ((q, t) ∷ []) n t (inl (some_is (sym f ∙ h), refl)));
  }

  -- the same epochs, and at least as much held
  rebound : (config : Config) (B : Assignment Args) (epochs : ℕ) (x y : NodeState Args Row) → Bounds config B epochs x → y.scheduler.opened_from ≡ x.scheduler.opened_from → y.merged_epochs ≡ x.merged_epochs → y.kept_epochs ≡ x.kept_epochs → ((slot : Slot) → get x.held slot ≢ None → get y.held slot ≢ None)
      → y.id ≡ x.id → y.due ≡ x.due → ((es : Order Args) → Passed es x → Passed es y) → Bounds config B epochs y
  rebound config B epochs x y b e f g grows named same_due passes =
      let loaded : loaded_epochs y ≡ loaded_epochs x = ap (λ q. q.epoch) e in
      let same : since config B y ≡ since config B x = (λ i. stretch config B (loaded i) (f i - loaded i)) in record {
        loaded = let h = b.loaded in omega (arith, loaded, f, h);
        at_end = ap (λ q. q.n) e ∙ b.at_end;
        merged_in = let h = b.merged_in in omega (arith, f, h);
        kept_in = let h = b.kept_in in omega (arith, g, h);
        holds = λ slot low high less. grows slot (b.holds slot (omega (arith, loaded, low)) (omega (arith, f, high)) less);
        due = same_due ∙ b.due ∙ (λ i. local_places (site_of config.partitions (sym named i).partition) (sym same i));
        passed = subst (λ es. Passed es y) (sym same) (passes (since config B x) b.passed);
      }

  counted_alike : (config : Config) (B : Assignment Args) (epochs : ℕ) (y : NodeState Args Row) (o : Option (Slot × Batch Args)) → mirror_node config B epochs (counted y o) ≡ mirror_node config B epochs y
  counted_alike config B epochs y None = refl
  counted_alike config B epochs y (Some g) = refl

  counted_bounds : (config : Config) (B : Assignment Args) (epochs : ℕ) (x : NodeState Args Row) (s : Replica (Batch Args)) (o : Option (Slot × Batch Args)) → Bounds config B epochs x → Bounds config B epochs (counted (with_synod x s) o)
  counted_bounds config B epochs x s None b = rebound config B epochs x (with_synod x s) b refl refl refl (λ k some. some) refl refl (same_passed x (with_synod x s) refl refl)
  counted_bounds config B epochs x s (Some g) b = rebound config B epochs x (holding (with_synod x s) g.0 g.1) b refl refl refl (λ k some. holding_grows (with_synod x s) g.0 g.1 k some) refl refl (same_passed x (holding (with_synod x s) g.0 g.1) refl refl)

  pub opened_same : (site : Site) (s : Scheduling Args Row) (q : Place) (t : Txn Args) → (admitted site s q t).opened_from ≡ s.opened_from
  opened_same site s q t = go (has_local_key site t)
    where
      go : (b : Bool) → (cond b (with_turn s q (new_turn t)) s).opened_from ≡ s.opened_from
      go true = refl
      go false = refl

module _ {Args Row Reply : Type 0} (m : Meaning Args Row Reply) (law : WritesWithin m) (w : WorldState Args Row Reply) (kept : Kept w) (mirrored : Mirrored m law w) where
  abbrev B : Assignment Args
  B = mirrored.batches

  abbrev epochs : ℕ
  epochs = mirrored.epochs

  abbrev now_order : Order Args
  now_order = order w.config B epochs

  -- what is done of the merged epochs is done of the whole order
  pub done_there : (i : ℕ) (x : NodeState Args Row) → slice_get w.nodes i ≡ Some x → (n : ℕ) → DoneHere x.scheduler x.merged_epochs x.due n → AllBefore (site_of w.config.partitions x.id.partition) now_order x.scheduler (end_of n)
  done_there i x there n known q t at early local = done (before_end q n early) (cases_lt q.epoch (loaded_epochs x))
    where
      b : Bounds w.config B epochs x
      b = mirrored.bounds i x there

      reach : loaded_epochs x + (x.merged_epochs - loaded_epochs x) ≡ x.merged_epochs
      reach = let l = b.loaded in omega (arith, l)

      done : q.epoch < n → (q.epoch < loaded_epochs x) ⊎ (loaded_epochs x ≤ q.epoch) → IsDone x.scheduler q
      done early (inl old) = inl (before_by_epoch q x.scheduler.opened_from old)
      done early (inr new) = known.done_before q
          (subst (λ ps. Contains ps q) (sym b.due) (local_in (site_of w.config.partitions x.id.partition) (since w.config B x) q t (stands_within w.config B 0 epochs (loaded_epochs x) (x.merged_epochs - loaded_epochs x) q t (omega arith) (let g = b.merged_in in omega (arith, reach, g)) new (let g = known.merged_all in omega (arith, reach, early, g)) at) local))
          early

  -- a standing node stands at the end of its epochs, in the whole order
  pub stands_there : (i : ℕ) (x : NodeState Args Row) → slice_get w.nodes i ≡ Some x → (n : ℕ) → StandsAtEnd x n → Stands (site_of w.config.partitions x.id.partition) now_order x.scheduler (end_of n)
  stands_there i x there n at_end =
      let stands = stands_is x.scheduler x.merged_epochs x.due n at_end in record {
        all_before = done_there i x there n (record { merged_all = stands.merged_all; done_before = stands.done_before });
        none_later = λ q done. before_by_epoch q (end_of n) (stands.none_later (mirrored.bounds i x there).at_end q done);
      }

  -- a snapshot that is taken there is one of the partition's rows
  record TakesThere (x : NodeState Args Row) (n : ℕ) (rows : Rows Row) (s : Scheduling Args Row) : Type 0 where
    merged_all : n ≤ x.merged_epochs
    same_opened : s.opened_from ≡ x.scheduler.opened_from
    same_last : s.last ≡ x.scheduler.last
    takes : Takes (site_of w.config.partitions x.id.partition) now_order x.scheduler (end_of n) rows s

  takes_there : (i : ℕ) (x : NodeState Args Row) → slice_get w.nodes i ≡ Some x → (n : ℕ) (rows : Rows Row) (s : Scheduling Args Row) → TakesAtEnd x n rows s → TakesThere x n rows s
  takes_there i x there n rows s taken = record {
    merged_all = elim taken.takes [ inl h ↦ (stands_is x.scheduler x.merged_epochs x.due n h.stands).merged_all | inr h ↦ (done_all x.scheduler x.merged_epochs x.due n h.is_done).merged_all ];
    same_opened = ap (λ z. z.opened_from) taken.now;
    same_last = ap (λ z. z.last) taken.now;
    takes = record {
      takes = elim taken.takes [
        | inl h ↦ inl (record { stands = stands_there i x there n h.stands; taken = h.taken })
        | inr h ↦ inr (record { all_before = done_there i x there n (done_all x.scheduler x.merged_epochs x.due n h.is_done); point = h.point; is_open = h.is_open; is_at = h.is_at; taken = h.taken })
      ];
      now = taken.now;
    };
  }

  -- so is a point that is opened there
  marks_there : (i : ℕ) (x : NodeState Args Row) → slice_get w.nodes i ≡ Some x → (n : ℕ) (s : Scheduling Args Row) → MarksAtEnd x n s → Marks x.scheduler (end_of n) s
  marks_there i x there n s marks = record {
    none_open = marks.none_open;
    none_later = λ q done. before_by_epoch q (end_of n) (all_earlier x.scheduler n marks.not_older (mirrored.bounds i x there).at_end marks.none_later q done);
    now = marks.now;
  }

  module _ (me : NodeId) (x : NodeState Args Row) (is : IsNode w me x) where
    abbrev After : NodeState Args Row → List (Packet Args Row Reply) → Type 0
    After next sent = Mirrored m law (after w me x next sent is)

    same_me : x.id ≡ me
    same_me = its_id w kept me x is

    abbrev here : ℕ
    here = index_of w.config.partitions me

    bounds : Bounds w.config B epochs x
    bounds = mirrored.bounds (index_of w.config.partitions me) x is.there

    by_both : (next y : NodeState Args Row) (sent packets : List (Packet Args Row Reply)) → next ≡ y → sent ≡ packets → After y packets → After next sent
    by_both next y sent packets e f done = subst (λ (z : NodeState Args Row × List (Packet Args Row Reply)). After z.0 z.1) (λ i. (sym e i, sym f i)) done

    -- nothing of the other world
    idle : (y : NodeState Args Row) (packets : List (Packet Args Row Reply)) → mirror_node w.config B epochs y ≡ mirror_node w.config B epochs x → Bounds w.config B epochs y → AreOther packets → After y packets
    idle y packets e b other = goes_on m law w mirrored me x y packets is [] [] b (stays_on m law w mirrored me x y packets is e) (other_reads packets other) (other_replies w.config.partitions now_order packets other) (nothing_given w.config.partitions packets)

    -- one of its events, with nothing sent that it knows
    silent : (y : NodeState Args Row) (packets : List (Packet Args Row Reply)) → Bounds w.config B epochs y → AreOther packets → (event : Lives.Event Args) → Lives.node_of event ≡ here
        → Lives.NodeStep m w.config.partitions (mirror w B epochs mirrored.reads mirrored.replies) event (mirror_node w.config B epochs x) (mirror_node w.config B epochs y) [] [] → After y packets
    silent y packets b other event at step = goes_on m law w mirrored me x y packets is [] [] b (lives_on m law w mirrored me x y packets is event at [] [] step) (other_reads packets other) (other_replies w.config.partitions now_order packets other) (nothing_given w.config.partitions packets)

    -- one that shows rows
    showing : (y : NodeState Args Row) (packets : List (Packet Args Row Reply)) (q : Place) (rows : Rows Row) → Bounds w.config B epochs y → AllShow x.id q rows packets → (event : Lives.Event Args) → Lives.node_of event ≡ here
        → Lives.NodeStep m w.config.partitions (mirror w B epochs mirrored.reads mirrored.replies) event (mirror_node w.config B epochs x) (mirror_node w.config B epochs y) (record { place = q; from = x.id.partition; rows = rows } ∷ []) [] → After y packets
    showing y packets q rows b show event at step = goes_on m law w mirrored me x y packets is (record { place = q; from = x.id.partition; rows = rows } ∷ []) [] b
        (lives_on m law w mirrored me x y packets is event at (record { place = q; from = x.id.partition; rows = rows } ∷ []) [] step)
        (one_read x.id q rows packets show) (show_no_replies w.config.partitions now_order x.id q rows packets show) (nothing_given w.config.partitions packets)

    same_bounds : (y : NodeState Args Row) → y.scheduler.opened_from ≡ x.scheduler.opened_from → y.merged_epochs ≡ x.merged_epochs → y.kept_epochs ≡ x.kept_epochs → y.held ≡ x.held → y.id ≡ x.id → y.due ≡ x.due → y.pending ≡ x.pending → y.scheduler.last ≡ x.scheduler.last → Bounds w.config B epochs y
    same_bounds y e f g h named same_due pending last = rebound w.config B epochs x y bounds e f g (λ k some. subst (λ held. get held k ≢ None) (sym h) some) named same_due (same_passed x y pending last)

    synod_mirrored : (s : Replica (Batch Args)) (letters : Letters (Batch Args)) (given : Option (Slot × Batch Args)) → After (counted (with_synod x s) given) (synod_packets w.config.replicas x.id letters ++ telling w.config.partitions x.id given)
    synod_mirrored s letters given = idle (counted (with_synod x s) given) (synod_packets w.config.replicas x.id letters ++ telling w.config.partitions x.id given) (counted_alike w.config B epochs (with_synod x s) given) (counted_bounds w.config B epochs x s given bounds)
        (both_other (synod_packets w.config.replicas x.id letters) (telling w.config.partitions x.id given) (letters_other w.config.replicas x.id letters) (telling_other w.config.partitions x.id given))

    pub handles_mirrored : (p : Packet Args Row Reply) (content : Content Args Row Reply) → Contains w.packets p → p.content ≡ content → (next : NodeState Args Row) (sent : List (Packet Args Row Reply)) → Handles m w.config p.from content x next sent → After next sent
    handles_mirrored p (Synod message) c content next sent (own, s, letters, given, does, e, f) = by_both next _ sent _ e f (synod_mirrored s letters given)
    handles_mirrored p (Decided k v) c content next sent (e, f) = by_both next (holding x k v) sent [] e f
        (idle (holding x k v) [] refl (rebound w.config B epochs x (holding x k v) bounds refl refl refl (holding_grows x k v) refl refl (same_passed x (holding x k v) refl refl)) none_other)
    handles_mirrored p (AskBatch k) c content next sent (batch, has, e, f) = by_both next x sent _ e f (idle x _ refl bounds (one_other _ tt))
    handles_mirrored p (Reads q rows) c content next sent (s, does, e, f) =
        let known = mirrored.are_reads p c q rows content in
        by_both next (with_scheduler x s x.pending) sent [] e f
        (silent (with_scheduler x s x.pending) [] (same_bounds (with_scheduler x s x.pending) (ap (λ z. z.opened_from) does.now) refl refl refl refl refl refl (ap (λ z. z.last) does.now)) none_other (Lives.Deliver here known.0) refl
        (s, record { place = q; from = p.from.partition; rows = rows }, known.1, does, refl, refl, refl))
    handles_mirrored p (Warm sets) c content next sent (e, f) =
        let store = warmed (sets.reads ++ sets.writes) x.scheduler.store in
        let y = with_scheduler x (with_store x.scheduler store) x.pending in
        by_both next y sent [] e f (silent y [] (same_bounds y refl refl refl refl refl refl refl refl) none_other (Lives.Stir here) refl (store, refl, refl, refl, refl, refl))
    handles_mirrored p (AskReads q) c content next sent (j, has, began, e, f) =
        by_both next x sent _ e f
        (showing x (record { from = x.id; to = AtNode p.from; content = Reads q j.served } ∷ []) q j.served bounds
        (λ y d. let eq = only_in (record { from = x.id; to = AtNode p.from; content = Reads q j.served }) y d in (sym (ap (λ (p : Packet Args Row Reply). p.from) eq), sym (ap (λ (p : Packet Args Row Reply). p.content) eq)))
        (Lives.AskReads here q) refl (j, has, began, refl, refl, refl))
    handles_mirrored p (Replies q id attempt answer) c content next sent h = absurd h

    finish_mirrored : (q : Place) (next : NodeState Args Row) (sent : List (Packet Args Row Reply)) → Acts m w.config (Finish q) x next sent → After next sent
    finish_mirrored q next sent (s, a, b, e, f) =
        by_both next (with_scheduler x s x.pending) sent (packet ∷ []) e f
        (goes_on m law w mirrored me x (with_scheduler x s x.pending) (packet ∷ []) is [] (given ∷ []) (same_bounds (with_scheduler x s x.pending) (ap (λ z. z.opened_from) b.now) refl refl refl refl refl refl (ap (λ z. z.last) b.now))
        (lives_on m law w mirrored me x (with_scheduler x s x.pending) (packet ∷ []) is (Lives.Finish here q) refl [] (given ∷ []) (s, a, b, refl, refl, refl))
        no_reads right was_sent)
      where
        t : Txn Args
        t = b.turn.request

        packet : Packet Args Row Reply
        packet = record { from = x.id; to = AtClient b.turn.request.id.client; content = Replies q b.turn.request.id b.turn.request.attempt a }

        given : Lives.Given Reply
        given = record { by = index_of w.config.partitions me; place = q; answer = a }

        no_reads : AreReads (packet ∷ []) []
        no_reads p c q' rows h = absurd (never (ap (λ (p : Packet Args Row Reply). p.content) (only_in packet p c) ∙ h))
          where
            never : ◌≡◌ {A = Content Args Row Reply} (Replies q b.turn.request.id b.turn.request.attempt a) (Reads q' rows) → ⊥
            never h = cc

        keeps : Keeps m (order w.config mirrored.batches mirrored.epochs) empty (site_of w.config.partitions x.id.partition) (mirror_node w.config mirrored.batches mirrored.epochs x).pending x.scheduler
        keeps = (mirrored.keeps.nodes (index_of w.config.partitions me) (mirror_node w.config mirrored.batches mirrored.epochs x) (get_map (mirror_node w.config mirrored.batches mirrored.epochs) w.nodes (index_of w.config.partitions me) x is.there)).keeps

        stands : StandsAt (order w.config mirrored.batches mirrored.epochs) q b.turn.request
        stands = (keeps.known q b.turn b.has_turn).0

        active : is_active (site_of w.config.partitions me.partition) b.turn.request ≡ true
        active = subst (λ (i : NodeId). is_active (site_of w.config.partitions i.partition) b.turn.request ≡ true) same_me (keeps.runs q b.turn b.has_turn b.begun)

        right : AreReplies w.config.partitions (order w.config mirrored.batches mirrored.epochs) (packet ∷ []) (given ∷ [])
        right p c q' id attempt answer h =
            let same = only_in packet p c in
            let content : ◌≡◌ {A = Content Args Row Reply} (Replies q b.turn.request.id b.turn.request.attempt a) (Replies q' id attempt answer) = ap (λ (p : Packet Args Row Reply). p.content) same ∙ h in
            let from : me ≡ p.from = sym same_me ∙ ap (λ (p : Packet Args Row Reply). p.from) same in
            let place : q ≡ q' = cc in
            let ans : a ≡ answer = cc in
            record {
              number_of = 0;
              given = λ i. Some (record { by = index_of w.config.partitions (from i); place = place i; answer = ans i });
              request = b.turn.request;
              stands = subst (λ z. StandsAt (order w.config mirrored.batches mirrored.epochs) z b.turn.request) place stands;
              id_is = cc;
              attempt_is = cc;
              active = subst (λ (i : NodeId). is_active (site_of w.config.partitions i.partition) b.turn.request ≡ true) from active;
            }

        was_sent : WereSent w.config.partitions (packet ∷ []) (given ∷ [])
        was_sent k g h =
            let same = get_only given k g h in record {
              packet = packet;
              there = first_in packet [];
              by = ap (index_of w.config.partitions) same_me ∙ ap (λ (z : Lives.Given Reply). z.by) same;
              partition = subst (λ id. id.partition < w.config.partitions) (sym same_me) is.partition;
              id = b.turn.request.id;
              attempt = b.turn.request.attempt;
              content = λ i. Replies ((same i).place) b.turn.request.id b.turn.request.attempt ((same i).answer);
            }

    -- the node that has merged one epoch more
    abbrev merged_node : NodeState Args Row
    merged_node = record x {
      merged_epochs = suc x.merged_epochs;
      due = x.due ++ local_places (site_of w.config.partitions x.id.partition) (merged w.config (held_by x) x.merged_epochs);
      pending = x.pending ++ merged w.config (held_by x) x.merged_epochs;
    }

    -- where the epoch is settled already, a merge only moves its requests
    pub merge_below : x.merged_epochs < epochs → (next : NodeState Args Row) (sent : List (Packet Args Row Reply)) → Acts m w.config Merge x next sent → After next sent
    merge_below less next sent (all_held, e, f) = by_both next y sent [] e f (idle y [] same bound none_other)
      where
        y : NodeState Args Row
        y = merged_node

        here_too : merged w.config (held_by x) x.merged_epochs ≡ merged w.config mirrored.batches x.merged_epochs
        here_too = merged_same w.config (held_by x) mirrored.batches x.merged_epochs (λ g under.
            let slot : Slot = record { epoch = x.merged_epochs; group = g } in
            held_is w kept (index_of w.config.partitions me) x is.there slot (mirrored.batches slot) (mirrored.chosen slot less under) (all_held g under))

        bound : Bounds w.config mirrored.batches mirrored.epochs merged_node
        bound = record {
          loaded = let h = bounds.loaded in omega (arith, h);
          at_end = bounds.at_end;
          merged_in = omega (arith, less);
          kept_in = bounds.kept_in;
          holds = λ slot low high under. go slot low high under (cases_lt slot.epoch x.merged_epochs);
          due = (λ i. bounds.due i ++ local_places (site_of w.config.partitions x.id.partition) (here_too i)) ∙ sym (local_joined (site_of w.config.partitions x.id.partition) (since w.config B x) (merged w.config B x.merged_epochs))
              ∙ ap (local_places (site_of w.config.partitions x.id.partition)) (sym one_more);
          passed = record {
            gone = bounds.passed.gone;
            whole = sym (append_assoc bounds.passed.gone x.pending (merged w.config (held_by x) x.merged_epochs)) ∙ (λ i. bounds.passed.whole i ++ here_too i) ∙ sym one_more;
            last = bounds.passed.last;
          };
        }
          where
            go : (slot : Slot) → loaded_epochs x ≤ slot.epoch → slot.epoch < suc x.merged_epochs → slot.group < w.config.partitions → (slot.epoch < x.merged_epochs) ⊎ (x.merged_epochs ≤ slot.epoch) → get x.held slot ≢ None
            go slot low high under (inl old) = bounds.holds slot low old under
            go slot low high under (inr new) = let at : x.merged_epochs ≡ slot.epoch = omega (arith, high, new) in subst (λ n. get x.held (record { epoch = n; group = slot.group }) ≢ None) at (all_held slot.group under)

            one_more : stretch w.config mirrored.batches (loaded_epochs x) (suc x.merged_epochs - loaded_epochs x) ≡ stretch w.config mirrored.batches (loaded_epochs x) (x.merged_epochs - loaded_epochs x) ++ merged w.config mirrored.batches x.merged_epochs
            one_more =
                stretch_on w.config mirrored.batches (loaded_epochs x) (x.merged_epochs - loaded_epochs x) 1 (suc x.merged_epochs - loaded_epochs x) x.merged_epochs (let h = bounds.loaded in omega (arith, h)) (let h = bounds.loaded in omega (arith, h))
                ∙ ap (λ es. stretch w.config mirrored.batches (loaded_epochs x) (x.merged_epochs - loaded_epochs x) ++ es) (append-nil (merged w.config mirrored.batches x.merged_epochs))

        rest : stretch w.config mirrored.batches x.merged_epochs (mirrored.epochs - x.merged_epochs) ≡ merged w.config mirrored.batches x.merged_epochs ++ stretch w.config mirrored.batches (suc x.merged_epochs) (mirrored.epochs - suc x.merged_epochs)
        rest = ap (stretch w.config mirrored.batches x.merged_epochs) (next_count mirrored.epochs x.merged_epochs less)
          where
            next_count : (a b : ℕ) → b < a → a - b ≡ suc (a - suc b)
            next_count a b h = omega (arith, h)

        same : mirror_node w.config mirrored.batches mirrored.epochs merged_node ≡ mirror_node w.config mirrored.batches mirrored.epochs x
        same = ap (λ (pending : Order Args). with_these pending)
            (append_assoc x.pending (merged w.config (held_by x) x.merged_epochs) (stretch w.config mirrored.batches (suc x.merged_epochs) (mirrored.epochs - suc x.merged_epochs))
            ∙ ap (λ es. x.pending ++ es) (ap (λ es. es ++ stretch w.config mirrored.batches (suc x.merged_epochs) (mirrored.epochs - suc x.merged_epochs)) here_too ∙ sym rest))
          where
            with_these : Order Args → Lives.Node Args Row
            with_these pending = record { partition = x.id.partition; scheduler = x.scheduler; pending = pending; kept_at = end_of x.kept_epochs; kept = x.kept_rows }

    pub acts_mirrored : ((next : NodeState Args Row) (sent : List (Packet Args Row Reply)) → Acts m w.config Merge x next sent → After next sent)
        → (act : Act Args) (next : NodeState Args Row) (sent : List (Packet Args Row Reply)) → Acts m w.config act x next sent → After next sent
    acts_mirrored merges (Submit t) next sent (e, f) = by_both next _ sent [] e f (idle _ [] refl (same_bounds _ refl refl refl refl refl refl refl refl) none_other)
    acts_mirrored merges (SubmitCold t) next sent (e, f) =
        by_both next _ sent (warm_packets w.config.partitions x.id t (participants w.config.partitions t)) e f
        (idle _ (warm_packets w.config.partitions x.id t (participants w.config.partitions t)) refl (same_bounds _ refl refl refl refl refl refl refl refl)
        (λ p c. subst IsOther (sym (warm_word w.config.partitions x.id t (participants w.config.partitions t) p c).1) tt))
    acts_mirrored merges (Cool k) next sent (e, f) =
        let store = cooled k x.scheduler.store in
        let y = with_scheduler x (with_store x.scheduler store) x.pending in
        by_both next y sent [] e f (silent y [] (same_bounds y refl refl refl refl refl refl refl refl) none_other (Lives.Stir here) refl (store, refl, refl, refl, refl, refl))
    acts_mirrored merges Close next sent (e, f) = by_both next _ sent [] e f (idle _ [] refl (same_bounds _ refl refl refl refl refl refl refl refl) none_other)
    acts_mirrored merges (Propose n) next sent (batch, closed, s, letters, given, does, e, f) = by_both next _ sent _ e f (synod_mirrored s letters given)
    acts_mirrored merges Merge next sent h = merges next sent h
    acts_mirrored merges Lock next sent (q, t, rest, first, e, f) =
        let site = site_of w.config.partitions x.id.partition in
        let y = with_scheduler x (admitted site x.scheduler q t) rest in
        by_both next y sent [] e f
        (silent y [] (rebound w.config B epochs x y bounds (opened_same site x.scheduler q t) refl refl (λ k some. some) refl refl (one_passed x y q t first refl)) none_other (Lives.Admit here) refl
        (q, t, rest ++ stretch w.config B x.merged_epochs (epochs - x.merged_epochs), ap (λ es. es ++ stretch w.config B x.merged_epochs (epochs - x.merged_epochs)) first, refl, refl, refl))
    acts_mirrored merges (Begin q) next sent (s, j, b, has, began, e, f) =
        by_both next (with_scheduler x s x.pending) sent _ e f
        (showing (with_scheduler x s x.pending) _ q j.served (same_bounds (with_scheduler x s x.pending) (ap (λ z. z.opened_from) b.now) refl refl refl refl refl refl (ap (λ z. z.last) b.now))
        (some_show x.id q j.served (reads_here (site_of w.config.partitions x.id.partition) j.request) (to_each x.id x.id.replica (Reads q j.served) (other_active (site_of w.config.partitions x.id.partition) j.request)) (all_show x.id x.id.replica q j.served (other_active (site_of w.config.partitions x.id.partition) j.request)))
        (Lives.Begin here q) refl (s, j, b, has, began, refl, refl, refl))
    acts_mirrored merges (Finish q) next sent h = finish_mirrored q next sent h
    acts_mirrored merges (Snapshot n) next sent (rows, s, takes, e, f) =
        let known = takes_there (index_of w.config.partitions me) x is.there (suc n) rows s takes in
        let upto = known.merged_all in
        let top = bounds.merged_in in
        let y : NodeState Args Row = record x { scheduler = s; kept_epochs = suc n; kept_rows = rows } in
        let same = same_bounds (record x { scheduler = s }) known.same_opened refl refl refl refl refl refl known.same_last in
        let b : Bounds w.config B epochs y = record { loaded = same.loaded; at_end = same.at_end; merged_in = same.merged_in; kept_in = omega (arith, upto, top); holds = same.holds; due = same.due; passed = record { gone = same.passed.gone; whole = same.passed.whole; last = same.passed.last } } in
        by_both next y sent [] e f
        (silent y [] b none_other (Lives.Snapshot here (end_of (suc n))) refl
        (rows, s, known.takes, (λ h. let less = before_end (end_of epochs) (suc n) h in omega (arith, less, upto, top)), refl, refl, refl))
    acts_mirrored merges (Mark n) next sent (s, marks, e, f) =
        let y = with_scheduler x s x.pending in
        by_both next y sent [] e f
        (silent y [] (same_bounds y (ap (λ z. z.opened_from) marks.now) refl refl refl refl refl refl (ap (λ z. z.last) marks.now)) none_other (Lives.Mark here (end_of (suc n))) refl
        (s, marks_there (index_of w.config.partitions me) x is.there (suc n) s marks, refl, refl, refl))
    acts_mirrored merges (AskForReads q r) next sent (ps, e, f) = by_both next x sent _ e f (idle x _ refl bounds (each_other x.id r (AskReads q) ps tt))
    acts_mirrored merges (AskForBatch slot of) next sent (e, f) = by_both next x sent _ e f (idle x _ refl bounds (one_other _ tt))
    acts_mirrored merges Restart next sent (e, f) =
        let top = bounds.kept_in in
        let b : Bounds w.config B epochs (restarted x (restarted_synod x.synod)) = record {
          loaded = omega arith;
          at_end = refl;
          merged_in = top;
          kept_in = top;
          holds = λ slot low high under. absurd (let l = low in let h = high in omega (arith, l, h));
          due = ap (local_places (site_of w.config.partitions x.id.partition)) (sym (no_epochs w.config B x.kept_epochs));
          passed = record { gone = []; whole = sym (no_epochs w.config B x.kept_epochs); last = λ p h. absurd (never_some h) };
        } in
        by_both next (restarted x (restarted_synod x.synod)) sent [] e f
        (silent (restarted x (restarted_synod x.synod)) [] b none_other (Lives.Restart here) refl
        (ap (λ pending. record { partition = x.id.partition; scheduler = opened (end_of x.kept_epochs) x.kept_rows; pending = pending; kept_at = end_of x.kept_epochs; kept = x.kept_rows }) (sym (from_end w.config B epochs x.kept_epochs top)), refl, refl))
