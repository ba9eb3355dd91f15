-- After every list of events the nodes agree, and each replica is serial.
use Rattle.std.proofs.Common.{◌≡◌, ℕ, zero, suc, ◌+◌, ◌-◌, ◌*◌, ◌/◌, ◌%◌, ◌<◌, ◌≤◌, List, [], ◌∷◌, map, ◌⊎◌, inl, inr, refl, sym, ap, ◌∙◌, subst, arith, Bool, true, false, Option, Some, None, cond}
use Rattle.std.specs.Prelude.{slice_get, ◌++◌, ◌==◌, ◌&&◌, nat_lt}
use Rattle.std.specs.List.{Contains, range_with_len}
use Rattle.std.proofs.Math.Nat.{div-lt_iff_lt-mul, mod-lt}
use Rattle.std.proofs.lemmas.Nat.{div-add-mod'}
use Rattle.std.specs.FinMap.{get, empty, get-empty}
use Rattle.std.proofs.lemmas.Bool.{cases_lt, and_parts}
use Rattle.std.proofs.lemmas.Option.{none-some}
use Rattle.calvin_app.specs.Meaning.{Meaning, WritesWithin}
use Rattle.calvin_app.specs.Rows.{part, view}
use Rattle.calvin_app.specs.Serial.{answer_one, rows_before, answers_by_place}
use Rattle.calvin_app.specs.declared.answer.Answer.{Answer}
use Rattle.calvin_bench.specs.Turns.{site_of, AllBefore, Stands}
use Rattle.calvin_node_acts.specs.NodeStates.{NodeState, new_node}
use Rattle.calvin_node_packets.specs.declared.packet.Address.{Address}
use Rattle.calvin_node_packets.specs.declared.packet.Packet.{Packet}
use Rattle.calvin_node_packets.specs.declared.packet.Address.TheVariants.{AtNode, AtClient}
use Rattle.calvin_node_packets.specs.declared.packet.Content.TheVariants.{Replies}
use Rattle.calvin_node_acts.specs.Handling.{NodeDeed, handle}
use Rattle.calvin_types.specs.Deeds.{Refuses, Does}
use Rattle.calvin_order.proofs.Places.{before_by_epoch}
use Rattle.calvin_order.proofs.Epochs.{merged_same, stretch_rises, stretch_stands, stands_within, stands_beyond}
use Rattle.calvin_order.specs.Configs.{Config, stretch, order}
use Rattle.calvin_order.specs.Merged.{Batch, Assignment, end_of}
use Rattle.calvin_sched.specs.Scheduling.{opened}
use Rattle.calvin_synod.specs.Cases.{fresh}
use Rattle.calvin_types.specs.Keys.{key_cmp, partition_of}
use Rattle.calvin_types.specs.Orders.{StandsAt}
use Rattle.calvin_types.specs.Participants.{is_active, local_keys}
use Rattle.calvin_types.specs.Places.{slot_cmp, IsBefore}
use Rattle.calvin_types.specs.declared.key.Key.{Key}
use Rattle.calvin_types.specs.declared.place.NodeId.{NodeId}
use Rattle.calvin_types.specs.declared.place.RequestId.{RequestId}
use Rattle.calvin_types.specs.declared.place.Ballot.{Ballot}
use Rattle.calvin_types.specs.declared.place.Place.{Place}
use Rattle.calvin_types.specs.declared.place.Slot.{Slot}
use Rattle.calvin_types.specs.declared.txn.Txn.{Txn}
use Rattle.calvin_world.proofs.Cases.{Handles, Acts, handle_does, acts_does}
use Rattle.calvin_bench.proofs.Standing.{done_all, stands_is}
use Rattle.calvin_world.proofs.RowsAtEnd.{rows_at_end, rows_upto}
use Rattle.calvin_world.specs.Promises.{held_by, StandsAtEnd, IsNode, IsChosenUpTo, rows_after, Agrees, IsSerial, PointsAreSerial, StandAlike}
use Rattle.calvin_node_acts.specs.declared.act.Act.{Act}
use Rattle.calvin_node_acts.specs.declared.act.Act.TheVariants.{Merge}
use Rattle.calvin_node_acts.specs.Acting.{lock, deed_of}
use Rattle.calvin_types.specs.declared.fault.Fault.{Fault}
use Rattle.calvin_types.specs.declared.fault.Fault.TheVariants.{NothingToLock}
use Rattle.calvin_world.specs.declared.event.Event.{Event}
use Rattle.calvin_world.specs.declared.event.Outcome.{Outcome}
use Rattle.calvin_world.specs.declared.event.Event.TheVariants.{At, Deliver}
use Rattle.calvin_world.specs.Worlds.{WorldState, index_of, opening, node_at, carry_out, at_node, deliver_to, deliver, happens, Step, Leads}
use Rattle.calvin_synod.proofs.Cases.{seat_of, holds_at_first}
use Rattle.calvin_bench.specs.Lives
use Rattle.calvin_bench.proofs.KeyRows.{same_rows, get-part}
use Rattle.calvin_bench.proofs.SerialRows.{answer_at, only_one}
use Rattle.calvin_bench.proofs.OnePartition.{rows_at_point}
use Rattle.calvin_bench.proofs.ManyReplicas.{opening_keeps, holds_from}
use Rattle.calvin_bench.proofs.Lists.{contains_at, none_in, get_none, get_map, was_map}
use Rattle.calvin_world.proofs.Indexes.{same_index}
use Rattle.calvin_world.proofs.Kept.{synod_of, member_of, seats_of, sent_in, Kept, its_id, after, owed_keeps}
use Rattle.calvin_world.proofs.Owed.{handles_owed, acts_owed}
use Rattle.calvin_world.proofs.Mirror.{one_chosen, held_is, Bounds, mirror_node, mirror, Mirrored}
use Rattle.calvin_world.proofs.MirrorEvents.{done_there, stands_there, merge_below, acts_mirrored, handles_mirrored}
use Rattle.calvin_world.proofs.Settling.{settled}
use Rattle.calvin_world.proofs.Handed.{same_order as same_so, is_handed, lock_refuses, begins}

less_is : (a b : ℕ) → nat_lt a b ≡ true → a < b
less_is a b h = grind arith

ranged : (a n i y : ℕ) → slice_get (range_with_len a n) i ≡ Some y → (i < n) × (y ≡ a + i)
ranged a zero i y h = absurd (get_none i y h)
ranged a (suc n) zero y h = let is : a ≡ y = cc in (omega arith, omega (arith, is))
ranged a (suc n) (suc i) y h = let more = ranged (a + 1) n i y h in let less = more.0 in let is = more.1 in (omega (arith, less), omega (arith, is))

positive : (size parts i : ℕ) → i < size * parts → (0 < parts) ⊎ (parts ≤ 0) → 0 < parts
positive size parts i less (inl some) = some
positive size parts i less (inr none) = let e : parts ≡ 0 = omega (arith, none) in let z : i < size * 0 = subst (λ p. i < size * p) e less in absurd (omega (arith, z))

module _ {Args Row Reply : Type 0} (m : Meaning Args Row Reply) (law : WritesWithin m) where
  -- ---- every event

  pub record Both (w : WorldState Args Row Reply) : Type 0 where
    pub kept : Kept w
    pub mirrored : Mirrored m law w

  -- a packet that is handled
  delivered : (w : WorldState Args Row Reply) → Both w → (me : NodeId) (x : NodeState Args Row) (is : IsNode w me x) (p : Packet Args Row Reply) → Contains w.packets p → (next : NodeState Args Row) (sent : List (Packet Args Row Reply)) → Handles m w.config p.from p.content x next sent → Both (after w me x next sent is)
  delivered w both me x is p there next sent does = record {
    kept = owed_keeps w me x next sent is both.kept (handles_owed w both.kept me x is m p p.content there refl next sent does);
    mirrored = handles_mirrored m law w both.kept both.mirrored me x is p p.content there refl next sent does;
  }

  acted : (w : WorldState Args Row Reply) → Both w → (me : NodeId) (x : NodeState Args Row) (is : IsNode w me x) (act : Act Args) (next : NodeState Args Row) (sent : List (Packet Args Row Reply)) → Acts m w.config act x next sent → Both (after w me x next sent is)
  acted w both me x is act next sent does = record {
    kept = owed_keeps w me x next sent is both.kept (acts_owed w both.kept me x is m act next sent does);
    mirrored = acts_mirrored m law w both.kept both.mirrored me x is merges act next sent does;
  }
    where
      merges : (next : NodeState Args Row) (sent : List (Packet Args Row Reply)) → Acts m w.config Merge x next sent → Mirrored m law (after w me x next sent is)
      merges next sent does = go (cases_lt x.merged_epochs both.mirrored.epochs)
        where
          go : (x.merged_epochs < both.mirrored.epochs) ⊎ (both.mirrored.epochs ≤ x.merged_epochs) → Mirrored m law (after w me x next sent is)
          go (inl below) = merge_below m law w both.kept both.mirrored me x is below next sent does
          go (inr level) =
              let top = (both.mirrored.bounds (index_of w.config.partitions me) x is.there).merged_in in
              let more = settled m law w both.kept both.mirrored (index_of w.config.partitions me) x is.there (omega (arith, level, top)) does.0 in
              merge_below m law w both.kept more.0 me x is more.1 next sent does

  module _ (w : WorldState Args Row Reply) (both : Both w) where
    -- a deed that takes effect keeps both, and a refusal changes nothing
    carried : (me : NodeId) (x : NodeState Args Row) (is : IsNode w me x) (deed : NodeDeed Args Row Reply) → ((next : NodeState Args Row) (sent : List (Packet Args Row Reply)) → deed ≡ Does next sent → Both (after w me x next sent is)) → Both (carry_out w me deed).1
    carried me x is (Refuses f) keeps = both
    carried me x is (Does next sent) keeps = keeps next sent refl

    pub is_there : (me : NodeId) (x : NodeState Args Row) → node_at w me ≡ Some x → IsNode w me x
    is_there me x e = go (nat_lt me.replica w.config.replicas && nat_lt me.partition w.config.partitions) refl e
      where
        go : (b : Bool) → (nat_lt me.replica w.config.replicas && nat_lt me.partition w.config.partitions) ≡ b → cond b (slice_get w.nodes (index_of w.config.partitions me)) None ≡ Some x → IsNode w me x
        go true in_range e = let both = and_parts (nat_lt me.replica w.config.replicas) (nat_lt me.partition w.config.partitions) in_range in record { replica = less_is me.replica w.config.replicas both.0; partition = less_is me.partition w.config.partitions both.1; there = e }
        go false in_range e = absurd (none-some x e)

    at_its_node : (me : NodeId) (act : NodeState Args Row → NodeDeed Args Row Reply) → ((x : NodeState Args Row) (is : IsNode w me x) (next : NodeState Args Row) (sent : List (Packet Args Row Reply)) → act x ≡ Does next sent → Both (after w me x next sent is))
        → Both (at_node w me act (node_at w me)).1
    at_its_node me act keeps = go (node_at w me) refl
      where
        go : (o : Option (NodeState Args Row)) → node_at w me ≡ o → Both (at_node w me act o).1
        go None e = both
        go (Some x) e = let is = is_there me x e in carried me x is (act x) (keeps x is)

    deliver_both : (number : ℕ) → Both (deliver w (slice_get w.packets number)).1
    deliver_both number = by_packet (slice_get w.packets number) refl
      where
        by_address : (p : Packet Args Row Reply) → slice_get w.packets number ≡ Some p → (to : Address) → Both (deliver_to w p to).1
        by_address p e (AtNode me) = at_its_node me (handle w.config p) (λ x is next sent does. delivered w both me x is p (contains_at w.packets number p e) next sent (handle_does w.config x next sent m p does))
        by_address p e (AtClient client) = both

        by_packet : (o : Option (Packet Args Row Reply)) → slice_get w.packets number ≡ o → Both (deliver w o).1
        by_packet None e = both
        by_packet (Some p) e = by_address p e p.to

    happens_both : (event : Event Args) → Both (happens m w event).1
    happens_both (At me act) = at_its_node me (deed_of m w.config act) (λ x is next sent e. acted w both me x is act next sent (acts_does w.config x next sent m act e))
    happens_both (Deliver number) = deliver_both number

    pub step_both : (event : Event Args) (outcome : Outcome) (new : WorldState Args Row Reply) → Step m w event outcome new → Both new
    step_both event outcome new s = elim s [
      | inl e ↦ subst Both (sym (ap (λ (y : Outcome × WorldState Args Row Reply). y.1) e)) (happens_both event)
      | inr e ↦ subst Both (sym e.3) both
    ]

  pub leads_both : (w : WorldState Args Row Reply) → Both w → (events : List (Event Args)) (outcomes : List Outcome) (new : WorldState Args Row Reply) → Leads m w events outcomes new → Both new
  leads_both w both [] [] new h = subst Both (sym h) both
  leads_both w both [] (outcome ∷ outcomes) new h = absurd h
  leads_both w both (event ∷ events) [] new h = absurd h
  leads_both w both (event ∷ events) (outcome ∷ outcomes) new (mid, first, rest) = leads_both mid (step_both w both event outcome mid first) events outcomes new rest

  -- ---- at the opening

  pub record IsOpening (w : WorldState Args Row Reply) : Type 0 where
    pub no_packets : w.packets ≡ []
    pub nodes : (i : ℕ) (x : NodeState Args Row) → slice_get w.nodes i ≡ Some x → (i ≡ index_of w.config.partitions x.id) × (x.id.replica < w.config.replicas) × (x.id.partition < w.config.partitions) × (x ≡ new_node x.id)

  pub is_opening : (config : Config) → IsOpening (opening config)
  is_opening config = record { no_packets = refl; nodes = new }
    where
      new : (i : ℕ) (x : NodeState Args Row) → slice_get (map (λ i. new_node {Args = Args} {Row = Row} (record { replica = i / config.partitions; partition = i % config.partitions })) (range_with_len 0 (config.replicas * config.partitions))) i ≡ Some x
          → (i ≡ index_of config.partitions x.id) × (x.id.replica < config.replicas) × (x.id.partition < config.partitions) × (x ≡ new_node x.id)
      new i x h =
          let was = was_map (λ i. new_node {Args = Args} {Row = Row} (record { replica = i / config.partitions; partition = i % config.partitions })) (range_with_len 0 (config.replicas * config.partitions)) i x h in
          let at = ranged 0 (config.replicas * config.partitions) i was.0 was.1 in
          let less : i < config.replicas * config.partitions = at.0 in
          let some : 0 < config.partitions = positive config.replicas config.partitions i less (cases_lt 0 config.partitions) in
          let same : was.0 ≡ i = (let e = at.1 in omega (arith, e)) in
          subst (λ (x : NodeState Args Row). (i ≡ index_of config.partitions x.id) × (x.id.replica < config.replicas) × (x.id.partition < config.partitions) × (x ≡ new_node x.id))
          (ap (λ j. new_node (record { replica = j / config.partitions; partition = j % config.partitions })) (sym same) ∙ was.2)
          (sym (div-add-mod' i config.partitions), (div-lt_iff_lt-mul some).1 less, mod-lt i some, refl)

  empty_part : (parts p : ℕ) → part parts p (empty {X = Row} {R = key_cmp}) ≡ empty
  empty_part parts p = same_rows _ _ (λ k. get-part parts p empty k ∙ none k (partition_of parts k == p))
    where
      none : (k : Key) (b : Bool) → cond b (get (empty {X = Row} {R = key_cmp}) k) None ≡ get (empty {X = Row} {R = key_cmp}) k
      none k true = refl
      none k false = sym (get-empty key_cmp k)

  opening_kept : (w : WorldState Args Row Reply) → IsOpening w → Kept w
  unfolding fresh
  opening_kept w o = record {
    placed = λ i x there. let t = o.nodes i x there in (t.0, t.1, t.2);
    synod = λ slot less. holds_at_first w.config.replicas (sent_in w.packets slot) slot (seats_of w slot) (λ y s. nothing s.0 s.1) (λ r. ap (λ s. seat_of s slot) (is_fresh (index_of w.config.partitions (member_of slot r)) (slice_get w.nodes (index_of w.config.partitions (member_of slot r))) refl));
    held = λ i x there slot batch h. absurd (no_batch (sym (get-empty slot_cmp slot) ∙ ap (λ (y : NodeState Args Row). get y.held slot) (sym (o.nodes i x there).3) ∙ h));
    given = λ i x there slot g. absurd (g (ap (λ (y : NodeState Args Row). get y.synod.learner.given slot) (o.nodes i x there).3 ∙ none_given slot));
    decided = λ p c. absurd (nothing p c);
    grouped = λ slot y s. absurd (nothing s.0 s.1);
  }
    where
      nothing : (p : Packet Args Row Reply) → Contains w.packets p → ⊥
      nothing p c = none_in p (subst (λ packets. Contains packets p) o.no_packets c)

      none_given : (slot : Slot) → get (fresh {B = Batch Args}).learner.given slot ≡ None
      none_given slot = get-empty slot_cmp slot

      no_batch : {b : Batch Args} → None ≡ Some b → ⊥
      no_batch e = cc

      is_fresh : (i : ℕ) (y : Option (NodeState Args Row)) → slice_get w.nodes i ≡ y → synod_of y ≡ fresh
      is_fresh i None e = refl
      is_fresh i (Some x) e = ap (λ (y : NodeState Args Row). y.synod) (o.nodes i x e).3

  opening_mirrored : (w : WorldState Args Row Reply) → IsOpening w → Mirrored m law w
  opening_mirrored w o = record {
    epochs = 0;
    batches = λ slot. [];
    reads = [];
    replies = [];
    chosen = λ slot low less. absurd (omega (arith, low));
    bounds = λ i x there. subst (Bounds w.config (λ slot. []) 0) (sym (o.nodes i x there).3) (record { loaded = omega arith; at_end = refl; merged_in = omega arith; kept_in = omega arith; holds = λ slot low high less. absurd (omega (arith, high)); due = refl; passed = record { gone = []; whole = refl; last = λ p h. absurd (none-some p h) } });
    keeps = opening_keeps m w.config.partitions empty law (mirror w (λ slot. []) 0 [] []) (record { no_order = refl; no_reads = refl; no_replies = refl; nodes = node });
    are_reads = λ p c. absurd (nothing p c);
    are_replies = λ p c. absurd (nothing p c);
    were_sent = λ k x h. absurd (get_none k x h);
  }
    where
      nothing : (p : Packet Args Row Reply) → Contains w.packets p → ⊥
      nothing p c = none_in p (subst (λ packets. Contains packets p) o.no_packets c)

      node : (i : ℕ) (y : Lives.Node Args Row) → slice_get (map (mirror_node w.config (λ slot. []) 0) w.nodes) i ≡ Some y
          → y ≡ record { partition = y.partition; scheduler = opened (end_of 0) (part w.config.partitions y.partition empty); pending = []; kept_at = end_of 0; kept = part w.config.partitions y.partition empty }
      node i y h =
          let was = was_map (mirror_node w.config (λ slot. []) 0) w.nodes i y h in
          let x = was.0 in
          let is_new = (o.nodes i x was.1).3 in
          subst (λ (y : Lives.Node Args Row). y ≡ record { partition = y.partition; scheduler = opened (end_of 0) (part w.config.partitions y.partition empty); pending = []; kept_at = end_of 0; kept = part w.config.partitions y.partition empty })
          (ap (mirror_node w.config (λ slot. []) 0) (sym is_new) ∙ was.2)
          (λ k. record { partition = x.id.partition; scheduler = opened (end_of 0) (sym (empty_part w.config.partitions x.id.partition) k); pending = []; kept_at = end_of 0; kept = sym (empty_part w.config.partitions x.id.partition) k })

  -- ---- the theorem

  module _ (w : WorldState Args Row Reply) (kept : Kept w) (mirrored : Mirrored m law w) where
    abbrev B : Assignment Args
    B = mirrored.batches

    abbrev all : ℕ
    all = mirrored.epochs

    abbrev place_of : NodeId → ℕ
    place_of id = index_of w.config.partitions id

    same_order : (C : Assignment Args) (n : ℕ) → n ≤ all → IsChosenUpTo w C n → order w.config B n ≡ order w.config C n
    same_order C n upto chosen = same_so m law w kept mirrored C n upto chosen

    rows_same : (C : Assignment Args) (n : ℕ) → n ≤ all → IsChosenUpTo w C n → rows_before m (order w.config B all) empty (end_of n) ≡ rows_after m w.config C n
    rows_same C n upto chosen = rows_at_end m w.config B empty n all upto ∙ ap (λ es. (Rattle.calvin_app.specs.Serial.serial m (map (λ e. e.1) es) empty).0) (same_order C n upto chosen)

    rows_at : (C : Assignment Args) (q : Place) → q.epoch < all → IsChosenUpTo w C (suc q.epoch) → rows_before m (order w.config B all) empty q ≡ rows_before m (order w.config C (suc q.epoch)) empty q
    rows_at C q less chosen = rows_upto m w.config B empty q all less ∙ ap (λ es. rows_before m es empty q) (same_order C (suc q.epoch) (omega (arith, less)) chosen)

    in_first : (C : Assignment Args) (q : Place) (t : Txn Args) → StandsAt (order w.config B all) q t → IsChosenUpTo w C (suc q.epoch) → (q.epoch < all) × StandsAt (order w.config C (suc q.epoch)) q t
    in_first C q t at chosen =
        let less : q.epoch < all = (let h = (stretch_stands w.config B 0 all q t at).1 in omega (arith, h)) in
        (less, subst (λ es. StandsAt es q t) (same_order C (suc q.epoch) (omega (arith, less)) chosen) (stands_within w.config B 0 all 0 (suc q.epoch) q t (omega arith) (omega (arith, less)) (omega arith) (omega arith) at))

    in_mirror : (id : NodeId) (x : NodeState Args Row) → IsNode w id x → slice_get (map (mirror_node w.config B all) w.nodes) (place_of id) ≡ Some (mirror_node w.config B all x)
    in_mirror id x is = get_map (mirror_node w.config B all) w.nodes (place_of id) x is.there

    stands_in : (id : NodeId) (x : NodeState Args Row) → IsNode w id x → (n : ℕ) → StandsAtEnd x n → Stands (site_of w.config.partitions x.id.partition) (order w.config B all) x.scheduler (end_of n)
    stands_in id x is n stands = stands_there m law w kept mirrored (place_of id) x is.there n stands

    within : (id : NodeId) (x : NodeState Args Row) → IsNode w id x → (n : ℕ) → StandsAtEnd x n → n ≤ all
    within id x is n stands = let a = (stands_is x.scheduler x.merged_epochs x.due n stands).merged_all in let b = (mirrored.bounds (place_of id) x is.there).merged_in in omega (arith, a, b)

    all_agree : Agrees w
    all_agree = record {
      held = λ id x is slot batch h. kept.held (place_of id) x is.there slot batch h;
      held_alike = λ a b x y is_a is_b slot c d h k. one_chosen w kept slot c d (kept.held (place_of a) x is_a.there slot c h) (kept.held (place_of b) y is_b.there slot d k);
      one = λ slot b c p q. one_chosen w kept slot b c p q;
      merges = λ id x is C chosen e low high. merged_same w.config (held_by x) C e (λ g less.
          held_is w kept (place_of id) x is.there (record { epoch = e; group = g }) (C (record { epoch = e; group = g })) (chosen (record { epoch = e; group = g }) high less) ((mirrored.bounds (place_of id) x is.there).holds (record { epoch = e; group = g }) low high less));
      handed = is_handed m law w kept mirrored;
      begins = begins m law w kept mirrored;
    }

    given_packet : (id : NodeId) (x : NodeState Args Row) → IsNode w id x → (q : Place) (t : Txn Args) → StandsAt (order w.config B all) q t → Lives.HasGiven mirrored.replies (place_of id) q
        → (p : Packet Args Row Reply) × Contains w.packets p × (p.from ≡ id) × (answer : Answer Reply) × (p.content ≡ Replies q t.id t.attempt answer)
    given_packet id x is q t at (k, g, there, by, place) =
        let sent = mirrored.were_sent k g there in
        let reply = mirrored.are_replies sent.packet sent.there g.place sent.id sent.attempt g.answer sent.content in
        let same : reply.request ≡ t = only_one (order w.config B all) (stretch_rises w.config B 0 all) q reply.request t (subst (λ z. StandsAt (order w.config B all) z reply.request) place reply.stands) at in (
          sent.packet,
          sent.there,
          same_index w.config.partitions sent.packet.from id sent.partition is.partition (sent.by ∙ by),
          g.answer,
          sent.content ∙ (λ i. Replies (place i) ((reply.id_is ∙ ap (λ (u : Txn Args). u.id) same) i) ((reply.attempt_is ∙ ap (λ (u : Txn Args). u.attempt) same) i) g.answer),
        )

    all_serial : IsSerial m w
    all_serial = record {
      settled = (
        B,
        all,
        record {
          chosen = mirrored.chosen;
          merges = λ id x is. (mirrored.bounds (place_of id) x is.there).merged_in;
          kept = λ id x is. (mirrored.bounds (place_of id) x is.there).kept_in;
          replies = λ p c q id attempt answer content. let reply = mirrored.are_replies p c q id attempt answer content in let h = (stretch_stands w.config B 0 all q reply.request reply.stands).1 in omega (arith, h);
          reads = λ p c q rows content.
              let known = mirrored.are_reads p c q rows content in
              let due = mirrored.keeps.reads known.0 (record { place = q; from = p.from.partition; rows = rows }) known.1 in
              let h = (stretch_stands w.config B 0 all q due.0 due.1).1 in omega (arith, h);
        },
      );
      rows = λ id x is n stands C chosen.
          (holds_from m w.config.partitions empty law (mirror w B all mirrored.reads mirrored.replies) mirrored.keeps).rows (place_of id) (mirror_node w.config B all x) (end_of n) (in_mirror id x is) (stands_in id x is n stands)
          ∙ (λ i. part w.config.partitions ((its_id w kept id x is i).partition) (rows_same C n (within id x is n stands) chosen i));
      sent = λ id x is n stands C chosen q t at active.
          let upto = within id x is n stands in
          let here : StandsAt (order w.config B n) q t = subst (λ es. StandsAt es q t) (sym (same_order C n upto chosen)) at in
          let there : StandsAt (order w.config B all) q t = stands_beyond w.config B 0 all 0 n q t (omega arith) (omega (arith, upto)) here in
          let early : IsBefore q (end_of n) = before_by_epoch q (end_of n) (let h = (stretch_stands w.config B 0 n q t here).1 in omega (arith, h)) in
          given_packet id x is q t there
          ((holds_from m w.config.partitions empty law (mirror w B all mirrored.reads mirrored.replies) mirrored.keeps).sent (place_of id) (mirror_node w.config B all x) (end_of n) (in_mirror id x is) (stands_in id x is n stands) q t there early
          (subst (λ (i : NodeId). is_active (site_of w.config.partitions i.partition) t ≡ true) (sym (its_id w kept id x is)) active));
      replies = λ p c q id attempt answer content C chosen.
          let reply = mirrored.are_replies p c q id attempt answer content in
          let right = mirrored.keeps.replies reply.number_of (record { by = index_of w.config.partitions p.from; place = q; answer = answer }) reply.given in
          let first = in_first C q right.0 right.1 chosen in
          let mine = in_first C q reply.request reply.stands chosen in (
            subst (λ a. Contains (answers_by_place m (order w.config C (suc q.epoch)) empty) (q, a)) (sym (right.2 ∙ ap (answer_one m right.0) (rows_at C q first.0 chosen)))
                (answer_at m (order w.config C (suc q.epoch)) (stretch_rises w.config C 0 (suc q.epoch)) empty q right.0 first.1),
            reply.request,
            mine.1,
            reply.id_is,
            reply.attempt_is,
            reply.active,
          );
      reads = λ p c q rows content C chosen.
          let known = mirrored.are_reads p c q rows content in
          let due = mirrored.keeps.reads known.0 (record { place = q; from = p.from.partition; rows = rows }) known.1 in
          let first = in_first C q due.0 due.1 chosen in
          (due.0, first.1, due.2 ∙ ap (λ z. view z (local_keys (site_of w.config.partitions p.from.partition) due.0.sets.reads)) (rows_at C q first.0 chosen));
      kept = λ id x is C chosen.
          let b = mirrored.bounds (place_of id) x is.there in
          (mirrored.keeps.nodes (place_of id) (mirror_node w.config B all x) (in_mirror id x is)).kept_is
          ∙ (λ i. part w.config.partitions ((its_id w kept id x is i).partition) (rows_same C x.kept_epochs b.kept_in chosen i));
    }

    -- the answer of every reply is that of the request at its place
    answer_is : (p : Packet Args Row Reply) → Contains w.packets p → (q : Place) (id : RequestId) (attempt : ℕ) (answer : Answer Reply) → p.content ≡ Replies q id attempt answer
        → (t : Txn Args) → StandsAt (order w.config B all) q t → answer ≡ answer_one m t (rows_before m (order w.config B all) empty q)
    answer_is p c q id attempt answer content t at =
        let reply = mirrored.are_replies p c q id attempt answer content in
        let right = mirrored.keeps.replies reply.number_of (record { by = index_of w.config.partitions p.from; place = q; answer = answer }) reply.given in
        right.2 ∙ ap (λ u. answer_one m u (rows_before m (order w.config B all) empty q)) (only_one (order w.config B all) (stretch_rises w.config B 0 all) q right.0 t right.1 at)

    -- two nodes that stand at the same end
    stand_alike : StandAlike w
    stand_alike n a b x y is_a is_b same stands_a stands_b = record {
      rows = mine a x is_a stands_a ∙ ap (λ p. part w.config.partitions p (rows_before m (order w.config B all) empty (end_of n))) same ∙ sym (mine b y is_b stands_b);
      replies = replies;
    }
      where
        mine : (id : NodeId) (z : NodeState Args Row) → IsNode w id z → StandsAtEnd z n → z.scheduler.store.map ≡ part w.config.partitions id.partition (rows_before m (order w.config B all) empty (end_of n))
        mine id z is stands =
            (holds_from m w.config.partitions empty law (mirror w B all mirrored.reads mirrored.replies) mirrored.keeps).rows (place_of id) (mirror_node w.config B all z) (end_of n) (in_mirror id z is) (stands_in id z is n stands)
            ∙ (λ i. part w.config.partitions ((its_id w kept id z is i).partition) (rows_before m (order w.config B all) empty (end_of n)))

        replies : (p : Packet Args Row Reply) → Contains w.packets p → p.from ≡ a → (q : Place) (id : RequestId) (attempt : ℕ) (answer : Answer Reply) → p.content ≡ Replies q id attempt answer → q.epoch < n
            → (r : Packet Args Row Reply) × Contains w.packets r × (r.from ≡ b) × (r.content ≡ p.content)
        replies p c from q id attempt answer content early =
            let reply = mirrored.are_replies p c q id attempt answer content in
            let t = reply.request in
            let partition : p.from.partition ≡ y.id.partition = ap (λ (i : NodeId). i.partition) from ∙ same ∙ ap (λ (i : NodeId). i.partition) (sym (its_id w kept b y is_b)) in
            let given = (holds_from m w.config.partitions empty law (mirror w B all mirrored.reads mirrored.replies) mirrored.keeps).sent (place_of b) (mirror_node w.config B all y) (end_of n) (in_mirror b y is_b) (stands_in b y is_b n stands_b)
            q t reply.stands (before_by_epoch q (end_of n) early) (subst (λ k. is_active (site_of w.config.partitions k) t ≡ true) partition reply.active) in
            let other = given_packet b y is_b q t reply.stands given in
            let equal : other.3 ≡ answer = answer_is other.0 other.1 q t.id t.attempt other.3 other.4 t reply.stands ∙ sym (answer_is p c q id attempt answer content t reply.stands) in
            (other.0, other.1, other.2, other.4 ∙ (λ i. Replies q (sym reply.id_is i) (sym reply.attempt_is i) (equal i)) ∙ sym content)

    -- the rows of an open point, once the epochs up to it are merged and done
    points_serial : PointsAreSerial m w
    points_serial id x is p is_open n at done C chosen =
        let there = in_mirror id x is in
        let known = done_all x.scheduler x.merged_epochs x.due n done in
        let top = (mirrored.bounds (place_of id) x is.there).merged_in in
        let upto : n ≤ all = (let a = known.merged_all in omega (arith, a, top)) in
        rows_at_point m (order w.config B all) empty (site_of w.config.partitions x.id.partition) law mirrored.keeps.rising (x.pending ++ stretch w.config B x.merged_epochs (all - x.merged_epochs)) x.scheduler
        (mirrored.keeps.nodes (place_of id) (mirror_node w.config B all x) there).keeps p is_open
        (subst (AllBefore (site_of w.config.partitions x.id.partition) (order w.config B all) x.scheduler) (sym at) (done_there m law w kept mirrored (place_of id) x is.there n known))
        ∙ ap (λ q. part w.config.partitions x.id.partition (rows_before m (order w.config B all) empty q)) at
        ∙ (λ i. part w.config.partitions ((its_id w kept id x is i).partition) (rows_same C n upto chosen i))

  pub at_first : (config : Config) → Both (opening config)
  at_first config = record { kept = opening_kept (opening config) (is_opening config); mirrored = opening_mirrored (opening config) (is_opening config) }

  module _ (config : Config) (events : List (Event Args)) (outcomes : List Outcome) (new : WorldState Args Row Reply) (leads : Leads m (opening config) events outcomes new) where
    both : Both new
    both = leads_both (opening config) (at_first config) events outcomes new leads

    pub all_nodes_agree : Agrees new
    all_nodes_agree = all_agree new both.kept both.mirrored

    pub all_given_held : (id : NodeId) (x : NodeState Args Row) → IsNode new id x → (slot : Slot) (ballot : Ballot) → get x.synod.learner.given slot ≡ Some ballot → (batch : Batch Args) × (get x.held slot ≡ Some batch)
    all_given_held id x is slot ballot given = is_held (get x.held slot) (both.kept.given (index_of new.config.partitions id) x is.there slot (λ none. none-some ballot (sym none ∙ given)))
      where
        is_held : (o : Option (Batch Args)) → (o ≡ None → ⊥) → (batch : Batch Args) × (o ≡ Some batch)
        is_held None some = absurd (some refl)
        is_held (Some batch) some = (batch, refl)

    pub all_locks_refuse : (id : NodeId) (x : NodeState Args Row) → IsNode new id x → (f : Fault) → ◌≡◌ {A = NodeDeed Args Row Reply} (lock new.config x) (Refuses f) → (f ≡ NothingToLock) × (x.pending ≡ [])
    all_locks_refuse id x is f e = lock_refuses m law new both.kept both.mirrored id x is f e

    pub all_replicas_serial : IsSerial m new
    all_replicas_serial = all_serial new both.kept both.mirrored

    pub all_stand_alike : StandAlike new
    all_stand_alike = stand_alike new both.kept both.mirrored

    pub all_points_serial : PointsAreSerial m new
    all_points_serial = points_serial new both.kept both.mirrored
