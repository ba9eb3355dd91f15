-- What a node was given of the order: what it admitted or passed over, what is pending, what is due, and what its scheduler has of each place.
use Rattle.std.proofs.Common.{◌≡◌, ℕ, ◌+◌, ◌-◌, ◌<◌, ◌≤◌, List, [], ◌∷◌, ◌++◌, inl, inr, refl, sym, ap, ◌∙◌, subst, arith, append_assoc, true, cond, not, ◌&&◌, ◌⊎◌, Option, Some, None}
use Rattle.std.specs.Ordering.{is_lt}
use Rattle.std.specs.FinMap.{empty}
use Rattle.std.proofs.lemmas.Bool.{cases_lt}
use Rattle.calvin_app.specs.Meaning.{Meaning, WritesWithin}
use Rattle.calvin_bench.specs.Turns.{site_of, HasTurn}
use Rattle.calvin_bench.proofs.Growth.{rises_across}
use Rattle.calvin_bench.proofs.OnePartition.{Keeps}
use Rattle.calvin_node_acts.specs.NodeStates.{NodeState}
use Rattle.calvin_node_acts.specs.Acting.{lock, lock_by, lock_first}
use Rattle.calvin_node_acts.specs.Handling.{NodeDeed}
use Rattle.calvin_node_packets.specs.declared.packet.Packet.{Packet}
use Rattle.calvin_order.proofs.Places.{before_by_epoch, before_end, is_lt_false}
use Rattle.calvin_order.proofs.Standing.{stands_split, stands_left, stands_right}
use Rattle.calvin_order.proofs.Epochs.{stretch_on, stretch_same, stretch_rises, stretch_stands, stands_within, stands_beyond}
use Rattle.calvin_order.specs.Configs.{stretch, order}
use Rattle.calvin_order.specs.Merged.{Assignment}
use Rattle.calvin_sched.specs.Scheduling.{Turn, is_before, is_past}
use Rattle.calvin_sched.specs.Steps.{admitted}
use Rattle.calvin_sched.specs.Standing.{local_places}
use Rattle.calvin_types.proofs.PlaceOrder.{not_before_itself}
use Rattle.calvin_types.specs.Orders.{Order, StandsAt, Rises}
use Rattle.calvin_types.specs.Participants.{has_local_key}
use Rattle.calvin_types.specs.Places.{place_cmp, IsBefore}
use Rattle.calvin_types.specs.Deeds.{Refuses, Does}
use Rattle.calvin_types.specs.declared.fault.Fault.{Fault}
use Rattle.calvin_types.specs.declared.fault.Fault.TheVariants.{AdmittedOutOfOrder, NothingToLock}
use Rattle.calvin_types.specs.declared.place.NodeId.{NodeId}
use Rattle.calvin_types.specs.declared.place.Place.{Place}
use Rattle.calvin_types.specs.declared.txn.Txn.{Txn}
use Rattle.calvin_world.proofs.Kept.{Kept, its_id}
use Rattle.calvin_bench.proofs.Lists.{get_map}
use Rattle.calvin_world.proofs.Mirror.{one_chosen, since, Bounds, mirror_node, Mirrored}
use Rattle.calvin_world.specs.Promises.{loaded_epochs, IsNode, IsChosenUpTo, IsHanded}
use Rattle.calvin_world.specs.Worlds.{WorldState, index_of}

module _ {Args Row Reply : Type 0} (m : Meaning Args Row Reply) (law : WritesWithin m) (w : WorldState Args Row Reply) (kept : Kept w) (mirrored : Mirrored m law w) where
  abbrev B : Assignment Args
  B = mirrored.batches

  abbrev all : ℕ
  all = mirrored.epochs

  -- the first epochs are the same in every assignment of what is chosen
  pub same_order : (C : Assignment Args) (n : ℕ) → n ≤ all → IsChosenUpTo w C n → order w.config B n ≡ order w.config C n
  same_order C n upto chosen = stretch_same w.config B C 0 n (λ slot low high less.
      let early : slot.epoch < n = omega (arith, high) in
      one_chosen w kept slot (B slot) (C slot) (mirrored.chosen slot (omega (arith, early, upto)) less) (chosen slot early less))

  module _ (id : NodeId) (x : NodeState Args Row) (is : IsNode w id x) where
    abbrev later : Order Args
    later = stretch w.config B x.merged_epochs (all - x.merged_epochs)

    bounds : Bounds w.config B all x
    bounds = mirrored.bounds (index_of w.config.partitions id) x is.there

    keeps : Keeps m (order w.config B all) empty (site_of w.config.partitions x.id.partition) (x.pending ++ later) x.scheduler
    keeps = (mirrored.keeps.nodes (index_of w.config.partitions id) (mirror_node w.config B all x) (get_map (mirror_node w.config B all) w.nodes (index_of w.config.partitions id) x is.there)).keeps

    reach : loaded_epochs x + (x.merged_epochs - loaded_epochs x) ≡ x.merged_epochs
    reach = let l = bounds.loaded in omega (arith, l)

    -- what has a turn isn't pending
    not_pending : (q : Place) (turn : Turn Args Row) → HasTurn x.scheduler q turn → (t : Txn Args) → StandsAt x.pending q t → ⊥
    not_pending q turn has t at = not_before_itself q (keeps.ahead q turn has q t (stands_left x.pending later q t at))

    turn_in : (q : Place) (turn : Turn Args Row) → HasTurn x.scheduler q turn → StandsAt bounds.passed.gone q turn.request
    turn_in q turn has = elim (stands_split bounds.passed.gone x.pending q turn.request (subst (λ es. StandsAt es q turn.request) (sym bounds.passed.whole) within)) [
      | inl here ↦ here
      | inr there ↦ absurd (not_pending q turn has turn.request there)
    ]
      where
        low : (q.epoch < loaded_epochs x) ⊎ (loaded_epochs x ≤ q.epoch) → loaded_epochs x ≤ q.epoch
        low (inl early) = absurd ((keeps.known q turn has).1 (before_by_epoch q x.scheduler.opened_from early))
        low (inr new) = new

        in_all : StandsAt (order w.config B all) q turn.request
        in_all = (keeps.known q turn has).0

        high : (q.epoch < x.merged_epochs) ⊎ (x.merged_epochs ≤ q.epoch) → q.epoch < x.merged_epochs
        high (inl early) = early
        high (inr late) =
            let top = (stretch_stands w.config B 0 all q turn.request in_all).1 in
            let most = bounds.merged_in in
            let at : StandsAt later q turn.request = stands_within w.config B 0 all x.merged_epochs (all - x.merged_epochs) q turn.request (omega arith) (omega (arith, most)) late (omega (arith, most, top)) in_all in
            absurd (not_before_itself q (keeps.ahead q turn has q turn.request (stands_right x.pending later q turn.request at)))

        within : StandsAt (since w.config B x) q turn.request
        within =
            let most = bounds.merged_in in
            let below = high (cases_lt q.epoch x.merged_epochs) in
            stands_within w.config B 0 all (loaded_epochs x) (x.merged_epochs - loaded_epochs x) q turn.request (omega arith) (omega (arith, reach, most)) (low (cases_lt q.epoch (loaded_epochs x))) (omega (arith, reach, below)) in_all

    has_turn : (q : Place) (t : Txn Args) → StandsAt bounds.passed.gone q t → has_local_key (site_of w.config.partitions x.id.partition) t ≡ true → (turn : Turn Args Row) × HasTurn x.scheduler q turn
    has_turn q t at local = elim (keeps.seen q t in_all not_opened local) [
      | inl waits ↦ absurd (elim (stands_split x.pending later q t waits) [
        | inl here ↦ not_before_itself q (rises_across bounds.passed.gone x.pending (subst Rises (sym bounds.passed.whole) (stretch_rises w.config B (loaded_epochs x) (x.merged_epochs - loaded_epochs x))) q t at q t here)
        | inr late ↦ let top = (stretch_stands w.config B (loaded_epochs x) (x.merged_epochs - loaded_epochs x) q t within).1 in let low = (stretch_stands w.config B x.merged_epochs (all - x.merged_epochs) q t late).0 in omega (arith, reach, top, low)
      ])
      | inr has ↦ has
    ]
      where
        within : StandsAt (since w.config B x) q t
        within = subst (λ es. StandsAt es q t) bounds.passed.whole (stands_left bounds.passed.gone x.pending q t at)

        in_all : StandsAt (order w.config B all) q t
        in_all = let most = bounds.merged_in in stands_beyond w.config B 0 all (loaded_epochs x) (x.merged_epochs - loaded_epochs x) q t (omega arith) (omega (arith, reach, most)) within

        not_opened : IsBefore q x.scheduler.opened_from → ⊥
        not_opened first =
            let early = before_end q (loaded_epochs x) (subst (λ k. IsBefore q (record { epoch = loaded_epochs x; n = k })) bounds.at_end first) in
            let low = (stretch_stands w.config B (loaded_epochs x) (x.merged_epochs - loaded_epochs x) q t within).0 in
            omega (arith, early, low)

    pub is_handed : (C : Assignment Args) → IsChosenUpTo w C x.merged_epochs → IsHanded w.config C id x
    is_handed C chosen = record {
      passed = bounds.passed.gone;
      whole = append_assoc (order w.config C (loaded_epochs x)) bounds.passed.gone x.pending
          ∙ ap (λ es. order w.config C (loaded_epochs x) ++ es) bounds.passed.whole
          ∙ ap (λ es. es ++ since w.config B x) (sym (same_order C (loaded_epochs x) low (λ slot early less. chosen slot (let l = bounds.loaded in omega (arith, early, l)) less)))
          ∙ sym (stretch_on w.config B 0 (loaded_epochs x) (x.merged_epochs - loaded_epochs x) x.merged_epochs (loaded_epochs x) (sym reach) (omega arith))
          ∙ same_order C x.merged_epochs bounds.merged_in chosen;
      turns = turn_in;
      admitted = λ q t at local. has_turn q t at (subst (λ (i : NodeId). has_local_key (site_of w.config.partitions i.partition) t ≡ true) (sym (its_id w kept id x is)) local);
      due = bounds.due ∙ (λ i. local_places (site_of w.config.partitions (its_id w kept id x is i).partition) (sym bounds.passed.whole i));
    }
      where
        low : loaded_epochs x ≤ all
        low = let a = bounds.loaded in let b = bounds.merged_in in omega (arith, a, b)

    -- the first pending request is past the last one, and of no epoch of the loaded snapshot
    first_free : (q : Place) (t : Txn Args) (rest : Order Args) → x.pending ≡ (q, t) ∷ rest → (is_past x.scheduler.last q && not (is_before q x.scheduler.opened_from)) ≡ true
    first_free q t rest first = λ i. past x.scheduler.last refl i && not (is_lt_false (place_cmp q x.scheduler.opened_from) not_opened i)
      where
        at : StandsAt x.pending q t
        at = subst (λ es. StandsAt es q t) (sym first) (inl (refl, refl))

        past : (o : Option Place) → x.scheduler.last ≡ o → is_past o q ≡ true
        past None e = refl
        past (Some p) e =
            let known = bounds.passed.last p e in
            ap is_lt (rises_across bounds.passed.gone x.pending (subst Rises (sym bounds.passed.whole) (stretch_rises w.config B (loaded_epochs x) (x.merged_epochs - loaded_epochs x))) p known.0 known.1 q t at)

        not_opened : IsBefore q x.scheduler.opened_from → ⊥
        not_opened first =
            let early = before_end q (loaded_epochs x) (subst (λ k. IsBefore q (record { epoch = loaded_epochs x; n = k })) bounds.at_end first) in
            let low = (stretch_stands w.config B (loaded_epochs x) (x.merged_epochs - loaded_epochs x) q t (subst (λ es. StandsAt es q t) bounds.passed.whole (stands_right bounds.passed.gone x.pending q t at))).0 in
            omega (arith, early, low)

    -- so a locking is refused only where nothing is pending
    pub lock_refuses : (f : Fault) → ◌≡◌ {A = NodeDeed Args Row Reply} (lock w.config x) (Refuses f) → (f ≡ NothingToLock) × (x.pending ≡ [])
    lock_refuses f e = go x.pending refl e
      where
        never : {next : NodeState Args Row} {sent : List (Packet Args Row Reply)} → ◌≡◌ {A = NodeDeed Args Row Reply} (Does next sent) (Refuses f) → ⊥
        never e = cc

        go : (pending : Order Args) → x.pending ≡ pending → ◌≡◌ {A = NodeDeed Args Row Reply} (lock_first w.config x pending) (Refuses f) → (f ≡ NothingToLock) × (x.pending ≡ [])
        go [] is e = (cc, is)
        go ((q, t) ∷ rest) is e = absurd (never (sym (ap (λ b. lock_by x rest (cond b (Does (admitted (site_of w.config.partitions x.id.partition) x.scheduler q t) tt) (Refuses AdmittedOutOfOrder))) (first_free q t rest is)) ∙ e))

  -- of two nodes the order of the one that merged less is a beginning of the other's
  pub begins : (a b : NodeId) (x y : NodeState Args Row) → IsNode w a x → IsNode w b y → x.merged_epochs ≤ y.merged_epochs → (C D : Assignment Args) → IsChosenUpTo w C x.merged_epochs → IsChosenUpTo w D y.merged_epochs
      → (rest : Order Args) × (order w.config D y.merged_epochs ≡ order w.config C x.merged_epochs ++ rest)
  begins a b x y is_a is_b upto C D chosen also =
      let top = (mirrored.bounds (index_of w.config.partitions b) y is_b.there).merged_in in
      let more = y.merged_epochs - x.merged_epochs in (
        stretch w.config B x.merged_epochs more,
        sym (same_order D y.merged_epochs top also)
            ∙ stretch_on w.config B 0 x.merged_epochs more y.merged_epochs x.merged_epochs (omega (arith, upto)) (omega arith)
            ∙ ap (λ es. es ++ stretch w.config B x.merged_epochs more) (same_order C x.merged_epochs (omega (arith, upto, top)) chosen),
      )
